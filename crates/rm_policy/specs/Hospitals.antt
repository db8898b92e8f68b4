-- The entries of hospitals.
use Rattle.std.specs.Prelude.{ℕ, ◌+◌, ◌==◌, nat_lt, List, [], ◌∷◌, ◌++◌, length, map, filter_map, get_or, slice_index, position, ℤ, Option, Some, None, option_map}
use Rattle.toml.specs.Data.{Data, as_str}
use Rattle.rm_sets.specs.Sets.{below}
use Rattle.rm_base.specs.Checks.{check}
use Rattle.rm_names.specs.Names.{place_of}
use Rattle.rm_base.specs.declared.Refusal.{Refusal}
use Rattle.rm_base.specs.declared.codes.TheConstants.{UNKNOWN_ENTRY_NAME, REPEATED_ENTRY, MORE_STEPS_THAN_SEATS}
use Rattle.rm_market.specs.Steps.{steps_of}
use Rattle.rm_roster.specs.Roster.{RosterData}
use Rattle.rm_policy.specs.Values.{runs}
use Rattle.rm_policy.specs.Entries.{policy_refusal, required, only_keys, name_of_entry}
use Rattle.rm_policy.specs.Steps.{runs_in, step_checks}
use Rattle.rm_policy.specs.declared.keys.Key.{Key}
use Rattle.rm_policy.specs.declared.keys.Key.TheVariants as key

abbrev pub hospital_keys : List Key
hospital_keys = key.Name ∷ key.Steps ∷ []

abbrev pub hospital_shape_checks : ℕ → Data → List (Option Refusal)
hospital_shape_checks i e =
    only_keys hospital_keys i e
    ∷ required as_str key.Name i e
    ∷ required runs key.Steps i e
    ∷ []

abbrev pub steps_in : Data → List ℤ
steps_in e = steps_of (runs_in e)

-- the checks of item i of hospital h, where each hospital has this former item
abbrev pub found_hospital_checks : RosterData → (ℕ → Option ℕ) → ℕ → Data → Option ℕ → List (Option Refusal)
found_hospital_checks r former i e None = Some (policy_refusal UNKNOWN_ENTRY_NAME i 0) ∷ []
found_hospital_checks r former i e (Some h) =
    option_map (λ f. policy_refusal REPEATED_ENTRY i f) (former h)
    ∷ step_checks i (runs_in e)
    ++ check (nat_lt (slice_index r.capacities h) (length (steps_in e))) (policy_refusal MORE_STEPS_THAN_SEATS i 0)
    ∷ []

abbrev pub hospital_entry_checks : RosterData → (ℕ → Option ℕ) → ℕ → Data → List (Option Refusal)
hospital_entry_checks r former i e = hospital_shape_checks i e ++ found_hospital_checks r former i e (place_of r.hospitals (name_of_entry e))

-- the hospitals of entries
abbrev pub hospitals_with_entries : RosterData → List Data → List ℕ
hospitals_with_entries r entries = filter_map (λ e. place_of r.hospitals (name_of_entry e)) entries

-- the place among entries of the first that names h
abbrev pub entry_of_hospital : RosterData → List Data → ℕ → Option ℕ
entry_of_hospital r entries h = position (λ n. n == h) (hospitals_with_entries r entries)

-- the checks of an entry, where so many items and these entries stand before it
abbrev pub hospital_entry_checks_after : RosterData → ℕ → List Data → Data → List (Option Refusal)
hospital_entry_checks_after r first before e =
    hospital_entry_checks r (λ h. option_map (λ k. first + (k + 1)) (entry_of_hospital r before h)) (first + (length before + 1)) e

-- the steps of each hospital, where it has an entry
abbrev pub steps_of_hospital : RosterData → List Data → ℕ → Option (List ℤ)
steps_of_hospital r entries h = option_map (λ k. get_or (map steps_in entries) k []) (entry_of_hospital r entries h)

abbrev pub hospital_steps_of : RosterData → List Data → List (Option (List ℤ))
hospital_steps_of r entries = map (steps_of_hospital r entries) (below (length r.hospitals))
