-- The top of a policy, item 0.
use Rattle.std.specs.Prelude.{Bool, true, false, not, ◌&&◌, List, [], ◌∷◌, Option, unwrap_or, if◌then◌else◌}
use Rattle.toml.specs.Data.{Data}
use Rattle.rm_base.specs.Checks.{check}
use Rattle.rm_base.specs.declared.Refusal.{Refusal}
use Rattle.rm_base.specs.declared.codes.TheConstants.{KEY_NOT_FOR_KIND}
use Rattle.rm_policy.specs.Keys.{key_number}
use Rattle.rm_policy.specs.Values.{version, kind, ties, pairs, tables}
use Rattle.rm_policy.specs.Entries.{policy_refusal, read_at, is_present, required, optional, elements_at, only_keys}
use Rattle.rm_policy.specs.declared.Kind.{Kind}
use Rattle.rm_policy.specs.declared.Kind.TheVariants as kinds
use Rattle.rm_policy.specs.declared.Ties.{Ties}
use Rattle.rm_policy.specs.declared.Ties.TheVariants as tie
use Rattle.rm_policy.specs.declared.keys.Key.{Key}
use Rattle.rm_policy.specs.declared.keys.Key.TheVariants as key

abbrev pub top_keys : List Key
top_keys = key.Version ∷ key.Kind ∷ key.Ties ∷ key.Listed ∷ key.Prefecture ∷ key.Group ∷ key.Hospital ∷ []

abbrev pub kind_in : Data → Kind
kind_in d = unwrap_or (read_at kind key.Kind d) kinds.Steps

abbrev pub ties_in : Data → Ties
ties_in d = unwrap_or (read_at ties key.Ties d) tie.ByRank

abbrev pub is_flexible : Kind → Bool
is_flexible kinds.Flexible = true
is_flexible kinds.Steps = false

abbrev pub are_listed : Ties → Bool
are_listed tie.Listed = true
are_listed tie.ByRank = false
are_listed tie.ByHospital = false

-- a key that is there and may not be
abbrev pub only_where : Bool → Key → Data → Option Refusal
only_where allowed k d = check (not allowed && is_present k d) (policy_refusal KEY_NOT_FOR_KIND 0 (key_number k))

-- a list of ties is required where the ties are listed, and its shape is checked in any case
abbrev pub listed_check : Ties → Data → Option Refusal
listed_check t d = if are_listed t then required pairs key.Listed 0 d else optional pairs key.Listed 0 d

abbrev pub top_checks : Data → List (Option Refusal)
top_checks d =
    only_keys top_keys 0 d
    ∷ required version key.Version 0 d
    ∷ required kind key.Kind 0 d
    ∷ optional ties key.Ties 0 d
    ∷ listed_check (ties_in d) d
    ∷ optional tables key.Prefecture 0 d
    ∷ optional tables key.Group 0 d
    ∷ optional tables key.Hospital 0 d
    ∷ only_where (are_listed (ties_in d)) key.Listed d
    ∷ only_where (not (is_flexible (kind_in d))) key.Group d
    ∷ only_where (not (is_flexible (kind_in d))) key.Hospital d
    ∷ []

-- ---- the entries, each kind in the order of the file

abbrev pub prefecture_entries : Data → List Data
prefecture_entries d = elements_at tables key.Prefecture d

abbrev pub group_entries : Data → List Data
group_entries d = elements_at tables key.Group d

abbrev pub hospital_entries : Data → List Data
hospital_entries d = elements_at tables key.Hospital d
