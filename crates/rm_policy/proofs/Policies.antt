-- Small policies, and the first reason for which each is refused.
use Rattle.std.proofs.Common.{◌≡◌, true, false, ℕ, [], ◌∷◌, ◌++◌, Option, Some, None, refl, map, codes, replicate, pos}
use Rattle.std.specs.Prelude.{flat_map, option_map}
use Rattle.toml.specs.Data.{table, no_members}
use Rattle.rm_base.specs.Checks.{first_of}
use Rattle.rm_base.specs.Codes.{refuse}
use Rattle.rm_base.specs.Text.{Text}
use Rattle.rm_base.specs.declared.Refusal.{Refusal}
use Rattle.rm_roster.specs.Roster.{RosterData}
use Rattle.rm_policy.specs.Values.{document_of}
use Rattle.rm_policy.specs.Prefectures.{prefecture_checks}
use Rattle.rm_policy.specs.Policy.{policy_checks, policy_of}
use Rattle.rm_policy.specs.declared.Kind.TheVariants as kinds
use Rattle.rm_policy.specs.declared.Ties.TheVariants as tie
use Rattle.rm_policy.proofs.OnLiterals.{policy_on_literals}

-- hospitals H1 and H2 of prefecture P and H3 of prefecture Q, with capacities 6, 3, 1 and targets 6, 0, 0
abbrev roster : RosterData
roster = record {
  hospitals = codes "H1" ∷ codes "H2" ∷ codes "H3" ∷ [];
  prefectures = codes "P" ∷ codes "Q" ∷ [];
  doctors = codes "A" ∷ codes "B" ∷ [];
  prefecture_of = 0 ∷ 0 ∷ 1 ∷ [];
  capacities = 6 ∷ 3 ∷ 1 ∷ [];
  targets = 6 ∷ 0 ∷ 0 ∷ [];
  lists = [];
  ranks = [];
}

-- the first refusal of a text
abbrev refusal : Text → Option Refusal
refusal text = first_of (policy_checks roster (document_of text))

abbrev flexible : Text → Text
flexible text = codes "version = 1\nkind = \"flexible\"\n" ++ text

abbrev steps : Text → Text
steps text = codes "version = 1\nkind = \"steps\"\n" ++ text

empty_policy : refusal [] ≡ Some (refuse 32 4 0 1)
unfolding policy_on_literals
empty_policy = refl

-- texts that are no TOML, one of them by its bytes alone
no_document : map refusal (codes "version" ∷ (steps (codes "#") ++ 0xFF ∷ codes "\n") ∷ steps (codes "kind = \"steps\"") ∷ codes "version = 9223372036854775808" ∷ [])
    ≡ Some (refuse 30 4 0 0) ∷ Some (refuse 30 4 0 0) ∷ Some (refuse 30 4 0 0) ∷ Some (refuse 30 4 0 0) ∷ []
unfolding policy_on_literals
no_document = refl

-- an unknown key comes before any bad value
unknown_keys : map refusal (codes "version = 2\nseats = 1\n" ∷ steps (codes "caps = 1\n") ∷ steps (codes "[[group]]\nname = 1\nseats = 1\n") ∷ []) ≡ Some (refuse 31 4 0 0) ∷ Some (refuse 31 4 0 0) ∷ Some (refuse 31 4 1 0) ∷ []
unfolding policy_on_literals
unknown_keys = refl

-- values of the top
bad_at_top : map refusal (codes "version = 2\nkind = \"steps\"\n" ∷ codes "version = 1.0\n" ∷ codes "version = 1\n" ∷ codes "version = 1\nkind = \"step\"\n" ∷ steps (codes "ties = \"rank\"\nlisted = 1\n") ∷ steps (codes "ties = \"listed\"\n") ∷ steps (codes "listed = [[\"A\"]]\n") ∷ steps (codes "ties = \"listed\"\nlisted = [[\"A\", \"H1\", \"H2\"]]\n") ∷ steps (codes "prefecture = 1\n") ∷ steps (codes "group = [1]\n") ∷ flexible (codes "hospital = {}\n") ∷ [])
    ≡ map (λ k. Some (refuse 32 4 0 k)) (1 ∷ 1 ∷ 2 ∷ 2 ∷ 3 ∷ 4 ∷ 4 ∷ 4 ∷ 5 ∷ 6 ∷ 7 ∷ [])
unfolding policy_on_literals
bad_at_top = refl

-- keys that may not be there
not_for_kind : map refusal (steps (codes "listed = []\n") ∷ flexible (codes "group = []\n") ∷ flexible (codes "[[hospital]]\n") ∷ []) ≡ Some (refuse 33 4 0 4) ∷ Some (refuse 33 4 0 6) ∷ Some (refuse 33 4 0 7) ∷ []
unfolding policy_on_literals
not_for_kind = refl

-- the shape of a listed tie order is all that is asked for here
listed_accepted : map refusal (steps (codes "ties = \"listed\"\nlisted = [[\"B\", \"H1\"], [\"A\", \"H1\"], [\"Z\", \"H9\"]]\n") ∷ steps (codes "prefecture = []\n") ∷ []) ≡ None ∷ None ∷ []
unfolding policy_on_literals
listed_accepted = refl

abbrev entry : Text → Text → Text
entry kind text = codes "[[" ++ kind ++ codes "]]\n" ++ text ++ codes "\n"

abbrev prefecture : Text → Text
prefecture text = entry (codes "prefecture") text

abbrev group : Text → Text
group text = entry (codes "group") text

abbrev hospital : Text → Text
hospital text = entry (codes "hospital") text

-- values of entries
bad_in_entries : map (λ text. refusal (steps text)) (prefecture (codes "cap = 1") ∷ prefecture (codes "name = \"P\"") ∷ prefecture (codes "name = \"P\"\ncap = -1") ∷ prefecture (codes "name = \"P\"\ncap = 1000001") ∷ prefecture (codes "name = \"P\"\ncap = 1\norder = [1]") ∷ group (codes "name = \"\"\ncap = 1") ∷ group (codes "name = \"g\"") ∷ group (codes "name = \"g\"\ncap = \"1\"\nsteps = 1") ∷ group (codes "name = \"g\"\ncap = 1\nsteps = []") ∷ group (codes "name = \"g\"\nsteps = [[1]]") ∷ group (codes "name = \"g\"\ncap = 1\nhospitals = \"H1\"") ∷ group (codes "name = \"g\"\ncap = 1\nprefectures = [1]") ∷ group (codes "name = \"g\"\ncap = 1\ngroups = [[]]") ∷ hospital (codes "steps = []") ∷ hospital (codes "name = \"H9\"") ∷ hospital (codes "name = \"H1\"\nsteps = [[1, 1, 1, 1]]") ∷ [])
    ≡ map (λ k. Some (refuse 32 4 1 k)) (8 ∷ 9 ∷ 9 ∷ 9 ∷ 10 ∷ 8 ∷ 9 ∷ 9 ∷ 11 ∷ 11 ∷ 12 ∷ 13 ∷ 14 ∷ 8 ∷ 11 ∷ 11 ∷ [])
unfolding policy_on_literals
bad_in_entries = refl

-- names that are not known; the elements of a group count through its three arrays, whatever their order in the file
unknown_names : map (λ text. refusal (steps text)) (prefecture (codes "name = \"H1\"\ncap = 1") ∷ hospital (codes "name = \"P\"\nsteps = []") ∷ group (codes "name = \"g\"\ncap = 1\nhospitals = [\"H1\", \"P\"]") ∷ group (codes "name = \"g\"\ncap = 1\nprefectures = [\"P\", \"R\"]\nhospitals = [\"H1\"]") ∷ group (codes "name = \"g\"\ncap = 1\ngroups = [\"g\"]\nhospitals = [\"H1\", \"H1\"]") ∷ (group (codes "name = \"g\"\ncap = 1\ngroups = [\"f\"]") ++ group (codes "name = \"f\"\ncap = 1")) ∷ [])
    ≡ map (λ k. Some (refuse 34 4 1 k)) (0 ∷ 0 ∷ 2 ∷ 3 ∷ 3 ∷ 1 ∷ [])
unfolding policy_on_literals
unknown_names = refl

-- names that stand before: of a group this comes before its elements, of a prefecture or hospital it comes after its name
repeated_names : map (λ text. refusal (steps text)) ((prefecture (codes "name = \"P\"\ncap = 1") ++ prefecture (codes "name = \"P\"\ncap = 2")) ∷ (prefecture (codes "name = \"P\"\ncap = 1") ++ group (codes "name = \"P\"\ncap = 1") ++ group (codes "name = \"P\"\ncap = 1\ngroups = [\"z\"]")) ∷ (group (codes "name = \"H1\"\ncap = 1") ++ hospital (codes "name = \"H2\"\nsteps = []") ++ hospital (codes "name = \"H1\"\nsteps = []") ++ hospital (codes "name = \"H2\"\nsteps = [[5, 9]]")) ∷ [])
    ≡ Some (refuse 35 4 2 1) ∷ Some (refuse 35 4 3 2) ∷ Some (refuse 35 4 4 2) ∷ []
unfolding policy_on_literals
repeated_names = refl

-- steps of the second hospital, which has three seats
abbrev seats : Text → Option Refusal
seats runs = refusal (steps (hospital (codes "name = \"H2\"\nsteps = " ++ runs)))

abbrev many_runs : ℕ → Text
many_runs n = codes "[" ++ flat_map {X = Text} (λ run. run) (replicate n (codes "[0, 1],")) ++ codes "]"

bad_steps : map seats (codes "[[3, 2], [5, 1]]" ∷ codes "[[1000000000, 1]]" ∷ codes "[[1000000001, 1]]" ∷ codes "[[0, 0]]" ∷ codes "[[1, 2, -1]]" ∷ codes "[[0, 3]]" ∷ codes "[[0, 4]]" ∷ codes "[]" ∷ many_runs 64 ∷ many_runs 65 ∷ [])
    ≡ Some (refuse 37 4 1 2) ∷ None ∷ Some (refuse 38 4 1 1) ∷ Some (refuse 38 4 1 1) ∷ Some (refuse 37 4 1 1) ∷ None ∷ Some (refuse 40 4 1 0) ∷ None ∷ Some (refuse 40 4 1 0) ∷ Some (refuse 43 4 1 7) ∷ []
unfolding policy_on_literals
bad_steps = refl

-- orders of a prefecture of two hospitals: an element of another prefecture, one twice, one that is none, one missing
orders : map (λ order. refusal (steps (prefecture (codes "name = \"P\"\ncap = 9\norder = " ++ order)))) (codes "[\"H1\", \"H3\"]" ∷ codes "[\"H1\", \"H1\"]" ∷ codes "[\"H2\", \"H1\", \"H9\"]" ∷ codes "[\"H2\"]" ∷ codes "[]" ∷ codes "[\"H2\", \"H1\"]" ∷ [])
    ≡ Some (refuse 39 4 1 2) ∷ Some (refuse 39 4 1 2) ∷ Some (refuse 39 4 1 3) ∷ Some (refuse 39 4 1 2) ∷ Some (refuse 39 4 1 1) ∷ None ∷ []
unfolding policy_on_literals
orders = refl

-- targets that fit under the cap, or don't; with kind `steps` they have no effect
targets : map refusal (flexible (prefecture (codes "name = \"P\"\ncap = 5")) ∷ flexible (prefecture (codes "name = \"P\"\ncap = 6")) ∷ steps (prefecture (codes "name = \"P\"\ncap = 5")) ∷ []) ≡ Some (refuse 42 4 1 6) ∷ None ∷ None ∷ []
unfolding policy_on_literals
targets = refl

-- groups that cross, and a group without hospitals, are no fault of the policy alone
groups_accepted : refusal (steps (group (codes "name = \"x\"\nhospitals = [\"H1\", \"H2\"]\ncap = 1") ++ group (codes "name = \"y\"\nhospitals = [\"H2\", \"H3\"]\ncap = 1") ++ group (codes "name = \"z\"\ncap = 1"))) ≡ None
unfolding policy_on_literals
groups_accepted = refl

-- the limit on groups comes before all else of an entry
too_many_groups : map (λ n. first_of (prefecture_checks roster kinds.Steps (replicate n []) (table no_members))) (4999 ∷ 5000 ∷ []) ≡ Some (refuse 32 4 5000 8) ∷ Some (refuse 43 4 5001 6) ∷ []
unfolding policy_on_literals
too_many_groups = refl

-- what a policy says: the second group holds the first one and a prefecture
told : option_map (policy_of roster) (document_of (steps (codes "ties = \"listed\"\nlisted = [[\"B\", \"H2\"], [\"Z\", \"H3\"]]\n" ++ prefecture (codes "name = \"P\"\ncap = 2\norder = [\"H2\", \"H1\"]") ++ group (codes "name = \"g\"\nhospitals = [\"H2\", \"H2\"]\nsteps = [[5, 2, 3], [1, 1]]") ++ group (codes "name = \"f\"\nprefectures = [\"Q\"]\ngroups = [\"g\"]\ncap = 1") ++ hospital (codes "name = \"H2\"\nsteps = [[7, 1]]"))))
    ≡ Some (record {
      kind = kinds.Steps;
      ties = tie.Listed;
      listed = record { doctor = Some 1; hospital = Some 1 } ∷ record { doctor = None; hospital = Some 2 } ∷ [];
      groups = record { names = codes "P" ∷ codes "g" ∷ codes "f" ∷ []; members = (0 ∷ 1 ∷ []) ∷ (1 ∷ []) ∷ (1 ∷ 2 ∷ []) ∷ []; steps = (pos 0 ∷ pos 0 ∷ []) ∷ (pos 5 ∷ pos 2 ∷ pos 1 ∷ []) ∷ (pos 0 ∷ []) ∷ []; by_cap = true ∷ false ∷ true ∷ [] };
      orders = Some (1 ∷ 0 ∷ []) ∷ [];
      hospital_steps = None ∷ Some (pos 7 ∷ []) ∷ None ∷ [];
    })
unfolding policy_on_literals
told = refl
