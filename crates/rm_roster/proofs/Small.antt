-- What small tables say, and their first refusals.
use Rattle.std.proofs.Common.{◌≡◌, List, [], ◌∷◌, Some, None, codes, refl, replicate}
use Rattle.rm_base.specs.Checks.{first_of}
use Rattle.rm_base.specs.Codes.{refuse}
use Rattle.rm_base.specs.Text.{Text}
use Rattle.rm_table.specs.Rows.{Row}
use Rattle.rm_roster.specs.Roster.{roster_checks, roster_of}
use Rattle.rm_roster.proofs.OnLiterals.{roster_on_literals}

hospitals : List Row
hospitals =
    (codes "hospital" ∷ codes "prefecture" ∷ codes "capacity" ∷ codes "target" ∷ [])
    ∷ (codes "H1" ∷ codes "P" ∷ codes "1" ∷ codes "0" ∷ [])
    ∷ (codes "H2" ∷ codes "P" ∷ codes "1" ∷ [])
    ∷ []

hospital : Text → Text → List Row
hospital name capacity =
    (codes "hospital" ∷ codes "prefecture" ∷ codes "capacity" ∷ codes "target" ∷ []) ∷ (name ∷ codes "P" ∷ capacity ∷ []) ∷ []

doctors : List Row → List Row
doctors rows = (codes "doctor" ∷ codes "choices" ∷ []) ∷ rows

ranks : List Row → List Row
ranks rows = (codes "hospital" ∷ codes "doctors" ∷ []) ∷ rows

-- one doctor with two choices, one of which ranks him
accepted : first_of (roster_checks hospitals (doctors ((codes "A" ∷ codes "H1" ∷ codes "H2" ∷ []) ∷ [])) (ranks ((codes "H2" ∷ codes "A" ∷ []) ∷ []))) ≡ None
unfolding roster_on_literals hospitals doctors ranks
accepted = refl

said : roster_of hospitals (doctors ((codes "A" ∷ codes "H1" ∷ codes "H2" ∷ []) ∷ [])) (ranks ((codes "H2" ∷ codes "A" ∷ []) ∷ []))
    ≡ record {
      hospitals = codes "H1" ∷ codes "H2" ∷ [];
      prefectures = codes "P" ∷ [];
      doctors = codes "A" ∷ [];
      prefecture_of = 0 ∷ 0 ∷ [];
      capacities = 1 ∷ 1 ∷ [];
      targets = 0 ∷ 0 ∷ [];
      lists = (0 ∷ 1 ∷ []) ∷ [];
      ranks = [] ∷ (0 ∷ []) ∷ [];
    }
unfolding roster_on_literals hospitals doctors ranks
said = refl

unknown_choice : first_of (roster_checks hospitals (doctors ((codes "A" ∷ codes "H1" ∷ codes "H9" ∷ []) ∷ [])) (ranks [])) ≡ Some (refuse 19 2 1 3)
unfolding roster_on_literals hospitals doctors ranks
unknown_choice = refl

-- a name that is the front of another
cut_name : first_of (roster_checks (hospital (codes "Hama") (codes "1")) (doctors ((codes "A" ∷ codes "Ha" ∷ []) ∷ [])) (ranks [])) ≡ Some (refuse 19 2 1 2)
unfolding roster_on_literals hospital doctors ranks
cut_name = refl

greatest_capacity : first_of (roster_checks (hospital (codes "H1") (codes "10000")) (doctors []) (ranks [])) ≡ None
unfolding roster_on_literals hospital doctors ranks
greatest_capacity = refl

above_capacity : first_of (roster_checks (hospital (codes "H1") (codes "10001")) (doctors []) (ranks [])) ≡ Some (refuse 17 1 1 3)
unfolding roster_on_literals hospital doctors ranks
above_capacity = refl

longest_name : first_of (roster_checks (hospital (replicate 64 0x61) (codes "1")) (doctors []) (ranks [])) ≡ None
unfolding roster_on_literals hospital doctors ranks
longest_name = refl

longer_name : first_of (roster_checks (hospital (replicate 65 0x61) (codes "1")) (doctors []) (ranks [])) ≡ Some (refuse 14 1 1 1)
unfolding roster_on_literals hospital doctors ranks
longer_name = refl

repeated_doctor : first_of (roster_checks hospitals (doctors ((codes "A" ∷ codes "H1" ∷ []) ∷ (codes "A" ∷ codes "H1" ∷ []) ∷ [])) (ranks [])) ≡ Some (refuse 15 2 2 1)
unfolding roster_on_literals hospitals doctors ranks
repeated_doctor = refl

repeated_choice : first_of (roster_checks hospitals (doctors ((codes "A" ∷ codes "H1" ∷ []) ∷ [])) (ranks ((codes "H1" ∷ codes "A" ∷ codes "A" ∷ []) ∷ []))) ≡ Some (refuse 21 3 1 3)
unfolding roster_on_literals hospitals doctors ranks
repeated_choice = refl

repeated_row : first_of (roster_checks hospitals (doctors ((codes "A" ∷ []) ∷ [])) (ranks ((codes "H2" ∷ []) ∷ (codes "H1" ∷ []) ∷ (codes "H2" ∷ []) ∷ []))) ≡ Some (refuse 22 3 3 1)
unfolding roster_on_literals hospitals doctors ranks
repeated_row = refl

-- the header of the last file, after all rows of the others
wrong_header : first_of (roster_checks hospitals (doctors ((codes "A" ∷ []) ∷ [])) []) ≡ Some (refuse 13 3 0 1)
unfolding roster_on_literals hospitals doctors
wrong_header = refl
