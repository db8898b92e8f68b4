-- What a nation's policy asks of a roster, and that it is then accepted.
use Rattle.std.specs.Prelude.{◌≡◌, ℕ, ◌≤◌, List, length, codes, None}
use Rattle.toml.specs.Data.{table}
use Rattle.rm_base.specs.Checks.{first_of}
use Rattle.rm_market.specs.Tree.{tree_fault}
use Rattle.rm_table.specs.Rows.{Row}
use Rattle.rm_roster.specs.Roster.{RosterData, roster_of}
use Rattle.rm_policy.specs.Policy.{policy_checks, policy_of}
use Rattle.rm_policy.specs.Prefectures.{targets_of}
use Rattle.rm_policy.specs.Values.{document_of}
use Rattle.rm_drill_laws.specs.Numbered.{names_up_to}
use Rattle.rm_drill.specs.Files.{cap, hospital_rows, policy_text}
use Rattle.rm_drill.specs.Hospitals.{prefecture_count}
use Rattle.rm_nation_laws.specs.Document.{AreCaps, nation_members}

-- the prefectures are P01 to P47, the caps are caps, and the targets of each prefecture fit under its cap
pub record SuitsNation (capacities targets : List ℕ) (r : RosterData) : Type 0 where
  pub prefectures : r.prefectures ≡ names_up_to (codes "P") 2 prefecture_count
  pub caps : AreCaps capacities targets
  pub fit : (q : ℕ) → targets_of r q ≤ cap capacities targets q

-- no check of the policy finds a fault
abbrev pub PolicyPasses : Type 0
PolicyPasses = (capacities targets : List ℕ) (r : RosterData) → SuitsNation capacities targets r
    → first_of (policy_checks r (document_of (policy_text capacities targets))) ≡ None

-- the roster of a nation's hospitals, with any lists
abbrev pub nation_roster : List ℕ → List ℕ → List Row → List Row → RosterData
nation_roster capacities targets doctors ranks = roster_of (hospital_rows capacities targets (length capacities)) doctors ranks

abbrev pub RosterSuits : List ℕ → List ℕ → Type 0
RosterSuits capacities targets = (doctors ranks : List Row) → SuitsNation capacities targets (nation_roster capacities targets doctors ranks)

-- the sets of the policy's groups, the prefectures, make a tree
abbrev pub GroupsPass : List ℕ → List ℕ → Type 0
GroupsPass capacities targets = (doctors ranks : List Row)
    → tree_fault (policy_of (nation_roster capacities targets doctors ranks) (table (nation_members capacities targets))).groups.members ≡ None
