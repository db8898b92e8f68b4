-- The market of a folder, or the first refusal of its files.
use Rattle.std.specs.Prelude.{◌≡◌, ℕ, ◌+◌, ◌-◌, nat_lt, List, [], ◌∷◌, ◌++◌, length, get_or, Option, Some, None, Result, Ok, Err, option_map, option_and_then, if◌then◌else◌}
use Rattle.std.specs.Option.{option_map_or}
use Rattle.rm_base.specs.Checks.{check, first_of}
use Rattle.rm_base.specs.Codes.{refuse}
use Rattle.rm_base.specs.Text.{Text, Files}
use Rattle.rm_base.specs.declared.Refusal.{Refusal}
use Rattle.rm_base.specs.declared.codes.TheConstants.{HOSPITALS_FILE, DOCTORS_FILE, RANKS_FILE, POLICY_FILE, FILE_TOO_LONG, MOST_BYTES, GROUP_EMPTY, CROSSING_GROUPS, TOO_MANY_ITEMS, DEPTH_LIMIT, LISTED_NO_CONTRACT, LISTED_REPEATED, LISTED_MISSING, LISTED_AGAINST_RANKS}
use Rattle.rm_market.specs.Board.{Board}
use Rattle.rm_market.specs.Market.{Market, IsMarket, wishes_of}
use Rattle.rm_market.specs.Tree.{tree_fault}
use Rattle.rm_market.specs.Ties.{listed_fault}
use Rattle.rm_market.specs.Flexible.{Region}
use Rattle.rm_market.specs.declared.TreeFault.{TreeFault}
use Rattle.rm_market.specs.declared.TreeFault.TheVariants as tree
use Rattle.rm_market.specs.declared.BoardFault.{BoardFault}
use Rattle.rm_market.specs.declared.BoardFault.TheVariants as board
use Rattle.rm_roster.specs.Roster.{RosterData, IsRoster, roster_checks}
use Rattle.rm_policy.specs.Policy.{PolicyData, IsPolicy, plain, policy_of, policy_checks}
use Rattle.rm_policy.specs.Values.{document_of}
use Rattle.rm_policy.specs.declared.Ties.{Ties}
use Rattle.rm_policy.specs.declared.Ties.TheVariants as ties
use Rattle.rm_case.specs.Folder.{Folder, folder_of, file_checks, rows_in, folder_roster}
use Rattle.rm_case.specs.Compiled.{compiled_board, regions_of}
use Rattle.rm_case.specs.Regions.{RegionsAreCompiled}
use Rattle.rm_case.specs.Suits.{SuitsRoster}
use Rattle.rm_case.specs.declared.case.NodeName.{NodeName}
use Rattle.rm_case.specs.declared.case.NodeName.TheVariants as name

-- ---- what the files say

-- the policy that a file gives for a roster: without a file the plain one
unfoldable pub policy_in : RosterData → Option Text → PolicyData
policy_in r file = option_map_or (policy_of r) (option_and_then document_of file) plain

abbrev pub folder_policy : Folder → PolicyData
folder_policy f = policy_in (folder_roster f) f.policy

-- ---- what may be refused

-- a policy file is too long, or is refused for what it says
unfoldable pub policy_file_checks : RosterData → Option Text → List (Option Refusal)
policy_file_checks r None = []
policy_file_checks r (Some bytes) =
    check (nat_lt MOST_BYTES (length bytes)) (refuse FILE_TOO_LONG POLICY_FILE 0 0) ∷ policy_checks r (document_of bytes)

-- groups are items from 1
abbrev pub tree_refusal : TreeFault → Refusal
tree_refusal (tree.Empty b) = refuse GROUP_EMPTY POLICY_FILE (b + 1) 0
tree_refusal (tree.Crossing a b both only_a only_b) = refuse CROSSING_GROUPS POLICY_FILE (a + 1) (b + 1)
tree_refusal (tree.Deep b) = refuse TOO_MANY_ITEMS POLICY_FILE (b + 1) DEPTH_LIMIT
tree_refusal tree.NoMemory = refuse TOO_MANY_ITEMS POLICY_FILE 0 0

abbrev pub ties_fault : RosterData → PolicyData → Ties → Option BoardFault
ties_fault r p ties.Listed = listed_fault r.ranks p.listed
ties_fault r p ties.ByRank = None
ties_fault r p ties.ByHospital = None

-- elements of the listed order, doctors and hospitals count from 1
abbrev pub ties_refusal : BoardFault → Refusal
ties_refusal (board.Unknown e) = refuse LISTED_NO_CONTRACT POLICY_FILE e 0
ties_refusal (board.Repeated e f) = refuse LISTED_REPEATED POLICY_FILE e f
ties_refusal (board.AgainstRank e f) = refuse LISTED_AGAINST_RANKS POLICY_FILE e f
ties_refusal (board.Missing d h) = refuse LISTED_MISSING POLICY_FILE (d + 1) (h + 1)
ties_refusal board.NoMemory = refuse LISTED_MISSING POLICY_FILE 0 0

-- the groups of a policy make a tree, and its tie order lists each contract once and agrees with the rank lists
abbrev pub board_checks : RosterData → PolicyData → List (Option Refusal)
board_checks r p = option_map tree_refusal (tree_fault p.groups.members) ∷ option_map ties_refusal (ties_fault r p p.ties) ∷ []

-- each table as a file, and then what the tables say
unfoldable pub table_checks : Folder → List (Option Refusal)
table_checks f =
    file_checks HOSPITALS_FILE f.hospitals
    ++ (file_checks DOCTORS_FILE f.doctors
    ++ (file_checks RANKS_FILE f.ranks
    ++ roster_checks (rows_in f.hospitals) (rows_in f.doctors) (rows_in f.ranks)))

-- the tables, then the policy, then its groups, then its tie order
abbrev pub folder_checks : Folder → List (Option Refusal)
folder_checks f = table_checks f ++ (policy_file_checks (folder_roster f) f.policy ++ board_checks (folder_roster f) (folder_policy f))

unfoldable pub folder_refusal : Folder → Option Refusal
folder_refusal f = first_of (folder_checks f)

-- ---- the case of a folder

-- what an accepted folder says
pub record CaseData : Type 0 where
  pub roster : RosterData
  pub policy : PolicyData

abbrev pub case_of : Folder → CaseData
case_of f = record { roster = folder_roster f; policy = folder_policy f }

abbrev pub market : CaseData → Market
market c = record { board = compiled_board c.roster c.policy; lists = c.roster.lists }

abbrev pub regions : CaseData → List Region
regions c = regions_of c.roster c.policy

abbrev pub or_refused : {A : Type 0} → Option Refusal → A → Result A Refusal
or_refused None x = Ok x
or_refused (Some refusal) x = Err refusal

-- the case of the folder F, or its first refusal
abbrev pub market_of : Files → Text → Result CaseData Refusal
market_of files F = or_refused (folder_refusal (folder_of files F)) (case_of (folder_of files F))

-- what holds of every case: a roster, a policy for its hospitals, and a well-formed market, which the regions make if there are any
pub record IsCase (c : CaseData) : Type 0 where
  pub roster : IsRoster c.roster
  pub policy : IsPolicy c.policy
  pub suits : SuitsRoster c.roster c.policy
  pub market : IsMarket (market c)
  pub regions : RegionsAreCompiled c.roster c.policy

-- what is kept with a case: its board and the doctors' listed contracts
pub record IsCaseKept (c : CaseData) (b : Board) (lists : List (List ℕ)) : Type 0 where
  pub case : IsCase c
  pub board : b ≡ (market c).board
  pub listed : lists ≡ (wishes_of (market c)).listed

-- ---- the names of nodes

-- the name of a node: that of its hospital, of the prefecture of its entry, or of its group
pub data NodeTitle : Type 0 where
  hospital : Text → NodeTitle
  prefecture : Text → NodeTitle
  group : Text → NodeTitle

abbrev pub title_of_group : PolicyData → ℕ → NodeTitle
title_of_group p g = if nat_lt g (length p.orders) then prefecture (get_or p.groups.names g []) else group (get_or p.groups.names g [])

-- the title that a value of the program stands for
abbrev pub stands_for : NodeName → NodeTitle
stands_for (name.Hospital text) = hospital text.now
stands_for (name.Prefecture text) = prefecture text.now
stands_for (name.Group text) = group text.now

-- hospitals are the first nodes, then come the prefecture entries, and then the groups
abbrev pub title_of : CaseData → ℕ → NodeTitle
title_of c k =
    if nat_lt k (length c.roster.hospitals) then hospital (get_or c.roster.hospitals k [])
    else title_of_group c.policy (k - length c.roster.hospitals)
