-- The policy of a generated nation as a document.
use Rattle.std.specs.Prelude.{◌≡◌, ℕ, ◌≤◌, pos, List, false, map, length, codes, Some}
use Rattle.toml.specs.Data.{Data, string, integer, array, table, Members, member, no_members}
use Rattle.toml.specs.Text.{IsDocumentText}
use Rattle.toml.specs.View.{items_of}
use Rattle.rm_sets.specs.Sets.{below}
use Rattle.rm_base.specs.declared.codes.TheConstants.{GREATEST_CAP, MOST_BYTES}
use Rattle.rm_policy.specs.Values.{document_of}
use Rattle.rm_drill.specs.Files.{cap, policy_text, prefecture_name}
use Rattle.rm_drill.specs.Hospitals.{prefecture_count}

-- the entry of prefecture q
abbrev pub entry_data : List ℕ → List ℕ → ℕ → Data
entry_data capacities targets q =
    table (member (codes "cap") (integer (pos (cap capacities targets q))) (member (codes "name") (string (prefecture_name q)) no_members))

-- those of the first n prefectures
abbrev pub entries_data : List ℕ → List ℕ → ℕ → List Data
entries_data capacities targets n = map (entry_data capacities targets) (below n)

-- a flexible policy with these entries
abbrev pub policy_members : List Data → Members
policy_members entries =
    member (codes "kind") (string (codes "flexible"))
    (member (codes "prefecture") (array (items_of entries)) (member (codes "version") (integer (pos 1)) no_members))

abbrev pub nation_members : List ℕ → List ℕ → Members
nation_members capacities targets = policy_members (entries_data capacities targets prefecture_count)

-- each prefecture's cap is one that a policy may have
abbrev pub AreCaps : List ℕ → List ℕ → Type 0
AreCaps capacities targets = (q : ℕ) → cap capacities targets q ≤ GREATEST_CAP

abbrev pub OfCaps : (List ℕ → List ℕ → Type 0) → Type 0
OfCaps Holds = (capacities targets : List ℕ) → AreCaps capacities targets → Holds capacities targets

-- the text is what `toml` prints of the document
abbrev pub IsPrinted : List ℕ → List ℕ → Type 0
IsPrinted capacities targets = IsDocumentText false (nation_members capacities targets) (policy_text capacities targets)

-- and what is read of it is the document
abbrev pub IsReadBack : List ℕ → List ℕ → Type 0
IsReadBack capacities targets = document_of (policy_text capacities targets) ≡ Some (table (nation_members capacities targets))

-- and it is no longer than a file may be
abbrev pub IsShort : List ℕ → List ℕ → Type 0
IsShort capacities targets = length (policy_text capacities targets) ≤ MOST_BYTES
