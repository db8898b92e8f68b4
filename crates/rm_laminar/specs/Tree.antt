-- What a tree keeps, and what its calls answer.
use Rattle.std.specs.Prelude.{◌≡◌, ◌+◌, ◌-◌, ◌<◌, ℕ, List, [], length, map, filter, get_or, Option, Some, None, Result, Ok, Err}
use Rattle.rm_sets.specs.Sets.{has, all_below}
use Rattle.rm_market.specs.Tree.{below, least, children, members, sets_of_tree, TreeOf}
use Rattle.rm_market.specs.declared.TreeFault.{TreeFault}
use Rattle.rm_market.specs.declared.TreeFault.TheVariants.{NoMemory}
use Rattle.rm_laminar.specs.Chains.{AreChains, AreHospitalGroups}

-- the groups of which chains tell: of each node past the hospitals, the hospitals that have it
abbrev pub groups_in : ℕ → List (List ℕ) → List (List ℕ)
groups_in nodes chains = map (λ g. all_below (length chains) (λ h. has (length chains + g) (get_or chains h []))) (below (nodes - length chains))

-- the tree of which chains of so many nodes tell
unfoldable pub told : ℕ → List (List ℕ) → TreeOf
told nodes chains = record { hospitals = length chains; groups = groups_in nodes chains }

-- the chains and the least hospitals of the nodes are those of the tree
pub record IsTreeKept (t : TreeOf) (chains : List (List ℕ)) (firsts : List ℕ) : Type 0 where
  pub groups : AreHospitalGroups t.hospitals t.groups
  pub built : AreChains t.hospitals t.groups chains
  pub nodes : length firsts ≡ t.hospitals + length t.groups
  pub firsts_are : (k : ℕ) → k < length firsts → get_or firsts k 0 ≡ least (sets_of_tree t) k

-- the answer to groups with this first fault
abbrev pub BuildsTree : Option TreeFault → TreeOf → Result TreeOf TreeFault → Type 0
BuildsTree first tree (Ok built) = (first ≡ None) × (built ≡ tree)
BuildsTree first tree (Err NoMemory) = Unit {0}
BuildsTree first tree (Err fault) = first ≡ Some fault

-- the children of each node
pub record AreChildren (t : TreeOf) (lists : List (List ℕ)) : Type 0 where
  pub lengths : length lists ≡ length (sets_of_tree t)
  pub each : (n : ℕ) → n < length (sets_of_tree t) → get_or lists n [] ≡ children (sets_of_tree t) n

-- the hospitals of each node, in the order of the walk
pub record AreMembers (t : TreeOf) (lists : List (List ℕ)) : Type 0 where
  pub lengths : length lists ≡ length (sets_of_tree t)
  pub each : (n : ℕ) → n < length (sets_of_tree t) → get_or lists n [] ≡ members (sets_of_tree t) t.hospitals n

-- of an order of the hospitals, those whose chain has the node, for each of so many nodes
pub record AreFiltered (nodes : ℕ) (chains : List (List ℕ)) (order : List ℕ) (lists : List (List ℕ)) : Type 0 where
  pub lengths : length lists ≡ nodes
  pub each : (n : ℕ) → n < nodes → get_or lists n [] ≡ filter (λ h. has n (get_or chains h [])) order
