-- The nodes that contain each hospital, kept in order.
use Rattle.std.specs.Prelude.{◌≡◌, ◌+◌, ◌<◌, ◌≤◌, ◌&&◌, ℕ, Bool, true, nat_lt, List, [], ◌∷◌, length, map, if◌then◌else◌, count_by, get_or, Option, Some, None, Result, Ok, Err, IsFalse}
use Rattle.std.specs.Global.{Vec}
use Rattle.rm_sets.specs.Sets.{has, IsIn, IsSet, IsSetBelow}
use Rattle.rm_base.specs.declared.codes.TheConstants.{MOST_HOSPITALS, MOST_GROUPS, MOST_DEPTH}
use Rattle.rm_market.specs.Board.{is_empty, crosses}
use Rattle.rm_market.specs.Tree.{set_of, is_inside, tree_sets}
use Rattle.rm_market.specs.declared.TreeFault.{TreeFault}
use Rattle.rm_market.specs.declared.TreeFault.TheVariants.{NoMemory}

-- each stands before all that follow
unfoldable pub IsOrdered : (ℕ → ℕ → Bool) → List ℕ → Type 0
IsOrdered first [] = Unit {0}
IsOrdered first (x ∷ xs) = ((y : ℕ) → IsIn y xs → first x y ≡ true) × IsOrdered first xs

-- sets of which no two cross
pub record IsLaminar (sets : List (List ℕ)) : Type 0 where
  pub are_sets : (k : ℕ) → IsSet (set_of sets k)
  pub apart : (i j : ℕ) → i < j → j < length sets → IsFalse (crosses (set_of sets i) (set_of sets j))

-- the nodes that have a leaf, innermost first
pub record IsOrderedChain (sets : List (List ℕ)) (leaf : ℕ) (nodes : List ℕ) : Type 0 where
  pub ordered : IsOrdered (is_inside sets) nodes
  pub each : (k : ℕ) → has k nodes ≡ (nat_lt k (length sets) && has leaf (set_of sets k))

-- the chain of each hospital, where the groups are laminar
pub record AreChains (hospitals : ℕ) (groups lists : List (List ℕ)) : Type 0 where
  pub laminar : IsLaminar (tree_sets hospitals groups)
  pub filled : (g : ℕ) → g < length groups → IsFalse (is_empty (get_or groups g []))
  pub each_hospital : length lists ≡ hospitals
  pub chains : (h : ℕ) → h < hospitals → IsOrderedChain (tree_sets hospitals groups) h (get_or lists h [])
  pub shallow : (h : ℕ) → h < hospitals → length (get_or lists h []) ≤ MOST_DEPTH
  pub depths : (h : ℕ) → h < hospitals → length (get_or lists h []) ≡ count_by (has h) groups + 1

-- the lists of vectors
abbrev pub chain_lists : List (Vec ℕ) → List (List ℕ)
chain_lists vectors = map (λ v. v.items) vectors

-- the groups of so many hospitals, each as a set
pub record AreHospitalGroups (hospitals : ℕ) (groups : List (List ℕ)) : Type 0 where
  pub few_hospitals : hospitals ≤ MOST_HOSPITALS
  pub few_groups : length groups ≤ MOST_GROUPS
  pub sets : (g : ℕ) → g < length groups → IsSetBelow hospitals (get_or groups g [])

-- each list that is asked for was changed
pub record AreChanged (change : List ℕ → List ℕ) (old new : List (List ℕ)) (asked : List ℕ) : Type 0 where
  pub lengths : length new ≡ length old
  pub each : (h : ℕ) → h < length old → get_or new h [] ≡ (if has h asked then change (get_or old h []) else get_or old h [])

-- node k is larger than a set of so many
abbrev pub is_larger : ℕ → List (List ℕ) → ℕ → ℕ → Bool
is_larger size sets n k = nat_lt size (length (set_of sets k))

-- the answer to a group with this first fault
abbrev pub PassesChains : Option TreeFault → Result (Unit {0}) TreeFault → Type 0
PassesChains first (Ok _) = first ≡ None
PassesChains first (Err NoMemory) = Unit {0}
PassesChains first (Err fault) = first ≡ Some fault

-- the answer to groups with this first fault
abbrev pub HasChains : Option TreeFault → ℕ → List (List ℕ) → Result (List (List ℕ)) TreeFault → Type 0
HasChains first hospitals groups (Ok lists) = (first ≡ None) × AreChains hospitals groups lists
HasChains first hospitals groups (Err NoMemory) = Unit {0}
HasChains first hospitals groups (Err fault) = first ≡ Some fault
