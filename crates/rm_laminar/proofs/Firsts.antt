-- The least hospital of a node.
use Rattle.std.proofs.Common.{◌≡◌, ℕ, ◌+◌, ◌-◌, ◌<◌, ◌≤◌, List, [], ◌∷◌, get_or, length, ⊎_elim, arith}
use Rattle.std.proofs.lemmas.Bool.{cases_lt}
use Rattle.rm_sets.specs.Sets.{IsIn}
use Rattle.rm_sets.proofs.Sets.{IsIn-here}
use Rattle.rm_sets.proofs.Members.{IsIn-get_or, not_in_nil}
use Rattle.rm_market.specs.Tree.{set_of, least, tree_sets}
use Rattle.rm_laminar.specs.Chains.{AreChains, AreHospitalGroups}
use Rattle.rm_laminar.proofs.Laminar.{some-member}
use Rattle.rm_laminar.proofs.Trees.{tree-length, set-hospital, set-group}

longer : (S : List ℕ) (x : ℕ) → IsIn x S → 0 < length S
longer [] x i = absurd (not_in_nil x i)
longer (y ∷ S) x i = omega arith

-- it is one of the node's own
pub least-there : (hospitals : ℕ) (groups chains : List (List ℕ)) (k : ℕ) → AreHospitalGroups hospitals groups → AreChains hospitals groups chains → k < length (tree_sets hospitals groups)
    → IsIn (least (tree_sets hospitals groups) k) (set_of (tree_sets hospitals groups) k) × (least (tree_sets hospitals groups) k < hospitals)
least-there hospitals groups chains k gs c lt = ⊎_elim
    (λ (less : k < hospitals). rw (set-hospital hospitals groups k less) (IsIn-here k [], less))
    (λ (le : hospitals ≤ k).
    let place : k ≡ hospitals + (k - hospitals) = omega arith in
    let within : k - hospitals < length groups = (let n = rw tree-length at lt in omega arith) in
    let some = some-member (get_or groups (k - hospitals) []) (c.filled (k - hospitals) within) in
    let long = longer (get_or groups (k - hospitals) []) some.0 some.1 in
    let first = IsIn-get_or (get_or groups (k - hospitals) []) 0 0 long in
    rw (place, set-group hospitals groups (k - hospitals)) (first, (gs.sets (k - hospitals) within).below (get_or (get_or groups (k - hospitals) []) 0 0) first))
    (cases_lt k hospitals)
