-- An offer to what a fast holder holds.
use Rattle.std.proofs.lemmas.Int.{ints}
use Rattle.std.proofs.Common.{not, ◌&&◌, map, ◌-ℤ◌, ◌≡◌, ◌∙◌, ℕ, ◌<◌, ◌≤◌, List, true, false, sym, ap, subst, ⊎_elim, arith}
use Rattle.std.proofs.lemmas.Bool.{cases_eq}
use Rattle.rm_sets.specs.Sets.{has, IsIn, IsSet, IsSetBelow, IsWithin, with_one, without}
use Rattle.rm_sets.proofs.Sets.{same_sets, IsSet-with_one, IsSet-without}
use Rattle.rm_sets.proofs.Members.{within_refl, IsIn-with_one_new, not_in_without, IsSetBelow-with_one}
use Rattle.rm_market.specs.Best.{IsBest, IsValuation, best_of, values_of, swapped}
use Rattle.rm_market.specs.Board.{Board, contract_count, leaf_of, node_at, int_sum}
use Rattle.rm_valuation_laws.specs.Changes.{on, in_node, test_at, next_step, last_step}
use Rattle.rm_board.specs.TieKeys.{tie_key}
use Rattle.rm_valuation_laws.proofs.Moves.{with_other, without_other, swapped_new, swapped_old, swapped_other, apart}
use Rattle.rm_valuation_laws.proofs.Offers.{IsSet-swapped}
use Rattle.rm_valuation_laws.proofs.LaminarExchange.{board_laws}
use Rattle.rm_valuation_laws.proofs.Best.{best_unique, choice_from_bests}
use Rattle.rm_valuation_laws.proofs.BestOf.{best_of_is}
use Rattle.rm_exchange.specs.declared.prospects.Prospects.{Prospects}
use Rattle.rm_exchange.specs.declared.holding.Holding.{Holding}
use Rattle.rm_exchange.specs.Entrants.{HasHospitals}
use Rattle.rm_exchange.specs.Prospects.{swap_change, IsBestRated, IsBestRatedOf, IsSwapping, AreProspects}
use Rattle.rm_exchange.proofs.Leaves.{no_less}
use Rattle.rm_exchange.specs.Holding.{held_in, IsHolding}
use Rattle.rm_exchange.proofs.Held.{held_set}
use Rattle.rm_exchange.proofs.Deciding.{IsOffer}

pub valuation : (b : Board) → HasHospitals b → IsValuation (contract_count b) (values_of b)
valuation b plan = subst (λ n. IsValuation n (values_of b)) plan.leaves (board_laws b plan.concave)

-- what is held is its own best subset
pub own_best : (b : Board) (H : List ℕ) → HasHospitals b → IsSetBelow (contract_count b) H → best_of (values_of b) H ≡ H → IsBest (values_of b) H H
own_best b H plan sH own = subst (IsBest (values_of b) H) own (best_of_is (contract_count b) (values_of b) H (valuation b plan) sH)

pub offered : (b : Board) (places : List ℕ) (h : Holding) (x : ℕ) (p : Prospects) → IsHolding b places h → x < contract_count b → has x (held_in b h) ≡ false → AreProspects b (held_in b h) x p → IsOffer b (held_in b h) x p
offered b places h x p ready lx new prospects =
    let plan = ready.kept.hospitals in
    let sH = held_set (contract_count b) h.marks.items in
    record {
      concave = plan.concave;
      leaves = plan.leaves;
      set = subst (λ n. IsSetBelow n (held_in b h)) (sym plan.leaves) sH;
      contract = subst (λ n. x < n) (sym plan.leaves) lx;
      new = new;
      own = own_best b (held_in b h) plan sH ready.settled;
      prospects = prospects;
    }

-- the best subset D of what is held with x is what is chosen, and its own best subset
pub is_chosen : (b : Board) (H D : List ℕ) (x : ℕ) → HasHospitals b → IsSetBelow (contract_count b) H → x < contract_count b → IsBest (values_of b) (with_one H x) D → best_of (values_of b) (with_one H x) ≡ D
is_chosen b H D x plan sH lx best =
    let sX = IsSetBelow-with_one (contract_count b) H x sH lx in
    best_unique (contract_count b) (values_of b) (with_one H x) (best_of (values_of b) (with_one H x)) D sX (best_of_is (contract_count b) (values_of b) (with_one H x) (valuation b plan) sX) best

pub is_settled : (b : Board) (H D : List ℕ) (x : ℕ) → HasHospitals b → IsSetBelow (contract_count b) H → x < contract_count b → IsSetBelow (contract_count b) D → IsBest (values_of b) (with_one H x) D → best_of (values_of b) D ≡ D
is_settled b H D x plan sH lx sD best =
    let laws = valuation b plan in
    let choice = choice_from_bests (contract_count b) (values_of b) (best_of (values_of b)) laws (λ X s. best_of_is (contract_count b) (values_of b) X laws s) in
    let is = is_chosen b H D x plan sH lx best in
    choice.same D (with_one H x) sD (IsSetBelow-with_one (contract_count b) H x sH lx) best.within (subst (λ C. IsWithin C D) (sym is) (within_refl D)) ∙ is

-- where x replaces a contract, only its leaf counts
swap_change_of : (b : Board) (H : List ℕ) (x y z : ℕ) → leaf_of b y ≡ leaf_of b z → swap_change b H x y ≡ swap_change b H x z
swap_change_of b H x y z same =
    ap (λ l. int_sum (map (λ n. on (in_node b n x && not (has l n.leaves)) (next_step b H n)) b.nodes) -ℤ int_sum (map (λ n. on (has l n.leaves && not (in_node b n x)) (last_step b H n)) b.nodes)) same

-- what is displaced is the greatest one of its leaf, since it is the last one in tie order of the best swaps
pub displaced_greatest : (b : Board) (H : List ℕ) (x : ℕ) (p : Prospects) (tie z : ℕ) → HasHospitals b → IsSetBelow (contract_count b) H → AreProspects b H x p → IsSwapping p tie z → (y : ℕ) → IsIn y H → leaf_of b y ≡ leaf_of b z → y ≤ z
displaced_greatest b H x p tie z plan sH prospects decided y inH same =
    let s = decided.0 in
    let best : IsBestRated b H x (test_at b prospects.node) s = subst (IsBestRatedOf b H x (test_at b prospects.node)) decided.1 prospects.swap in
    let z_is : z ≡ s.contract = decided.2 in
    let leaf : leaf_of b y ≡ leaf_of b s.contract = same ∙ ap (leaf_of b) z_is in
    let passes : test_at b prospects.node y ≡ true = ap (λ l. has l (node_at b prospects.node).leaves) leaf ∙ best.passes in
    let change = swap_change_of b H x y s.contract leaf ∙ sym best.change in
    ⊎_elim
    (λ less. absurd (omega (arith, ints, less, change)))
    (λ tied. subst (λ w. y ≤ w) (sym z_is) (no_less b plan y s.contract (sH.below y inH) leaf (subst (λ w. tie_key b y ≤ w) best.tie tied.1)))
    (best.best y inH passes)

-- x in the place of z is x held too, and z let go
pub swapped_is : (H : List ℕ) (z x : ℕ) → IsSet H → IsIn z H → has x H ≡ false → swapped H x z ≡ without (with_one H x) z
swapped_is H z x s inz out =
    let ne : z ≡ x → ⊥ = apart H z x inz out in
    let other : x ≡ z → ⊥ = λ e. ne (sym e) in
    same_sets (swapped H x z) (without (with_one H x) z) (IsSet-swapped H z x s) (IsSet-without (with_one H x) z (IsSet-with_one H x s))
    (λ y. ⊎_elim
    (λ e. ap (λ w. has w (swapped H x z)) e ∙ (swapped_old H z x ne ∙ (sym (not_in_without (with_one H x) z) ∙ ap (λ w. has w (without (with_one H x) z)) (sym e))))
    (λ nz. ⊎_elim
    (λ e. ap (λ w. has w (swapped H x z)) e ∙ (swapped_new H z x ∙ (sym (without_other (with_one H x) z x other ∙ IsIn-with_one_new H x) ∙ ap (λ w. has w (without (with_one H x) z)) (sym e))))
    (λ nx. swapped_other H z x y nz nx ∙ sym (without_other (with_one H x) z y nz ∙ with_other H x y nx))
    (cases_eq y x))
    (cases_eq y z))

-- so is what a holder holds afterwards
pub settled_by : (b : Board) (H D : List ℕ) (x : ℕ) (next : Holding) → HasHospitals b → IsSetBelow (contract_count b) H → x < contract_count b → IsBest (values_of b) (with_one H x) D → held_in b next ≡ D → best_of (values_of b) (held_in b next) ≡ held_in b next
settled_by b H D x next plan sH lx best is =
    let sD : IsSetBelow (contract_count b) D = subst (IsSetBelow (contract_count b)) is (held_set (contract_count b) next.marks.items) in
    ap (best_of (values_of b)) is ∙ (is_settled b H D x plan sH lx sD best ∙ sym is)

pub chosen_by : (b : Board) (H D : List ℕ) (x : ℕ) (next : Holding) → HasHospitals b → IsSetBelow (contract_count b) H → x < contract_count b → IsBest (values_of b) (with_one H x) D → held_in b next ≡ D → held_in b next ≡ best_of (values_of b) (with_one H x)
chosen_by b H D x next plan sH lx best is = is ∙ sym (is_chosen b H D x plan sH lx best)
