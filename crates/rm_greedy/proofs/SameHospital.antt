-- Contracts of one hospital: to add one of them does what to add another does, and the better ranked one stands first.
use Rattle.std.proofs.Common.{◌≡◌, ◌+◌, ◌<◌, ◌≤◌, ℕ, zero, suc, List, get_or, true, false, map, refl, sym, ap, subst, arith, ◌∙◌}
use Rattle.std.proofs.Math.Path.{fun_ext}
use Rattle.std.specs.List.{list_all}
use Rattle.std.specs.Prelude.{nat_le}
use Rattle.rm_sets.specs.Sets.{has, IsSet, with_one}
use Rattle.rm_market.specs.Board.{Board, IsBoard, contract_count, count, cap_of, hospital_of, int_sum, is_feasible, leaf_of, total, worth}
use Rattle.rm_board_laws.proofs.Contracts.{hospital_ranked}
use Rattle.rm_valuation_laws.specs.Scores.{place}
use Rattle.rm_valuation_laws.proofs.Counts.{one, count-with_one}
use Rattle.rm_valuation_laws.proofs.TieOrder.{place_from_before}
use Rattle.rm_greedy.specs.Heads.{AreLeavesRanked, IsRun}

-- x does for S what y does, and stands no later in tie order
pub record IsAsGood (b : Board) (S : List ℕ) (x y : ℕ) : Type 0 where
  pub feasible : is_feasible b (with_one S x) ≡ is_feasible b (with_one S y)
  pub worth : worth b (with_one S x) ≡ worth b (with_one S y)
  pub tie : place b.ties x ≤ place b.ties y

same_counts : (b : Board) (S : List ℕ) (x y : ℕ) → has x S ≡ false → has y S ≡ false → leaf_of b x ≡ leaf_of b y → ◌≡◌ {A = List ℕ → ℕ} (λ leaves. count b leaves (with_one S x)) (λ leaves. count b leaves (with_one S y))
same_counts b S x y outx outy e =
    fun_ext (λ leaves.
    count-with_one (λ z. has (leaf_of b z) leaves) S x outx
    ∙ (ap (λ l. count b leaves S + one (has l leaves)) e
    ∙ sym (count-with_one (λ z. has (leaf_of b z) leaves) S y outy)))

same_feasible : (b : Board) (S : List ℕ) (x y : ℕ) → has x S ≡ false → has y S ≡ false → leaf_of b x ≡ leaf_of b y → is_feasible b (with_one S x) ≡ is_feasible b (with_one S y)
unfolding is_feasible
same_feasible b S x y outx outy e = ap (λ (f : List ℕ → ℕ). list_all (λ n. nat_le (f n.leaves) (cap_of n)) b.nodes) (same_counts b S x y outx outy e)

same_worth : (b : Board) (S : List ℕ) (x y : ℕ) → has x S ≡ false → has y S ≡ false → leaf_of b x ≡ leaf_of b y → worth b (with_one S x) ≡ worth b (with_one S y)
unfolding worth
same_worth b S x y outx outy e = ap (λ (f : List ℕ → ℕ). int_sum (map (λ n. total n.steps (f n.leaves)) b.nodes)) (same_counts b S x y outx outy e)

-- contracts with one leaf are of one hospital
same_hospital : (doctors : ℕ) (b : Board) (x y : ℕ) → IsBoard doctors b → x < contract_count b → y < contract_count b → leaf_of b x ≡ leaf_of b y → hospital_of b x ≡ hospital_of b y
same_hospital doctors b x y board lx ly e =
    let h = board.hospitals (hospital_of b x) (hospital_ranked b x lx) in
    sym ((h.3 y ly).0 (subst (λ l. has l h.1.leaves ≡ true) e ((h.3 x lx).1 refl)))

pub leaves_ranked : (doctors : ℕ) (b : Board) → IsBoard doctors b → AreLeavesRanked b
leaves_ranked doctors b board x y lt ly e =
    let first = place_from_before x y b.ties board.ties.once (board.ties.agrees x y lt ly (same_hospital doctors b x y board (omega arith) ly e)) in
    omega (arith, first)

pub better_ranked : (b : Board) (S : List ℕ) (x y : ℕ) → AreLeavesRanked b → x < y → y < contract_count b → has x S ≡ false → has y S ≡ false → leaf_of b x ≡ leaf_of b y → IsAsGood b S x y
better_ranked b S x y ranked lt ly outx outy e = record {
  feasible = same_feasible b S x y outx outy e;
  worth = same_worth b S x y outx outy e;
  tie = ranked x y lt ly e;
}

pub itself : (b : Board) (S : List ℕ) (x y : ℕ) → x ≡ y → IsAsGood b S x y
itself b S x y e = subst (IsAsGood b S x) e (record { feasible = refl; worth = refl; tie = omega arith })

-- along a run the leaf stays, and the contracts' numbers rise
pub along_run : (b : Board) (X : List ℕ) (p d q : ℕ) → IsSet X → q ≡ p + d → IsRun b X p q → (leaf_of b (get_or X p 0) ≡ leaf_of b (get_or X q 0)) × (get_or X p 0 + d ≤ get_or X q 0)
along_run b X p zero q s e run = let same : p ≡ q = omega arith in (ap (λ k. leaf_of b (get_or X k 0)) same, (let v = ap (λ k. get_or X k 0) same in omega arith))
along_run b X p (suc d) q s e run =
    let rest = along_run b X p d (p + d) s refl (λ k from to. run k from (omega arith)) in
    let on = run (p + d) (omega arith) (omega arith) in
    let up = s (p + d) on.0 in
    let end : (p + d) + 1 ≡ q = omega arith in
    let value = ap (λ k. get_or X k 0) end in
    let more = rest.1 in
    (rest.0 ∙ sym (subst (λ k. leaf_of b (get_or X k 0) ≡ leaf_of b (get_or X (p + d) 0)) end on.1), omega arith)
