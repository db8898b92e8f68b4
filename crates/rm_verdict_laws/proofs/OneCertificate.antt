-- What the rows of a certificate say determines them.
use Rattle.std.proofs.Common.{◌≡◌, ◌⊎◌, ◌↔◌, ℕ, ◌<◌, List, [], ◌∷◌, true, Option, Some, None, ◌-ℤ◌, ◌<ℤ◌, refl, sym, ap, ap₂, ◌∙◌, subst, ⊎_elim, arith}
use Rattle.std.proofs.lemmas.Int.{ints}
use Rattle.std.proofs.lemmas.Bool.{cases_Bool, cases_eq}
use Rattle.rm_sets.specs.Sets.{IsIn, IsSetBelow, with_one}
use Rattle.rm_sets.proofs.Sets.{not_both}
use Rattle.rm_market.specs.Board.{Board, IsBoard, contract_count, is_feasible}
use Rattle.rm_market.specs.Best.{Values, values_of, swapped}
use Rattle.rm_market.specs.Certificate.{certificate}
use Rattle.rm_market.specs.declared.CertRow.{CertRow}
use Rattle.rm_market.specs.declared.SwapRow.{SwapRow}
use Rattle.rm_valuation_laws.specs.Scores.{score}
use Rattle.rm_valuation_laws.proofs.Score.{higher_from_better}
use Rattle.rm_valuation_laws.proofs.Order.{inside_once}
use Rattle.rm_verdict_laws.specs.Rows.{IsInnermostFull, IsBestSwap, IsSwapCell, IsKeptRow, IsRefusedRow, AreRowsOf}
use Rattle.rm_verdict_laws.proofs.Certificate.{rows_say}

-- ---- one node, one swap

one_innermost : (b : Board) (S : List ℕ) (x k l : ℕ) → IsInnermostFull b S x k → IsInnermostFull b S x l → k ≡ l
one_innermost b S x k l h g =
    ⊎_elim
    (λ e. e)
    (λ ne. absurd (inside_once b k l (h.innermost l g.node (λ e. ne (sym e))) (g.innermost k h.node ne)))
    (cases_eq k l)

one_swap : (v : Values) (S : List ℕ) (x z y : ℕ) → IsBestSwap v S x z → IsBestSwap v S x y → z ≡ y
one_swap v S x z y h g =
    ⊎_elim
    (λ e. e)
    (λ ne.
    let up : score v (swapped S x y) <ℤ score v (swapped S x z) = higher_from_better v (swapped S x z) (swapped S x y) g.feasible (h.better y g.member (λ e. ne (sym e))) in
    let down : score v (swapped S x z) <ℤ score v (swapped S x y) = higher_from_better v (swapped S x y) (swapped S x z) h.feasible (g.better z h.member ne) in
    absurd (omega (arith, ints)))
    (cases_eq z y)

-- ---- one row

same_swap_row : (r q : SwapRow) → r.out ≡ q.out → r.change ≡ q.change → r ≡ q
same_swap_row r q e f = ap₂ (λ o c. record { out = o; change = c }) e f

pub one_cell : (v : Values) (S : List ℕ) (x : ℕ) (r q : Option SwapRow) → IsSwapCell v S x r → IsSwapCell v S x q → r ≡ q
one_cell v S x None None h g = refl
one_cell v S x None (Some q) h g = absurd (not_both (v.feasible (swapped S x q.out)) g.0.feasible (h q.out g.0.member))
one_cell v S x (Some r) None h g = absurd (not_both (v.feasible (swapped S x r.out)) h.0.feasible (g r.out h.0.member))
one_cell v S x (Some r) (Some q) h g =
    let e = one_swap v S x r.out q.out h.0 g.0 in
    ap Some (same_swap_row r q e (h.1 ∙ (ap (λ o. v.worth (swapped S x o) -ℤ v.worth S) e ∙ sym g.1)))

same_row : (r q : CertRow) → r.contract ≡ q.contract → r.kept ≡ q.kept → r.change ≡ q.change → r.full ≡ q.full → r.swap ≡ q.swap → r ≡ q
same_row r q a b c d e =
    ap (λ u. record { contract = u; kept = r.kept; change = r.change; full = r.full; swap = r.swap }) a
    ∙ (ap (λ u. record { contract = q.contract; kept = u; change = r.change; full = r.full; swap = r.swap }) b
    ∙ (ap (λ u. record { contract = q.contract; kept = q.kept; change = u; full = r.full; swap = r.swap }) c
    ∙ (ap (λ u. record { contract = q.contract; kept = q.kept; change = q.change; full = u; swap = r.swap }) d
    ∙ ap (λ u. record { contract = q.contract; kept = q.kept; change = q.change; full = q.full; swap = u }) e)))

one_kept : (b : Board) (S : List ℕ) (x : ℕ) (r q : CertRow) → IsKeptRow b S x r → IsKeptRow b S x q → r ≡ q
one_kept b S x r q h g =
    same_row r q (h.contract ∙ sym g.contract) (h.kept ∙ sym g.kept) (h.change ∙ sym g.change) (h.full ∙ sym g.full) (h.swap ∙ sym g.swap)

one_refused : (b : Board) (S : List ℕ) (x : ℕ) (r q : CertRow) → IsRefusedRow b S x r → IsRefusedRow b S x q → r ≡ q
one_refused b S x r q h g =
    let both = room in
    same_row r q (h.contract ∙ sym g.contract) (h.kept ∙ sym g.kept) both.0 both.1 (one_cell (values_of b) S x r.swap q.swap h.swap g.swap)
  where
    room : (r.change ≡ q.change) × (r.full ≡ q.full)
    room =
        ⊎_elim
        (λ f.
        let one = h.fits f in
        let two = g.fits f in
        (one.0 ∙ sym two.0, one.1 ∙ sym two.1))
        (λ f.
        let one = h.full f in
        let two = g.full f in
        (one.0 ∙ sym two.0, one.1.1 ∙ (ap Some (one_innermost b S x one.1.0 two.1.0 one.1.2 two.1.2) ∙ sym two.1.1)))
        (cases_Bool (is_feasible b (with_one S x)))

one_row : (b : Board) (S : List ℕ) (x : ℕ) (r q : CertRow) → IsKeptRow b S x r ⊎ IsRefusedRow b S x r → IsKeptRow b S x q ⊎ IsRefusedRow b S x q → r ≡ q
one_row b S x r q h g =
    ⊎_elim
    (λ kept. ⊎_elim (λ k. one_kept b S x r q kept k) (λ refused. absurd (refused.outside kept.member)) g)
    (λ refused. ⊎_elim (λ kept. absurd (refused.outside kept.member)) (λ k. one_refused b S x r q refused k) g)
    h

-- ---- all rows

one_list : (b : Board) (S offers : List ℕ) (r q : List CertRow) → AreRowsOf b S offers r → AreRowsOf b S offers q → r ≡ q
one_list b S [] [] [] h g = refl
one_list b S [] (x ∷ r) q h g = absurd h
one_list b S [] r (y ∷ q) h g = absurd g
one_list b S (o ∷ offers) [] q h g = absurd h
one_list b S (o ∷ offers) r [] h g = absurd g
one_list b S (o ∷ offers) (x ∷ r) (y ∷ q) h g = ap₂ (λ u us. u ∷ us) (one_row b S o x y h.0 g.0) (one_list b S offers r q h.1 g.1)

pub certificate_says : (doctors : ℕ) (b : Board) (S offers : List ℕ) (rows : List CertRow) → IsBoard doctors b → IsSetBelow (contract_count b) S → is_feasible b S ≡ true → ((x : ℕ) → IsIn x offers → x < contract_count b) →
    (certificate b offers S ≡ rows) ↔ AreRowsOf b S offers rows
certificate_says doctors b S offers rows ok sS f below =
    let h = rows_say doctors b S offers ok sS f below in
    (λ e. subst (AreRowsOf b S offers) e h, λ g. one_list b S offers (certificate b offers S) rows h g)
