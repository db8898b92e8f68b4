-- The rows of a certificate.
use Rattle.std.proofs.Common.{◌≡◌, ℕ, ◌+◌, ◌<◌, ◌≤◌, List, Bool, eqb, length, get_or, set, take, drop, ◌++◌, true, false, ◌-ℤ◌, ℤ, Option, Some, None, All, refl, sym, ap, subst, ⊎_elim, arith, eq-eqb, ne_eqb, true≢false, ◌∙◌}
use Rattle.std.specs.Prelude.{map, option_map, find, if◌then◌else◌}
use Rattle.std.proofs.lemmas.Int.{ints}
use Rattle.std.proofs.lemmas.List.{ext_get_or, get_or-map, length-map, take_all, drop_all, append-nil, get_or-set_same, get_or-set_other, get_or_default}
use Rattle.rm_sets.specs.Sets.{has, IsIn, IsSetBelow, with_one, without}
use Rattle.rm_sets.proofs.Sets.{cases_has, not_both}
use Rattle.rm_sets.proofs.Members.{IsIn-get_or, members_from_All}
use Rattle.rm_market.specs.Board.{Board, contract_count, leaf_of, cap_of, node_at, count_at, sets_of, worth}
use Rattle.rm_market.specs.Tree.{chain}
use Rattle.rm_market.specs.Best.{values_of, swapped, IsBest}
use Rattle.rm_market.specs.Certificate.{kept_row, refused_row, innermost_full, certificate, swap_row, best_swap}
use Rattle.rm_market.specs.declared.CertRow.{CertRow}
use Rattle.rm_market.specs.declared.SwapRow.{SwapRow}
use Rattle.rm_valuation.specs.Counts.{IsGain}
use Rattle.rm_verdict_laws.specs.Rows.{IsSwapCell}
use Rattle.rm_verdict_laws.proofs.BestSwap.{not_higher, better_swap_from, swap_cell}
use Rattle.rm_verdict_laws.proofs.OneCertificate.{one_cell}
use Rattle.rm_exchange.specs.Counted.{IsChosen}
use Rattle.rm_exchange.specs.RowsBelow.{IsLastAt, IsSwapBelow, with_swap, IsRowBelow, AreRowsBelow}
use Rattle.rm_exchange.proofs.Changes.{laws_of}
use Rattle.rm_exchange.proofs.SwapBelow.{below_or_at, nothing_at}

-- ---- the innermost full node

abbrev pub is_full : Board → List ℕ → ℕ → Bool
is_full b S k = eqb (count_at b S k) (cap_of (node_at b k))

pub innermost_is : (b : Board) (S : List ℕ) (x leaf : ℕ) (sets : List (List ℕ)) (nodes : List ℕ) (full : Option ℕ) → sets ≡ sets_of b → leaf ≡ leaf_of b x → nodes ≡ chain sets leaf → find (is_full b S) nodes ≡ full → full ≡ innermost_full b S x
unfolding innermost_full
innermost_is b S x leaf sets nodes full e f g h = sym (ap (find (is_full b S)) (sym (g ∙ (ap (λ K. chain K leaf) e ∙ ap (chain (sets_of b)) f))) ∙ h)

pub full_test : (b : Board) (S : List ℕ) (k count cap : ℕ) → count ≡ count_at b S k → cap ≡ cap_of (node_at b k) → count ≡ cap → is_full b S k ≡ true
full_test b S k count cap e f g = eq-eqb (count_at b S k) (cap_of (node_at b k)) (sym e ∙ (g ∙ f))

pub unfull_test : (b : Board) (S : List ℕ) (k count cap : ℕ) → count ≡ count_at b S k → cap ≡ cap_of (node_at b k) → (count ≡ cap → ⊥) → is_full b S k ≡ false
unfull_test b S k count cap e f ne = ne_eqb (count_at b S k) (cap_of (node_at b k)) (λ g. ne (e ∙ (g ∙ sym f)))

-- ---- the first rows

pub first_kept : (b : Board) (S : List ℕ) (x : ℕ) (loss : ℤ) (row : CertRow) → IsIn x S → loss ≡ worth b S -ℤ worth b (without S x) → row ≡ record { contract = x; kept = true; change = Some loss; full = None; swap = None } → IsRowBelow b S 0 x row
first_kept b S x loss row i e is = record {
  kept = λ _. is ∙ ap (λ c. record { contract = x; kept = true; change = Some c; full = None; swap = None }) e;
  refused = λ out. absurd (not_both (has x S) i out);
  swap = λ out. absurd (not_both (has x S) i out);
}

-- ---- one leaf more

pub kept_stays : (b : Board) (S : List ℕ) (leaf x : ℕ) (row : CertRow) → IsRowBelow b S leaf x row → row.kept ≡ true → IsRowBelow b S (leaf + 1) x row
kept_stays b S leaf x row r k = record {
  kept = r.kept;
  refused = r.refused;
  swap = λ out. absurd (true≢false (sym k ∙ ap (λ q. q.kept) (r.refused out)));
}

pub is_outside : (b : Board) (S : List ℕ) (leaf x : ℕ) (row : CertRow) → IsRowBelow b S leaf x row → row.kept ≡ false → has x S ≡ false
is_outside b S leaf x row r k = ⊎_elim (λ i. absurd (true≢false (sym (ap (λ q. q.kept) (r.kept i)) ∙ k))) (λ out. out) (cases_has x S)

pub row_more : (b : Board) (S : List ℕ) (leaf x : ℕ) (row : CertRow) (swap : Option SwapRow) → IsRowBelow b S leaf x row → has x S ≡ false → IsSwapBelow b S (leaf + 1) x swap → IsRowBelow b S (leaf + 1) x (with_swap row swap)
row_more b S leaf x row swap r out h = record {
  kept = λ i. absurd (not_both (has x S) i out);
  refused = λ _. ap (λ q. with_swap q swap) (r.refused out);
  swap = λ _. h;
}

pub nothing_more : (b : Board) (S : List ℕ) (leaf x : ℕ) (row : CertRow) → IsLastAt b S leaf None → IsRowBelow b S leaf x row → IsRowBelow b S (leaf + 1) x row
nothing_more b S leaf x row none r = record { kept = r.kept; refused = r.refused; swap = λ out. nothing_at b S leaf x row.swap none (r.swap out) }

pub all_nothing_more : (b : Board) (S offers : List ℕ) (leaf : ℕ) (rows : List CertRow) → IsLastAt b S leaf None → AreRowsBelow b S leaf offers rows → AreRowsBelow b S (leaf + 1) offers rows
all_nothing_more b S offers leaf rows none r = record { long = r.long; each = λ i d lt. nothing_more b S leaf (get_or offers i 0) (get_or rows i d) none (r.each i d lt) }

abbrev RowsAt : Board → List ℕ → ℕ → List ℕ → ℕ → List CertRow → Type 0
RowsAt b S leaf offers i rows =
    ((k : ℕ) (d : CertRow) → k < i → IsRowBelow b S (leaf + 1) (get_or offers k 0) (get_or rows k d))
    × ((k : ℕ) (d : CertRow) → i ≤ k → k < length offers → IsRowBelow b S leaf (get_or offers k 0) (get_or rows k d))

pub kept_next : (b : Board) (S : List ℕ) (leaf : ℕ) (offers : List ℕ) (i : ℕ) (rows : List CertRow) (e : CertRow) → i < length offers → length rows ≡ length offers → RowsAt b S leaf offers i rows → (get_or rows i e).kept ≡ true → RowsAt b S leaf offers (i + 1) rows
kept_next b S leaf offers i rows e lt long r kept = (
  λ k d less. ⊎_elim
      (λ before. r.0 k d before)
      (λ at. subst (λ n. IsRowBelow b S (leaf + 1) (get_or offers n 0) (get_or rows n d)) (sym at)
      (kept_stays b S leaf (get_or offers i 0) (get_or rows i d) (r.1 i d (omega arith) lt) (subst (λ q. q.kept ≡ true) (get_or_default rows i e d (subst (λ n. i < n) (sym long) lt)) kept)))
      (below_or_at k i less),
  λ k d le less. r.1 k d (omega arith) less,
)

pub swap_next : (b : Board) (S : List ℕ) (leaf : ℕ) (offers : List ℕ) (i : ℕ) (rows : List CertRow) (e : CertRow) (swap : Option SwapRow) → i < length offers → length rows ≡ length offers → RowsAt b S leaf offers i rows → (get_or rows i e).kept ≡ false →
    (has (get_or offers i 0) S ≡ false → IsSwapBelow b S leaf (get_or offers i 0) (get_or rows i e).swap → IsSwapBelow b S (leaf + 1) (get_or offers i 0) swap) → RowsAt b S leaf offers (i + 1) (set rows i (with_swap (get_or rows i e) swap))
swap_next b S leaf offers i rows e swap lt long r kept better =
    let x = get_or offers i 0 in
    let row = get_or rows i e in
    let old = r.1 i e (omega arith) lt in
    let out = is_outside b S leaf x row old kept in
    let new = row_more b S leaf x row swap old out (better out (old.swap out)) in (
      λ k d less. ⊎_elim
          (λ before. subst (IsRowBelow b S (leaf + 1) (get_or offers k 0)) (sym (get_or-set_other rows i k (with_swap row swap) d (λ q. absurd (omega arith)))) (r.0 k d before))
          (λ at. subst (λ n. IsRowBelow b S (leaf + 1) (get_or offers n 0) (get_or (set rows i (with_swap row swap)) n d)) (sym at)
          (subst (IsRowBelow b S (leaf + 1) x) (sym (get_or-set_same rows i (with_swap row swap) d (subst (λ n. i < n) (sym long) lt))) new))
          (below_or_at k i less),
      λ k d le less. subst (IsRowBelow b S leaf (get_or offers k 0)) (sym (get_or-set_other rows i k (with_swap row swap) d (λ q. absurd (omega arith)))) (r.1 k d (omega arith) less),
    )

-- ---- the best subset

pub best_below : (b : Board) (offers S : List ℕ) → All (λ x. x < contract_count b) offers → IsBest (values_of b) offers S → IsSetBelow (contract_count b) S
best_below b offers S all best = record { ascending = best.set; below = λ x i. members_from_All (λ y. y < contract_count b) offers all x (best.within x i) }

-- what is written through a slice of a whole list
pub written_back : {A : Type 0} (len : ℕ) (new old : List A) → len ≡ length old → length new ≡ length old → take len (new ++ drop (length new) old) ≡ new
written_back len new old e f = ap (λ tail. take len (new ++ tail)) (drop_all (length new) old (omega (arith, f))) ∙ (ap (take len) (append-nil new) ∙ take_all len new (omega (arith, e, f)))

-- ---- the last rows

pub all_looked_at : (b : Board) (S : List ℕ) (leaves x : ℕ) (swap : Option SwapRow) → IsChosen b S → x < contract_count b → has x S ≡ false → ((y : ℕ) → IsIn y S → leaf_of b y < leaves) → IsSwapBelow b S leaves x swap → IsSwapCell (values_of b) S x swap
all_looked_at b S leaves x None c lt out all h = λ y i. h y i (all y i)
all_looked_at b S leaves x (Some row) c lt out all h =
    let v = values_of b in (
      record {
        member = h.0;
        feasible = h.1;
        better = λ y i ne. better_swap_from (contract_count b) v S x y row.out (laws_of b S c) c.set lt out i h.0 ne h.1 (λ f. not_higher v (swapped S x y) (swapped S x row.out) f (h.3 y i (all y i)));
      },
      h.2,
    )

row_is : (b : Board) (S : List ℕ) (leaves x : ℕ) (row : CertRow) → IsChosen b S → x < contract_count b → ((y : ℕ) → IsIn y S → leaf_of b y < leaves) → IsRowBelow b S leaves x row →
    row ≡ (if has x S then kept_row (values_of b) S x else refused_row b S x)
row_is b S leaves x row c lt all r =
    ⊎_elim
    (λ i. rw i (r.kept i))
    (λ out. rw out (r.refused out ∙ ap (with_swap (refused_row b S x))
    (one_cell (values_of b) S x row.swap (option_map (swap_row (values_of b) S x) (best_swap (values_of b) S x)) (all_looked_at b S leaves x row.swap c lt out all (r.swap out))
    (swap_cell (contract_count b) (values_of b) S x (laws_of b S c) c.set lt out))))
    (cases_has x S)

count_rows : (b : Board) (S offers : List ℕ) → length (map (λ x. if has x S then kept_row (values_of b) S x else refused_row b S x) offers) ≡ length offers
count_rows b S offers = simp length-map

-- a row for no contract
pub no_row : CertRow
no_row = record { contract = 0; kept = false; change = None; full = None; swap = None }

pub rows_are : (b : Board) (S offers : List ℕ) (leaves : ℕ) (rows : List CertRow) (d : CertRow) → IsChosen b S → ((x : ℕ) → IsIn x offers → x < contract_count b) → ((y : ℕ) → IsIn y S → leaf_of b y < leaves) → AreRowsBelow b S leaves offers rows →
    rows ≡ certificate b offers S
unfolding certificate
rows_are b S offers leaves rows d c below all r =
    ext_get_or d rows (map (λ x. if has x S then kept_row (values_of b) S x else refused_row b S x) offers) (r.long ∙ sym (count_rows b S offers))
    (λ i lt.
    let less : i < length offers = subst (λ n. i < n) r.long lt in
    row_is b S leaves (get_or offers i 0) (get_or rows i d) c (below (get_or offers i 0) (IsIn-get_or offers i 0 less)) all (r.each i d less)
    ∙ sym (get_or-map (λ x. if has x S then kept_row (values_of b) S x else refused_row b S x) offers i 0 d less))
