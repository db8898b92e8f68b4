-- The first addition at the heads is the first of all.
use Rattle.std.proofs.Common.{◌≡◌, ◌+◌, ◌-◌, ◌<◌, ◌≤◌, ◌++◌, ◌∷◌, ℕ, List, [], length, get_or, set, take, map, Option, Some, None, IsTrue, refl, sym, ap, subst, ⊎_elim, inl, inr, arith, ◌∙◌, eqb-true, eq-eqb}
use Rattle.std.proofs.lemmas.Int.{ints}
use Rattle.std.proofs.lemmas.Bool.{cases_eq, cases_lt}
use Rattle.std.proofs.lemmas.List.{get_or-set_same, get_or-set_other, get_or-map, length-map, length-set, map-append, take_more_set}
use Rattle.rm_sets.specs.Sets.{IsIn, IsSetBelow}
use Rattle.rm_sets.proofs.Members.{IsIn-get_or, place_from_IsIn, not_in_from, not_in_nil}
use Rattle.rm_market.specs.Board.{Board, contract_count, is_feasible, leaf_of}
use Rattle.rm_valuation.specs.Counts.{AreCounts}
use Rattle.rm_greedy.specs.declared.addition.Addition.{Addition}
use Rattle.rm_greedy.specs.Additions.{AreMarks, IsFirstOf}
use Rattle.rm_greedy.specs.Heads.{AreHeads, AreLeavesRanked, IsFirstOpen, IsOpen, IsRun}
use Rattle.rm_greedy.proofs.Reached.{each_set}
use Rattle.rm_greedy.proofs.SameHospital.{IsAsGood, along_run, better_ranked, itself}

-- the contracts at these places
abbrev pub contracts_at : List ℕ → List ℕ → List ℕ
contracts_at X heads = map (λ p. get_or X p 0) heads

-- each contract that isn't taken is no better than one at a head
at_head : (b : Board) (X S heads marks : List ℕ) → AreLeavesRanked b → IsSetBelow (contract_count b) X → AreMarks X S marks → AreHeads b X S heads →
    ((r : ℕ) → r < length heads → IsOpen b X marks (get_or heads r 0)) → (y : ℕ) → IsIn y X → ¬ IsIn y S → (x : ℕ) × IsIn x (contracts_at X heads) × ¬ IsIn x S × IsAsGood b S x y
at_head b X S heads marks ranked sX m h open_heads y iy out =
    let q = place_from_IsIn X y 0 iy in
    let r = h.reach q.0 q.1 (λ i. out (subst (λ z. IsIn z S) q.2 i)) in
    let p = get_or heads r.0 0 in
    let x = get_or X p 0 in
    let le = r.2 in
    let there : IsIn x (contracts_at X heads) =
    subst (λ z. IsIn z (contracts_at X heads)) (get_or-map (λ k. get_or X k 0) heads r.0 0 0 r.1)
    (IsIn-get_or (contracts_at X heads) r.0 0 (let long = length-map heads (λ k. get_or X k 0) in let lt = r.1 in omega arith)) in
    ⊎_elim
    (λ same.
    let e : x ≡ y = ap (λ k. get_or X k 0) same ∙ q.2 in
    (x, there, (λ i. out (subst (λ z. IsIn z S) e i)), itself b S x y e))
    (λ ne.
    let ahead : p < q.0 = omega arith in
    let run = along_run b X p (q.0 - p) q.0 sX.ascending (omega arith) r.3 in
    let up = run.1 in
    let last = q.2 in
    let outx : ¬ IsIn x S = λ i. open_heads r.0 r.1 (eqb-true (get_or marks x 0) 1 (sym (m x (IsIn-get_or X p 0 (h.within r.0 r.1))) ∙ i)) (r.3 p (omega arith) ahead) in
    (x, there, outx, better_ranked b S x y ranked (omega arith) (sX.below y iy) (not_in_from x S outx) (not_in_from y S out) (run.0 ∙ ap (λ k. leaf_of b k) last)))
    (cases_eq p q.0)

pub first_at_heads : (b : Board) (X S heads marks : List ℕ) (o : Option Addition) → AreLeavesRanked b → IsSetBelow (contract_count b) X → AreMarks X S marks → AreHeads b X S heads →
    ((r : ℕ) → r < length heads → IsOpen b X marks (get_or heads r 0)) → IsFirstOf b S (contracts_at X heads) o → IsFirstOf b S X o
first_at_heads b X S heads marks None ranked sX m h open_heads none = λ y iy out fits.
    let c = at_head b X S heads marks ranked sX m h open_heads y iy out in
    let low = none c.0 c.1 c.2 (c.3.feasible ∙ fits) in
    let e = c.3.worth in
    omega (arith, ints, low, e)
first_at_heads b X S heads marks (Some a) ranked sX m h open_heads f = record {
  member = (let r = place_from_IsIn (contracts_at X heads) a.contract 0 f.member in
      let inside : r.0 < length heads = (let long = length-map heads (λ k. get_or X k 0) in let lt = r.1 in omega arith) in
      subst (λ z. IsIn z X) (sym (get_or-map (λ k. get_or X k 0) heads r.0 0 0 inside) ∙ r.2) (IsIn-get_or X (get_or heads r.0 0) 0 (h.within r.0 inside)));
  addition = f.addition;
  first = λ y iy out fits.
      let c = at_head b X S heads marks ranked sX m h open_heads y iy out in
      let e = c.3.worth in
      let t = c.3.tie in
      ⊎_elim
      (λ less. inl (omega (arith, ints, less, e)))
      (λ same. let g = same.0 in let p = same.1 in inr (omega (arith, ints, g, e), omega (arith, p, t)))
      (f.first c.0 c.1 c.2 (c.3.feasible ∙ fits));
}

-- ---- one head more

-- the first i heads are moved on, and this is the first addition among them
pub record IsLooking (b : Board) (X old heads counts marks : List ℕ) (i : ℕ) (best : Option Addition) : Type 0 where
  pub long : length heads ≡ length old
  pub within : (r : ℕ) → r < length heads → get_or heads r 0 < length X
  pub opened : (r : ℕ) → r < i → IsOpen b X marks (get_or heads r 0)
  pub reached : (S : List ℕ) → AreMarks X S marks → AreHeads b X S old → AreHeads b X S heads
  pub first : (S : List ℕ) → IsTrue (is_feasible b S) → AreCounts b S counts → AreMarks X S marks → IsFirstOf b S (contracts_at X (take i heads)) best

moved : (b : Board) (X S heads marks : List ℕ) (i p : ℕ) → AreMarks X S marks → AreHeads b X S heads → i < length heads → IsFirstOpen b X marks (get_or heads i 0) p → AreHeads b X S (set heads i p)
moved b X S heads marks i p m h inside open_at = record {
  within = each_set (λ k. k < length X) heads i p (length (set heads i p)) inside open_at.within (λ r lt ne. h.within r (let long = length-set heads i p in omega arith));
  reach = λ q lt out. let old = h.reach q lt out in ⊎_elim
      (λ e. on q lt out old.0 e old.2 old.3)
      (λ ne. let same = sym (get_or-set_other heads i old.0 p 0 ne) in (old.0, shorter old.0 old.1, subst (λ k. k ≤ q) same old.2, subst (λ k. IsRun b X k q) same old.3))
      (cases_eq old.0 i);
}
  where
    shorter : (r : ℕ) → r < length heads → r < length (set heads i p)
    shorter r lt = let long = length-set heads i p in omega arith

    on : (q : ℕ) → q < length X → ¬ IsIn (get_or X q 0) S → (r : ℕ) → r ≡ i → get_or heads r 0 ≤ q → IsRun b X (get_or heads r 0) q → (r : ℕ) × (r < length (set heads i p)) × (get_or (set heads i p) r 0 ≤ q) × IsRun b X (get_or (set heads i p) r 0) q
    on q lt out r e le run =
        let from = subst (λ k. get_or heads k 0 ≤ q) e le in
        let after = open_at.after in
        let reached : p ≤ q = ⊎_elim
        (λ before. absurd (out (m (get_or X q 0) (IsIn-get_or X q 0 lt) ∙ eq-eqb (get_or marks (get_or X q 0) 0) 1 (open_at.marked q from before))))
        (λ past. past)
        (cases_lt q p) in
        let same = sym (get_or-set_same heads i p 0 inside) in
        (i, shorter i inside, subst (λ k. k ≤ q) same reached, subst (λ k. IsRun b X k q) same (λ k low high. subst (λ w. IsRun b X (get_or heads w 0) q) e run k (omega arith) high))

pub none_looked : (b : Board) (X heads counts marks : List ℕ) → ((r : ℕ) → r < length heads → get_or heads r 0 < length X) → IsLooking b X heads heads counts marks 0 None
none_looked b X heads counts marks w = record {
  long = refl;
  within = w;
  opened = λ r lt. absurd (omega arith);
  reached = λ S m h. h;
  first = λ S fits a m y i. absurd (not_in_nil y i);
}

pub one_looked : (b : Board) (X old heads counts marks : List ℕ) (i p : ℕ) (best next : Option Addition) → IsLooking b X old heads counts marks i best → i < length heads → IsFirstOpen b X marks (get_or heads i 0) p →
    ((S : List ℕ) → IsTrue (is_feasible b S) → AreCounts b S counts → AreMarks X S marks → IsFirstOf b S (contracts_at X (take i heads)) best → IsFirstOf b S (contracts_at X (take i heads) ++ get_or X p 0 ∷ []) next) →
    IsLooking b X old (set heads i p) counts marks (i + 1) next
one_looked b X old heads counts marks i p best next h inside open_at better = record {
  long = length-set heads i p ∙ h.long;
  within = each_set (λ k. k < length X) heads i p (length (set heads i p)) inside open_at.within (λ r lt ne. h.within r (let long = length-set heads i p in omega arith));
  opened = each_set (IsOpen b X marks) heads i p (i + 1) inside open_at.here (λ r lt ne. h.opened r (omega arith));
  reached = λ S m before. moved b X S heads marks i p m (h.reached S m before) inside open_at;
  first = λ S fits a m.
      subst (λ Y. IsFirstOf b S Y next) (sym (ap (contracts_at X) (take_more_set heads i p inside) ∙ map-append (λ k. get_or X k 0) (take i heads) (p ∷ [])))
      (better S fits a m (h.first S fits a m));
}
