-- Places from which each hospital's contracts are reached.
use Rattle.std.proofs.Common.{◌≡◌, ℕ, ◌+◌, ◌-◌, ◌<◌, ◌≤◌, List, [], length, get_or, set, take, sym, subst, ⊎_elim, arith}
use Rattle.std.proofs.lemmas.List.{get_or-set_same, get_or-set_other, get_or-take, length-take}
use Rattle.std.proofs.lemmas.Bool.{cases_lt, cases_eq}
use Rattle.rm_market.specs.Board.{Board}
use Rattle.rm_greedy.specs.Heads.{AreHeads, GoesOn, IsRun}

at_set : (heads : List ℕ) (i p r : ℕ) → i < length heads → r ≡ i → get_or (set heads i p) r 0 ≡ p
at_set heads i p r inside e = subst (λ k. get_or (set heads i p) k 0 ≡ p) (sym e) (get_or-set_same heads i p 0 inside)

-- what holds of a new place, and of the others, holds of each
pub each_set : (P : ℕ → Type 0) (heads : List ℕ) (i p n : ℕ) → i < length heads → P p → ((r : ℕ) → r < n → (r ≡ i → ⊥) → P (get_or heads r 0)) → (r : ℕ) → r < n → P (get_or (set heads i p) r 0)
each_set P heads i p n inside here others r lt =
    ⊎_elim
    (λ e. subst P (sym (at_set heads i p r inside e)) here)
    (λ ne. subst P (sym (get_or-set_other heads i r p 0 ne)) (others r lt ne))
    (cases_eq r i)

-- the first c of these places reach each of the first i
pub record AreHeadsOf (b : Board) (X heads : List ℕ) (i c : ℕ) : Type 0 where
  pub few : c ≤ i
  pub within : (r : ℕ) → r < c → get_or heads r 0 < length X
  pub reach : (q : ℕ) → q < i → (r : ℕ) × (r < c) × (get_or heads r 0 ≤ q) × IsRun b X (get_or heads r 0) q

-- the next one is of the same hospital as the one before it
pub heads_kept : (b : Board) (X heads : List ℕ) (i c : ℕ) → AreHeadsOf b X heads i c → 0 < i → GoesOn b X (i - 1) → AreHeadsOf b X heads (i + 1) c
heads_kept b X heads i c h some on = record {
  few = (let f = h.few in omega (arith, f));
  within = h.within;
  reach = λ q lt. ⊎_elim (λ old. h.reach q old) (λ last. further q lt last) (cases_lt q i);
}
  where
    further : (q : ℕ) → q < i + 1 → i ≤ q → (r : ℕ) × (r < c) × (get_or heads r 0 ≤ q) × IsRun b X (get_or heads r 0) q
    further q lt last =
        let p = h.reach (i - 1) (omega (arith, some)) in
        let le = p.2 in
        (p.0, p.1, omega (arith, le, last), λ k from to. ⊎_elim (λ old. p.3 k from old) (λ end. subst (GoesOn b X) (omega (arith, end, to, lt)) on) (cases_lt k (i - 1)))

-- the next one is a place of its own
pub heads_more : (b : Board) (X heads : List ℕ) (i c : ℕ) → AreHeadsOf b X heads i c → i < length X → c < length heads → AreHeadsOf b X (set heads c i) (i + 1) (c + 1)
heads_more b X heads i c h inside space = record {
  few = (let f = h.few in omega (arith, f));
  within = each_set (λ p. p < length X) heads c i (c + 1) space inside (λ r lt ne. h.within r (omega (arith, lt, ne)));
  reach = λ q lt. ⊎_elim (λ old. before q old) (λ last. itself q (omega (arith, lt, last))) (cases_lt q i);
}
  where
    before : (q : ℕ) → q < i → (r : ℕ) × (r < c + 1) × (get_or (set heads c i) r 0 ≤ q) × IsRun b X (get_or (set heads c i) r 0) q
    before q old =
        let p = h.reach q old in
        let less = p.1 in
        let same = sym (get_or-set_other heads c p.0 i 0 (omega (arith, less))) in
        (p.0, omega (arith, less), subst (λ s. s ≤ q) same p.2, subst (λ s. IsRun b X s q) same p.3)

    itself : (q : ℕ) → q ≡ i → (r : ℕ) × (r < c + 1) × (get_or (set heads c i) r 0 ≤ q) × IsRun b X (get_or (set heads c i) r 0) q
    itself q e =
        let same = sym (get_or-set_same heads c i 0 space) in
        (c, omega arith, subst (λ s. s ≤ q) same (omega (arith, e)), subst (λ s. IsRun b X s q) same (λ k from to. absurd (omega (arith, from, to, e))))

pub heads_are : (b : Board) (X heads : List ℕ) (i c : ℕ) → AreHeadsOf b X heads i c → length X ≤ i → c ≤ length heads → AreHeads b X [] (take c heads)
heads_are b X heads i c h past space = record {
  within = λ r lt. let inside = length_inside r lt in subst (λ p. p < length X) (sym (get_or-take c heads r 0 inside)) (h.within r inside);
  reach = λ q lt _.
      let p = h.reach q (omega (arith, lt, past)) in
      let less = p.1 in
      let long = length-take c heads in
      let same = sym (get_or-take c heads p.0 0 less) in
      (p.0, omega (arith, less, long, space), subst (λ s. s ≤ q) same p.2, subst (λ s. IsRun b X s q) same p.3);
}
  where
    length_inside : (r : ℕ) → r < length (take c heads) → r < c
    length_inside r lt = let long = length-take c heads in omega (arith, lt, long)
