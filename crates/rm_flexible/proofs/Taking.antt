-- One turn, told by how many contracts are left at each hospital.
use Rattle.std.proofs.Common.{◌≡◌, ℕ, ◌+◌, ◌-◌, ◌<◌, ◌≤◌, Bool, true, false, not, cond, ◌&&◌, List, length, get_or, set, eqb, ltb, Option, Some, None, filter, refl, sym, ap, ◌∙◌, subst, ⊎_elim, arith, ne_eqb, eqb-true}
use Rattle.std.specs.Prelude.{find}
use Rattle.std.specs.Option.{option_map_or}
use Rattle.std.proofs.lemmas.Bool.{cases_eq, cases_lt, and_from, lt-ltb, le-ltb, not-true, not-false, cond_both, cond-true, cond-false}
use Rattle.std.proofs.lemmas.List.{get_or-set_same, get_or-set_other}
use Rattle.rm_sets.specs.Sets.{has, IsIn, IsSet, IsWithin, with_one}
use Rattle.rm_sets.proofs.Sets.{not_both, IsSet-filter, IsSet-with_one}
use Rattle.rm_sets.proofs.Members.{IsIn-filter, IsIn-from_filter, with_one_within, within-with_one, within_refl, not_in_from}
use Rattle.rm_sets.proofs.Sizes.{length-with_one, length_within, length_less}
use Rattle.rm_valuation_laws.proofs.Counts.{one}
use Rattle.rm_market.specs.Board.{Board, hospital_of}
use Rattle.rm_market.specs.Flexible.{Seat, Region, after_seat, held_at}
use Rattle.rm_flexible_laws.specs.Region.{seat_at, IsRegion}
use Rattle.rm_flexible_laws.proofs.Tests.{find_first, find_none}
use Rattle.rm_flexible_laws.proofs.Counts.{passing-with_one}
use Rattle.rm_flexible_laws.proofs.First.{seats_one}
use Rattle.rm_flexible.specs.Counts.{IsInRound, turns_at}

-- ---- turns

turns_now : (q i : ℕ) → turns_at q (i + 1) i ≡ q + 1
turns_now q i = cond-true (ltb i (i + 1)) (q + 1) q (lt-ltb i (i + 1) (omega arith))

turns_before : (q i : ℕ) → turns_at q i i ≡ q
turns_before q i = cond-false (ltb i i) (q + 1) q (le-ltb i i (omega arith))

turns_other : (q i j : ℕ) → (j ≡ i → ⊥) → turns_at q (i + 1) j ≡ turns_at q i j
turns_other q i j ne = ap (λ t. cond t (q + 1) q) (⊎_elim (λ lt. lt-ltb j (i + 1) (omega arith) ∙ sym (lt-ltb j i lt)) (λ le. le-ltb j (i + 1) (omega (arith, ne, le)) ∙ sym (le-ltb j i le)) (cases_lt j i))

pub turns_first : (q j : ℕ) → turns_at q 0 j ≡ q
turns_first q j = cond-false (ltb j 0) (q + 1) q (le-ltb j 0 (omega arith))

pub turns_last : (q m j : ℕ) → j < m → turns_at q m j ≡ q + 1
turns_last q m j lt = cond-true (ltb j m) (q + 1) q (lt-ltb j m lt)

-- ---- what the counts say of a hospital's contracts

-- where all contracts of a hospital are taken, none of them is found
nothing_found : (p : ℕ → Bool) (X K : List ℕ) → IsSet X → IsSet K → IsWithin K X → length (filter p X) ≤ length (filter p K) → find (λ x. not (has x K)) (filter p X) ≡ None
nothing_found p X K sX sK w le = at (find (λ x. not (has x K)) (filter p X)) refl
  where
    at : (o : Option ℕ) → find (λ x. not (has x K)) (filter p X) ≡ o → find (λ x. not (has x K)) (filter p X) ≡ None
    at None e = e
    at (Some x) e =
        let first = find_first (λ y. not (has y K)) (filter p X) (IsSet-filter p X sX) x e in
        let less = length_less (filter p K) (filter p X) x (IsSet-filter p K sK) (IsSet-filter p X sX)
        (λ y i. let a = IsIn-from_filter p K y i in IsIn-filter p X y (w y a.0) a.1)
        first.member (not_in_from x (filter p K) (λ i. not_both (has x K) (IsIn-from_filter p K x i).0 (not-true (has x K) first.passes))) in
        absurd (omega arith)

-- where some are not, the first of these is
pub record IsNext (p : ℕ → Bool) (X K : List ℕ) (x : ℕ) : Type 0 where
  pub found : find (λ y. not (has y K)) (filter p X) ≡ Some x
  pub member : IsIn x X
  pub passes : p x ≡ true
  pub out : has x K ≡ false

some_found : (p : ℕ → Bool) (X K : List ℕ) → IsSet X → IsSet K → length (filter p K) < length (filter p X) → (x : ℕ) × IsNext p X K x
some_found p X K sX sK lt = at (find (λ x. not (has x K)) (filter p X)) refl
  where
    at : (o : Option ℕ) → find (λ x. not (has x K)) (filter p X) ≡ o → (x : ℕ) × IsNext p X K x
    at None e =
        let le = length_within (filter p X) (filter p K) (IsSet-filter p X sX) (IsSet-filter p K sK)
        (λ x i. IsIn-filter p K x (not-false (has x K) (find_none (λ y. not (has y K)) (filter p X) e x i)) (IsIn-from_filter p X x i).1) in
        absurd (omega arith)
    at (Some x) e =
        let first = find_first (λ y. not (has y K)) (filter p X) (IsSet-filter p X sX) x e in
        let mem = IsIn-from_filter p X x first.member in
        (x, record { found = e; member = mem.0; passes = mem.1; out = not-true (has x K) first.passes })

-- ---- one turn

abbrev at_seat : Board → Seat → ℕ → Bool
at_seat b s x = eqb (hospital_of b x) s.hospital

abbrev next_of : Board → List ℕ → List ℕ → Seat → Option ℕ
next_of b X K s = find (λ x. not (has x K)) (filter (at_seat b s) X)

-- what is taken only grows
pub grows : (b : Board) (r : Region) (X K : List ℕ) (s : Seat) → IsWithin K (after_seat b r X K s)
grows b r X K s =
    cond_both (ltb (length K) r.cap && ltb (held_at b K s) s.capacity) (option_map_or (λ x. with_one K x) (next_of b X K s) K) K (λ T. IsWithin K T)
    (λ yes. more (next_of b X K s)) (λ no. within_refl K)
  where
    more : (o : Option ℕ) → IsWithin K (option_map_or (λ x. with_one K x) o K)
    more None = within_refl K
    more (Some x) = within-with_one K x

module _ (b : Board) (r : Region) (ok : IsRegion r) (X : List ℕ) (sX : IsSet X) where
  after_takes : (K : List ℕ) (s : Seat) (x : ℕ) → length K < r.cap → held_at b K s < s.capacity → next_of b X K s ≡ Some x → after_seat b r X K s ≡ with_one K x
  after_takes K s x room free e =
      cond-true (ltb (length K) r.cap && ltb (held_at b K s) s.capacity) (option_map_or (λ y. with_one K y) (next_of b X K s) K) K
      (and_from (ltb (length K) r.cap) (ltb (held_at b K s) s.capacity) (lt-ltb (length K) r.cap room) (lt-ltb (held_at b K s) s.capacity free))
      ∙ ap (λ o. option_map_or (λ y. with_one K y) o K) e

  after_none : (K : List ℕ) (s : Seat) → next_of b X K s ≡ None → after_seat b r X K s ≡ K
  after_none K s e =
      cond_both (ltb (length K) r.cap && ltb (held_at b K s) s.capacity) (option_map_or (λ y. with_one K y) (next_of b X K s) K) K (λ T. T ≡ K)
      (λ yes. ap (λ o. option_map_or (λ y. with_one K y) o K) e) (λ no. refl)

  after_full : (K : List ℕ) (s : Seat) → r.cap ≤ length K → after_seat b r X K s ≡ K
  after_full K s le = ap (λ t. cond (t && ltb (held_at b K s) s.capacity) (option_map_or (λ y. with_one K y) (next_of b X K s) K) K) (le-ltb (length K) r.cap le)

  after_held : (K : List ℕ) (s : Seat) → s.capacity ≤ held_at b K s → after_seat b r X K s ≡ K
  after_held K s le =
      cond-false (ltb (length K) r.cap && ltb (held_at b K s) s.capacity) (option_map_or (λ y. with_one K y) (next_of b X K s) K) K
      (ap (λ t. ltb (length K) r.cap && t) (le-ltb (held_at b K s) s.capacity le) ∙ and_no (ltb (length K) r.cap))
    where
      and_no : (t : Bool) → (t && false) ≡ false
      and_no true = refl
      and_no false = refl

  -- the count of a hospital, and of another one, with one contract more
  here : (K : List ℕ) (s : Seat) (x : ℕ) → at_seat b s x ≡ true → has x K ≡ false → held_at b (with_one K x) s ≡ held_at b K s + 1
  here K s x e out = passing-with_one (at_seat b s) K x out ∙ ap (λ t. held_at b K s + one t) e

  elsewhere : (K : List ℕ) (i j x : ℕ) → i < length r.seats → j < length r.seats → (j ≡ i → ⊥) → at_seat b (seat_at r i) x ≡ true → has x K ≡ false → held_at b (with_one K x) (seat_at r j) ≡ held_at b K (seat_at r j)
  elsewhere K i j x li lj ne e out =
      let more = passing-with_one (at_seat b (seat_at r j)) K x out in
      let at = eqb-true (hospital_of b x) (seat_at r i).hospital e in
      let o : one (at_seat b (seat_at r j) x) ≡ 0 = ap one (ne_eqb (hospital_of b x) (seat_at r j).hospital (λ same. ne (seats_one r ok j i lj li (sym same ∙ at)))) in
      omega arith

  -- the hospital at place i takes one
  pub takes : (K : List ℕ) (q i : ℕ) (counts : List ℕ) (total : ℕ) → IsInRound b r X K q i counts total → i < length r.seats → (seat_at r i).hospital < length counts → total < r.cap →
      q < (seat_at r i).capacity - (seat_at r i).target → 0 < get_or counts (seat_at r i).hospital 0 →
      IsInRound b r X (after_seat b r X K (seat_at r i)) q (i + 1) (set counts (seat_at r i).hospital (get_or counts (seat_at r i).hospital 0 - 1)) (total + 1)
  takes K q i counts total a li inside room turn some =
      let t = a.taken in
      let full = t.total in
      let left = t.left i li in
      let most = a.most i li in
      let now = turns_before q i in
      let s = seat_at r i in
      let next = some_found (at_seat b s) X K sX t.set (omega arith) in
      let x = next.0 in
      let n = next.1 in
      subst (λ S. IsInRound b r X S q (i + 1) (set counts s.hospital (get_or counts s.hospital 0 - 1)) (total + 1))
      (sym (after_takes K s x (omega arith) (omega arith) n.found))
      (taken_one x n.member n.passes n.out)
    where
      others : (j : ℕ) → j < length r.seats → (j ≡ i → ⊥) → get_or (set counts (seat_at r i).hospital (get_or counts (seat_at r i).hospital 0 - 1)) (seat_at r j).hospital 0 ≡ get_or counts (seat_at r j).hospital 0
      others j lj ne = get_or-set_other counts (seat_at r i).hospital (seat_at r j).hospital (get_or counts (seat_at r i).hospital 0 - 1) 0 (λ same. ne (seats_one r ok j i lj li same))

      taken_one : (x : ℕ) → IsIn x X → at_seat b (seat_at r i) x ≡ true → has x K ≡ false → IsInRound b r X (with_one K x) q (i + 1) (set counts (seat_at r i).hospital (get_or counts (seat_at r i).hospital 0 - 1)) (total + 1)
      taken_one x member passes out =
          let size = length-with_one K x out in
          let full = a.taken.total in
          let own = here K (seat_at r i) x passes out in
          let less = get_or-set_same counts (seat_at r i).hospital (get_or counts (seat_at r i).hospital 0 - 1) 0 inside in
          let next = turns_now q i in
          let before = turns_before q i in
          record {
            taken = record {
              set = IsSet-with_one K x a.taken.set;
              within = with_one_within K X x a.taken.within member;
              total = omega arith;
              cap = omega arith;
              left = λ j lj. ⊎_elim
                  (λ e. subst (λ k. get_or (set counts (seat_at r i).hospital (get_or counts (seat_at r i).hospital 0 - 1)) (seat_at r k).hospital 0 + held_at b (with_one K x) (seat_at r k) ≡ held_at b X (seat_at r k)) (sym e)
                  (let left = a.taken.left i li in omega arith))
                  (λ ne. let left = a.taken.left j lj in let o = others j lj ne in let h = elsewhere K i j x li lj ne passes out in omega arith)
                  (cases_eq j i);
            };
            most = λ j lj. ⊎_elim
                (λ e. subst (λ k. held_at b (with_one K x) (seat_at r k) ≤ (seat_at r k).target + turns_at q (i + 1) k) (sym e) (let most = a.most i li in omega arith))
                (λ ne. let most = a.most j lj in let h = elsewhere K i j x li lj ne passes out in let u = turns_other q i j ne in omega arith)
                (cases_eq j i);
            each = λ j lj some' left' free. ⊎_elim
                (λ e. subst (λ k. held_at b (with_one K x) (seat_at r k) ≡ (seat_at r k).target + turns_at q (i + 1) k) (sym e)
                (let most = a.most i li in let eq = a.each i li room some (omega arith) in omega arith))
                (λ ne.
                let h = elsewhere K i j x li lj ne passes out in
                let o = others j lj ne in
                let u = turns_other q i j ne in
                let eq = a.each j lj room (omega arith) (omega arith) in
                omega arith)
                (cases_eq j i);
          }

  -- the hospital at place i takes none
  pub passes : (K : List ℕ) (q i : ℕ) (counts : List ℕ) (total : ℕ) → IsInRound b r X K q i counts total → i < length r.seats →
      (total < r.cap → q < (seat_at r i).capacity - (seat_at r i).target → 0 < get_or counts (seat_at r i).hospital 0 → ⊥) →
      IsInRound b r X (after_seat b r X K (seat_at r i)) q (i + 1) counts total
  passes K q i counts total a li none =
      subst (λ S. IsInRound b r X S q (i + 1) counts total) (sym same) (record {
        taken = a.taken;
        most = λ j lj. ⊎_elim
            (λ e. subst (λ k. held_at b K (seat_at r k) ≤ (seat_at r k).target + turns_at q (i + 1) k) (sym e) (let most = a.most i li in let n = turns_now q i in let o = turns_before q i in omega arith))
            (λ ne. let most = a.most j lj in let u = turns_other q i j ne in omega arith)
            (cases_eq j i);
        each = λ j lj room some free. ⊎_elim
            (λ e. absurd (stuck room (subst (λ k. 0 < get_or counts (seat_at r k).hospital 0) e some) (subst (λ k. held_at b K (seat_at r k) < (seat_at r k).capacity) e free)))
            (λ ne. let eq = a.each j lj room some free in let u = turns_other q i j ne in omega arith)
            (cases_eq j i);
      })
    where
      stuck : total < r.cap → 0 < get_or counts (seat_at r i).hospital 0 → held_at b K (seat_at r i) < (seat_at r i).capacity → ⊥
      stuck room some free = let eq = a.each i li room some free in let o = turns_before q i in none room (omega arith) some

      same : after_seat b r X K (seat_at r i) ≡ K
      same = ⊎_elim
          (λ room. ⊎_elim
          (λ some. ⊎_elim (λ free. absurd (stuck room some free)) (λ full. after_held K (seat_at r i) full) (cases_lt (held_at b K (seat_at r i)) (seat_at r i).capacity))
          (λ few. after_none K (seat_at r i) (nothing_found (at_seat b (seat_at r i)) X K sX a.taken.set a.taken.within (let left = a.taken.left i li in omega arith)))
          (cases_lt 0 (get_or counts (seat_at r i).hospital 0)))
          (λ full. after_full K (seat_at r i) (let t = a.taken.total in omega arith))
          (cases_lt total r.cap)

-- ---- a round after the other

pub next_round : (b : Board) (r : Region) (X K : List ℕ) (q : ℕ) (counts : List ℕ) (total : ℕ) → IsInRound b r X K q (length r.seats) counts total → IsInRound b r X K (q + 1) 0 counts total
next_round b r X K q counts total a = record {
  taken = a.taken;
  most = λ j lj. let most = a.most j lj in let l = turns_last q (length r.seats) j lj in let f = turns_first (q + 1) j in omega arith;
  each = λ j lj room some free. let eq = a.each j lj room some free in let l = turns_last q (length r.seats) j lj in let f = turns_first (q + 1) j in omega arith;
}
