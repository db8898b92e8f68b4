-- The rounds of a tournament: what the first entry says of all, and what a change of one entry changes.
use Rattle.std.proofs.Common.{◌≡◌, ◌≢◌, ◌∙◌, ◌⊎◌, ℕ, zero, suc, ◌+◌, ◌*◌, ◌-◌, ◌/◌, ◌<◌, ◌≤◌, Bool, true, false, List, length, get_or, set, drop, replicate, Option, Some, None, refl, sym, ap, subst, inl, inr, ⊎_elim, arith}
use Rattle.std.specs.Prelude.{◌^◌}
use Rattle.std.proofs.lemmas.Int.{ints}
use Rattle.std.proofs.lemmas.Bool.{cases_eq, cases_lt}
use Rattle.std.proofs.lemmas.List.{get_or-set_same, get_or-set_other, get_or-drop, get_or-replicate, get_or_past, get_or_default, length-drop, length-set, length-replicate, drop-replicate}
use Rattle.rm_exchange.specs.declared.removal.Removal.{Removal}
use Rattle.rm_exchange.specs.Removals.{IsNoDearer, is_no_dearer, cheapest, IsCheapestOf, AreRounds, IsTournament}

-- ---- the cheaper of two

pub no_dearer_self : (a : Removal) → IsNoDearer a a
no_dearer_self a = inr (refl, omega arith)

pub no_dearer_trans : (a c d : Removal) → IsNoDearer a c → IsNoDearer c d → IsNoDearer a d
no_dearer_trans a c d p q = grind (arith, ints)

pub no_dearer_is : (a c : Removal) → is_no_dearer a c ≡ true → IsNoDearer a c
no_dearer_is a c t = grind (arith, ints)

pub no_dearer_isnt : (a c : Removal) → is_no_dearer a c ≡ false → IsNoDearer c a
no_dearer_isnt a c t = grind (arith, ints)

-- the entry is empty, or no cheaper than the other
abbrev Covers : Option Removal → Option Removal → Type 0
Covers first second = (c : Removal) → second ≡ Some c → (a : Removal) × (first ≡ Some a) × IsNoDearer a c

covers_self : (o : Option Removal) → Covers o o
covers_self o c e = (c, e, no_dearer_self c)

covers_trans : (o p q : Option Removal) → Covers o p → Covers p q → Covers o q
covers_trans o p q f g c e =
    let m = g c e in
    let t = f m.0 m.1 in
    (t.0, t.1, no_dearer_trans t.0 m.0 c t.2 m.2)

chosen_cases : (a c : Removal) → ((cheapest (Some a) (Some c) ≡ Some a) × IsNoDearer a c) ⊎ ((cheapest (Some a) (Some c) ≡ Some c) × IsNoDearer c a)
chosen_cases a c = at (is_no_dearer a c) refl
  where
    at : (t : Bool) → is_no_dearer a c ≡ t → ((cheapest (Some a) (Some c) ≡ Some a) × IsNoDearer a c) ⊎ ((cheapest (Some a) (Some c) ≡ Some c) × IsNoDearer c a)
    at true e = inl (rw e refl, no_dearer_is a c e)
    at false e = inr (rw e refl, no_dearer_isnt a c e)

covers_first : (o p : Option Removal) → Covers (cheapest o p) o
covers_first None p c e = absurd (cc)
covers_first (Some a) None c e = (c, e, no_dearer_self c)
covers_first (Some a) (Some d) c e =
    ⊎_elim
    (λ l. (a, l.0, let h : a ≡ c = cc in subst (λ w. IsNoDearer a w) h (no_dearer_self a)))
    (λ r. (d, r.0, let h : a ≡ c = cc in subst (λ w. IsNoDearer d w) h r.1))
    (chosen_cases a d)

covers_second : (o p : Option Removal) → Covers (cheapest o p) p
covers_second None p c e = (c, e, no_dearer_self c)
covers_second (Some a) None c e = absurd (cc)
covers_second (Some a) (Some d) c e =
    ⊎_elim
    (λ l. (a, l.0, let h : d ≡ c = cc in subst (λ w. IsNoDearer a w) h l.1))
    (λ r. (d, r.0, let h : d ≡ c = cc in subst (λ w. IsNoDearer d w) h (no_dearer_self d)))
    (chosen_cases a d)

one_of : (o p : Option Removal) → (cheapest o p ≡ o) ⊎ (cheapest o p ≡ p)
one_of None p = inr refl
one_of (Some a) None = inl refl
one_of (Some a) (Some c) = ⊎_elim (λ l. inl l.0) (λ r. inr r.0) (chosen_cases a c)

-- ---- the first entry

abbrev entry : List (Option Removal) → ℕ → Option Removal
entry entries j = get_or entries j None

abbrev Rounds : ℕ → List (Option Removal) → ℕ → Type 0
Rounds width entries j = entry entries j ≡ cheapest (entry entries (2 * j)) (entry entries (2 * j + 1))

-- an entry covers the two of which it is the cheaper one
round_covers : (entries : List (Option Removal)) (j k : ℕ) → (k ≡ 2 * j) ⊎ (k ≡ 2 * j + 1) → entry entries j ≡ cheapest (entry entries (2 * j)) (entry entries (2 * j + 1)) → Covers (entry entries j) (entry entries k)
round_covers entries j k how round =
    let o : Option Removal = entry entries (2 * j) in
    let p : Option Removal = entry entries (2 * j + 1) in
    subst (λ q. Covers q (entry entries k)) (sym round)
    (⊎_elim
    (λ even. subst (λ i. Covers (cheapest o p) (entry entries i)) (sym even) (covers_first o p))
    (λ odd. subst (λ i. Covers (cheapest o p) (entry entries i)) (sym odd) (covers_second o p))
    how)

half : (k : ℕ) → (k ≡ 2 * (k / 2)) ⊎ (k ≡ 2 * (k / 2) + 1)
half k = ⊎_elim (λ e. inl e) (λ ne. inr (omega arith)) (cases_eq k (2 * (k / 2)))

-- the first one covers each entry
top_covers : (width : ℕ) (entries : List (Option Removal)) → AreRounds width entries → (n k : ℕ) → k ≤ n → 0 < k → k < 2 * width → Covers (entry entries 1) (entry entries k)
top_covers width entries r zero k le lo hi = absurd (omega arith)
top_covers width entries r (suc n) k le lo hi =
    ⊎_elim
    (λ e. subst (λ j. Covers (entry entries 1) (entry entries j)) (sym e) (covers_self (entry entries 1)))
    (λ ne.
    covers_trans (entry entries 1) (entry entries (k / 2)) (entry entries k) (top_covers width entries r n (k / 2) (omega arith) (omega arith) (omega arith))
    (round_covers entries (k / 2) k (half k) (r.rounds (k / 2) (omega arith) (omega arith))))
    (cases_eq k 1)

-- and is that of a rival
top_rival : (width : ℕ) (entries : List (Option Removal)) → AreRounds width entries → (n k : ℕ) → 2 * width ≤ k + n → 0 < k → k < 2 * width → (i : ℕ) × (i < width) × (entry entries k ≡ entry entries (width + i))
top_rival width entries r zero k le lo hi = absurd (omega arith)
top_rival width entries r (suc n) k le lo hi =
    ⊎_elim
    (λ lt.
    ⊎_elim
    (λ e. let t = top_rival width entries r n (2 * k) (omega arith) (omega arith) (omega arith) in (t.0, t.1, r.rounds k lo lt ∙ (e ∙ t.2)))
    (λ e. let t = top_rival width entries r n (2 * k + 1) (omega arith) (omega arith) (omega arith) in (t.0, t.1, r.rounds k lo lt ∙ (e ∙ t.2)))
    (one_of (entry entries (2 * k)) (entry entries (2 * k + 1))))
    (λ ge. let e : k ≡ width + (k - width) = omega arith in (k - width, omega arith, ap (entry entries) e))
    (cases_lt k width)

rival_at : (width : ℕ) (entries : List (Option Removal)) (i : ℕ) → get_or (drop width entries) i None ≡ entry entries (width + i)
rival_at width entries i = get_or-drop width entries i None

past : (entries : List (Option Removal)) (j : ℕ) (c : Removal) → entry entries j ≡ Some c → j < length entries
past entries j c e = ⊎_elim (λ lt. lt) (λ ge. absurd (let n = get_or_past entries j None ge in cc)) (cases_lt j (length entries))

top_is : (width : ℕ) (entries : List (Option Removal)) → AreRounds width entries → 0 < width → IsCheapestOf (drop width entries) (get_or entries 1 None)
top_is width entries r pos = at (get_or entries 1 None) refl
  where
    at : (o : Option Removal) → get_or entries 1 None ≡ o → IsCheapestOf (drop width entries) o
    at None e = λ i. rival_at width entries i ∙ none i (entry entries (width + i)) refl
      where
        none : (i : ℕ) → (o : Option Removal) → entry entries (width + i) ≡ o → o ≡ None
        none i None f = refl
        none i (Some c) f =
            let lt = past entries (width + i) c f in
            let t = r.twice in
            let cover = top_covers width entries r (width + i) (width + i) (omega arith) (omega arith) (omega arith) c f in
            absurd (let g = cover.1 in cc)
    at (Some best) e =
        let t = top_rival width entries r (2 * width) 1 (omega arith) (omega arith) (omega arith) in
        let twice = r.twice in
        let long = length-drop width entries in
        record {
          rival = (t.0, omega (arith, t.1), rival_at width entries t.0 ∙ (sym t.2 ∙ e));
          least = λ i c f.
              let g = sym (rival_at width entries i) ∙ f in
              let lt = past entries (width + i) c g in
              let cover = top_covers width entries r (width + i) (width + i) (omega arith) (omega arith) (omega arith) c g in
              (let h = cover.1 in let same : cover.0 ≡ best = cc in subst (λ a. IsNoDearer a c) same cover.2);
        }

no_rival : (width : ℕ) (entries : List (Option Removal)) → AreRounds width entries → width ≡ 0 → IsCheapestOf (drop width entries) None
no_rival width entries r e i = rival_at width entries i ∙ get_or_past entries (width + i) None (let t = r.twice in omega arith)

pub best_is : (width : ℕ) (entries : List (Option Removal)) (best : Option Removal) → IsTournament width entries best → IsCheapestOf (drop width entries) best
best_is width entries best t = subst (IsCheapestOf (drop width entries)) (sym t.first) (at (cases_lt 0 width))
  where
    at : (0 < width) ⊎ (width ≤ 0) → IsCheapestOf (drop width entries) (entry entries 1)
    at (inl some) = top_is width entries t.entries_are some
    at (inr none) = subst (IsCheapestOf (drop width entries)) (sym (get_or_past entries 1 None (let e = t.entries_are.twice in omega arith))) (no_rival width entries t.entries_are (omega arith))

-- ---- a change

-- the rounds stand at each place but perhaps the one above j
pub record AreRoundsBut (width : ℕ) (entries : List (Option Removal)) (j : ℕ) : Type 0 where
  pub small : width < 2 * 549755813888
  pub twice : length entries ≡ 2 * width
  pub here : j < 2 * width
  pub rounds : (k : ℕ) → 0 < k → k < width → k ≢ j / 2 → get_or entries k None ≡ cheapest (get_or entries (2 * k) None) (get_or entries (2 * k + 1) None)

rival_changed : (width : ℕ) (entries : List (Option Removal)) (j : ℕ) (o : Option Removal) → AreRounds width entries → width ≤ j → j < 2 * width → AreRoundsBut width (set entries j o) j
rival_changed width entries j o r lo hi = record {
  small = let s = r.small in omega arith;
  twice = length-set entries j o ∙ r.twice;
  here = hi;
  rounds = λ k pos lt ne.
      let n1 : k ≢ j = omega arith in
      let n2 : 2 * k ≢ j = omega arith in
      let n3 : 2 * k + 1 ≢ j = omega arith in
      get_or-set_other entries j k o None n1 ∙ (r.rounds k pos lt ∙ sym (rw (get_or-set_other entries j (2 * k) o None n2, get_or-set_other entries j (2 * k + 1) o None n3) refl));
}

round_changed : (width : ℕ) (entries : List (Option Removal)) (j i : ℕ) (o : Option Removal) → AreRoundsBut width entries j → 1 < j → i ≡ j / 2 → o ≡ cheapest (get_or entries (2 * i) None) (get_or entries (2 * i + 1) None) → AreRoundsBut width (set entries i o) i
round_changed width entries j i o r lo e f =
    let small_j = r.here in
    record {
      small = r.small;
      twice = length-set entries i o ∙ r.twice;
      here = omega arith;
      rounds = λ k pos lt ne.
          let n2 : 2 * k ≢ i = omega arith in
          let n3 : 2 * k + 1 ≢ i = omega arith in
          ⊎_elim
          (λ same.
          let twice = r.twice in
          subst (λ z. get_or (set entries i o) z None ≡ cheapest (get_or (set entries i o) (2 * z) None) (get_or (set entries i o) (2 * z + 1) None)) (sym same)
          (let m2 : 2 * i ≢ i = omega arith in
          let m3 : 2 * i + 1 ≢ i = omega arith in
          get_or-set_same entries i o None (omega arith) ∙ (f ∙ sym (rw (get_or-set_other entries i (2 * i) o None m2, get_or-set_other entries i (2 * i + 1) o None m3) refl))))
          (λ other.
          get_or-set_other entries i k o None other ∙ (r.rounds k pos lt (omega arith) ∙ sym (rw (get_or-set_other entries i (2 * k) o None n2, get_or-set_other entries i (2 * k + 1) o None n3) refl)))
          (cases_eq k i);
    }

-- so far as the j-th entry is changed, the best is the first entry, if that one isn't changed yet
pub record IsChanging (width : ℕ) (entries : List (Option Removal)) (best : Option Removal) (j : ℕ) : Type 0 where
  pub rounds : AreRoundsBut width entries j
  pub first : 1 < j → best ≡ get_or entries 1 None

pub change_starts : (width place : ℕ) (entries : List (Option Removal)) (best o : Option Removal) → IsTournament width entries best → place < width → IsChanging width (set entries (width + place) o) best (width + place)
change_starts width place entries best o t lt = record {
  rounds = rival_changed width entries (width + place) o t.entries_are (omega arith) (omega arith);
  first = λ more. t.first ∙ sym (get_or-set_other entries (width + place) 1 o None (omega arith));
}

pub change_climbs : (width : ℕ) (entries : List (Option Removal)) (best : Option Removal) (j i : ℕ) (o : Option Removal) → IsChanging width entries best j → 1 < j → i ≡ j / 2 → o ≡ cheapest (get_or entries (2 * i) None) (get_or entries (2 * i + 1) None) → IsChanging width (set entries i o) best i
change_climbs width entries best j i o t lo e f = record {
  rounds = round_changed width entries j i o t.rounds lo e f;
  first = λ more. t.first lo ∙ sym (get_or-set_other entries i 1 o None (omega arith));
}

-- where the next entry is as it was, all is done
pub change_stops : (width : ℕ) (entries : List (Option Removal)) (best : Option Removal) (j i : ℕ) (o p : Option Removal) → IsChanging width entries best j → 1 < j → i ≡ j / 2 → o ≡ cheapest (get_or entries (2 * i) None) (get_or entries (2 * i + 1) None) → p ≡ get_or entries i p → o ≡ p → IsTournament width entries best
change_stops width entries best j i o p t lo e f read same = record {
  entries_are = record {
    small = let s = t.rounds.small in omega arith;
    twice = t.rounds.twice;
    rounds = λ k pos lt.
        ⊎_elim
        (λ here.
        let twice = t.rounds.twice in
        let is : get_or entries i None ≡ o = sym (same ∙ (read ∙ get_or_default entries i p None (omega arith))) in
        subst (λ z. get_or entries z None ≡ cheapest (get_or entries (2 * z) None) (get_or entries (2 * z + 1) None)) (sym here) (is ∙ f))
        (λ other. t.rounds.rounds k pos lt (omega arith))
        (cases_eq k i);
  };
  first = t.first lo;
}

-- what is read of two entries
pub round_read : (width : ℕ) (entries : List (Option Removal)) (i : ℕ) (o p q : Option Removal) → length entries ≡ 2 * width → i < width → o ≡ get_or entries (2 * i) o → p ≡ get_or entries (2 * i + 1) p → q ≡ cheapest o p → q ≡ cheapest (get_or entries (2 * i) None) (get_or entries (2 * i + 1) None)
round_read width entries i o p q twice lt e f g =
    let e2 : o ≡ get_or entries (2 * i) None = e ∙ get_or_default entries (2 * i) o None (omega arith) in
    let f2 : p ≡ get_or entries (2 * i + 1) None = f ∙ get_or_default entries (2 * i + 1) p None (omega arith) in
    g ∙ (ap (λ r. cheapest r p) e2 ∙ ap (λ r. cheapest (get_or entries (2 * i) None) r) f2)

-- ---- no rival yet

empty : Option Removal
empty = None

pub none_of_none : (n j : ℕ) → get_or {A = Option Removal} (replicate n None) j None ≡ None
unfolding empty
none_of_none n j = ⊎_elim (λ lt. get_or-replicate n j empty empty lt) (λ ge. get_or_past (replicate n empty) j empty (let l = length-replicate n empty in omega arith)) (cases_lt j n)

empty_rounds : (width n : ℕ) (entries : List (Option Removal)) → width < 2 ^ 40 → entries ≡ replicate n None → n ≡ 2 * width → AreRounds width entries
empty_rounds width n entries small e same = rw e (record {
  small = small;
  twice = length-replicate n None ∙ same;
  rounds = λ j pos lt. rw (none_of_none n j, none_of_none n (2 * j), none_of_none n (2 * j + 1)) refl;
})

pub empty_rivals : (width n : ℕ) (entries : List (Option Removal)) → entries ≡ replicate n None → n ≡ 2 * width → drop width entries ≡ replicate width None
empty_rivals width n entries e same = ap (drop width) e ∙ (drop-replicate width n None ∙ (let k : n - width ≡ width = omega arith in ap (λ m. replicate m None) k))

pub empty_tournament : (width n : ℕ) (entries : List (Option Removal)) → width < 2 ^ 40 → entries ≡ replicate n None → n ≡ 2 * width → IsTournament width entries None
empty_tournament width n entries small e same = record {
  entries_are = empty_rounds width n entries small e same;
  first = sym (ap (λ (l : List (Option Removal)). get_or l 1 None) e ∙ none_of_none n 1);
}
