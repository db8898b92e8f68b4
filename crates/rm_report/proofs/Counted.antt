-- Counts that grow doctor by doctor.
use Rattle.std.proofs.Common.{◌≡◌, ◌∙◌, ◌+◌, ◌<◌, ◌≤◌, ◌==◌, ◌||◌, ℕ, zero, suc, List, Bool, true, false, length, get_or, set, replicate, take, count_by, Option, Some, None, IfSome, if◌then◌else◌, refl, sym, ap, arith, add-one}
use Rattle.std.specs.Option.{option_map_or}
use Rattle.std.proofs.lemmas.Bool.{eqb-true, eqb-false, eq-eqb}
use Rattle.std.proofs.lemmas.List.{get_or-set_same, get_or-set_other, get_or-replicate, length-replicate, length-set}
use Rattle.std.proofs.lemmas.List.Folds.{list_any_more}
use Rattle.std.proofs.lemmas.List.Sums.{count_by-le-length}
use Rattle.rm_sets.specs.Sets.{below}
use Rattle.rm_sets.proofs.Once.{length-below}
use Rattle.rm_laminar.proofs.Counts.{count-push}
use Rattle.rm_report.specs.Counts.{AreEach, AreMarks, IsLast, has_key, one_if, one_more}

-- ---- how many of the first d doctors pass a test

pub count-next : (p : ℕ → Bool) (d : ℕ) → count_by p (below (d + 1)) ≡ count_by p (below d) + one_if (p d)
count-next p d = rw (add-one d) (count-push p (below d) d)

pub count-few : (p : ℕ → Bool) (d : ℕ) → count_by p (below d) ≤ d
count-few p d = let few = count_by-le-length p (below d) in let l = length-below d in omega (arith, few, l)

pub count-alike : (p q : ℕ → Bool) (n : ℕ) → ((e : ℕ) → e < n → p e ≡ q e) → count_by p (below n) ≡ count_by q (below n)
count-alike p q zero h = refl
count-alike p q (suc n) h =
    let here : one_if (p n) ≡ one_if (q n) = ap one_if (h n (omega arith)) in
    let rest = count-alike p q n (λ e lt. h e (omega (arith, lt))) in
    omega (arith, count-push p (below n) n, count-push q (below n) n, here, rest)

-- ---- a count for each number

pub each-none : (n : ℕ) (p : ℕ → ℕ → Bool) → AreEach n (λ k. count_by (p k) (below 0)) (replicate n 0)
each-none n p = record { each = length-replicate n 0; is = λ k lt. get_or-replicate n k 0 0 lt }

-- one more at h
one-more : (counts : List ℕ) (h k c : ℕ) → h < length counts → get_or counts k 0 ≡ c → get_or (set counts h (get_or counts h 0 + 1)) k 0 ≡ c + one_if (h == k)
one-more counts h k c low so_far = by (h == k) refl
  where
    by : (b : Bool) → (h == k) ≡ b → get_or (set counts h (get_or counts h 0 + 1)) k 0 ≡ c + one_if b
    by true e = rw (← eqb-true h k e) (get_or-set_same counts h (get_or counts h 0 + 1) 0 low ∙ ap (λ n. n + 1) (rw (← eqb-true h k e) at so_far))
    by false e = get_or-set_other counts h k (get_or counts h 0 + 1) 0 (λ same. eqb-false h k e (sym same)) ∙ omega (arith, so_far)

-- doctor d counts at h alone
pub each-more : (n d h : ℕ) (p : ℕ → ℕ → Bool) (counts : List ℕ) → AreEach n (λ k. count_by (p k) (below d)) counts → h < n
    → ((k : ℕ) → p k d ≡ (h == k)) → AreEach n (λ k. count_by (p k) (below (d + 1))) (set counts h (get_or counts h 0 + 1))
each-more n d h p counts so_far low test =
    record {
      each = length-set counts h (get_or counts h 0 + 1) ∙ so_far.each;
      is = λ k lt. one-more counts h k (count_by (p k) (below d)) (rw so_far.each low) (so_far.is k lt)
          ∙ ap (λ b. count_by (p k) (below d) + one_if b) (sym (test k)) ∙ sym (count-next (p k) d);
    }

-- doctor d counts nowhere
pub each-same : (n d : ℕ) (p : ℕ → ℕ → Bool) (counts : List ℕ) → AreEach n (λ k. count_by (p k) (below d)) counts
    → ((k : ℕ) → p k d ≡ false) → AreEach n (λ k. count_by (p k) (below (d + 1))) counts
each-same n d p counts so_far test =
    record {
      each = so_far.each;
      is = λ k lt. so_far.is k lt ∙ omega (arith, count-next (p k) d, ap one_if (test k));
    }

-- doctor d counts at this number, or nowhere
pub each-counted : (n d : ℕ) (p : ℕ → ℕ → Bool) (counts : List ℕ) (at : Option ℕ) → AreEach n (λ k. count_by (p k) (below d)) counts
    → IfSome at (λ h. h < n) → ((k : ℕ) → p k d ≡ option_map_or (λ g. g == k) at false) → AreEach n (λ k. count_by (p k) (below (d + 1))) (one_more counts at)
each-counted n d p counts None so_far low test = each-same n d p counts so_far test
each-counted n d p counts (Some h) so_far low test = each-more n d h p counts so_far low test

pub each-within : (n d : ℕ) (p : ℕ → ℕ → Bool) (counts : List ℕ) (at : Option ℕ) → AreEach n (λ k. count_by (p k) (below d)) counts
    → IfSome at (λ h. h < n) → IfSome at (λ h. h < length counts)
each-within n d p counts None so_far low = tt
each-within n d p counts (Some h) so_far low = rw so_far.each low

pub each-few : (n d : ℕ) (p : ℕ → ℕ → Bool) (counts : List ℕ) (at : Option ℕ) → AreEach n (λ k. count_by (p k) (below d)) counts
    → IfSome at (λ h. h < n) → d < 4_000_000_000 → IfSome at (λ h. get_or counts h 0 < 4_294_967_295)
each-few n d p counts None so_far low few = tt
each-few n d p counts (Some h) so_far low few = omega (arith, so_far.is h low, count-few (p h) d, few)

-- ---- marks

pub marks-none : (n : ℕ) (before : ℕ → ℕ) → ((k : ℕ) → before k ≡ 0) → AreMarks n 0 before (λ k. false) (replicate n 0) (replicate n 0)
marks-none n before none =
    record {
      count_each = length-replicate n 0;
      last_each = length-replicate n 0;
      count = λ k lt. get_or-replicate {A = ℕ} n k 0 0 lt ∙ omega (arith, none k);
      last_is = λ k lt. omega (arith, get_or-replicate {A = ℕ} n k 0 0 lt);
    }

-- doctor d is marked at key q
abbrev pub marked : ℕ → ℕ → List ℕ → List ℕ → List ℕ
marked d q counts last = if get_or last q 0 == d + 1 then counts else set counts q (get_or counts q 0 + 1)

mark-length : (d q : ℕ) (counts last : List ℕ) → length (marked d q counts last) ≡ length counts
mark-length d q counts last = by (get_or last q 0 == d + 1)
  where
    by : (b : Bool) → length (if b then counts else set counts q (get_or counts q 0 + 1)) ≡ length counts
    by true = refl
    by false = length-set counts q (get_or counts q 0 + 1)

-- whether doctor d is the last one tells whether he was seen
seen-told : (d last : ℕ) (seen : Bool) → IsLast d seen last → (last == d + 1) ≡ seen
seen-told d last true is = eq-eqb last (d + 1) is
seen-told d last false is = by (last == d + 1) refl
  where
    by : (b : Bool) → (last == d + 1) ≡ b → b ≡ false
    by true e = absurd (omega (arith, is, eqb-true last (d + 1) e))
    by false e = refl

counted : (counts : List ℕ) (q k before : ℕ) (seen_q seen : Bool) → q < length counts → get_or counts k 0 ≡ before + one_if seen → ((q ≡ k) → seen_q ≡ seen)
    → get_or (if seen_q then counts else set counts q (get_or counts q 0 + 1)) k 0 ≡ before + one_if (seen || (q == k))
counted counts q k before true true low is same = is
counted counts q k before true false low is same = by (q == k) refl
  where
    by : (b : Bool) → (q == k) ≡ b → get_or counts k 0 ≡ before + one_if b
    by true e = absurd (cc (same (eqb-true q k e)))
    by false e = is
counted counts q k before false true low is same =
    get_or-set_other counts q k (get_or counts q 0 + 1) 0 (λ e. absurd (cc (same (sym e)))) ∙ is
counted counts q k before false false low is same = one-more counts q k before low (omega (arith, is))

last-told : (last : List ℕ) (d q k : ℕ) (seen : Bool) → q < length last → IsLast d seen (get_or last k 0) → IsLast d (seen || (q == k)) (get_or (set last q (d + 1)) k 0)
last-told last d q k seen low is = by (q == k) refl
  where
    or_true : (b : Bool) → (b || true) ≡ true
    or_true true = refl
    or_true false = refl

    or_false : (b : Bool) → (b || false) ≡ b
    or_false true = refl
    or_false false = refl

    by : (b : Bool) → (q == k) ≡ b → IsLast d (seen || b) (get_or (set last q (d + 1)) k 0)
    by true e = rw (or_true seen, ← eqb-true q k e) (get_or-set_same last q (d + 1) 0 low)
    by false e = rw (or_false seen, get_or-set_other last q k (d + 1) 0 (λ same. eqb-false q k e (sym same))) is

pub marks-more : (n d q : ℕ) (before : ℕ → ℕ) (seen next : ℕ → Bool) (counts last : List ℕ) → AreMarks n d before seen counts last → q < n
    → ((k : ℕ) → next k ≡ (seen k || (q == k))) → AreMarks n d before next (marked d q counts last) (set last q (d + 1))
marks-more n d q before seen next counts last so_far low more =
    record {
      count_each = mark-length d q counts last ∙ so_far.count_each;
      last_each = length-set last q (d + 1) ∙ so_far.last_each;
      count = λ k lt. rw (seen-told d (get_or last q 0) (seen q) (so_far.last_is q low), more k)
          (counted counts q k (before k) (seen q) (seen k) (rw so_far.count_each low) (so_far.count k lt) (λ e. ap seen e));
      last_is = λ k lt. rw (more k) (last-told last d q k (seen k) (rw so_far.last_each low) (so_far.last_is k lt));
    }

-- those of the next doctor, who is seen nowhere yet
pub marks-next : (n d : ℕ) (before next : ℕ → ℕ) (seen : ℕ → Bool) (counts last : List ℕ) → AreMarks n d before seen counts last
    → ((k : ℕ) → next k ≡ before k + one_if (seen k)) → AreMarks n (d + 1) next (λ k. false) counts last
marks-next n d before next seen counts last so_far more =
    record {
      count_each = so_far.count_each;
      last_each = so_far.last_each;
      count = λ k lt. so_far.count k lt ∙ omega (arith, more k);
      last_is = λ k lt. by k (seen k) (so_far.last_is k lt);
    }
  where
    by : (k : ℕ) (b : Bool) → IsLast d b (get_or last k 0) → get_or last k 0 ≤ d + 1
    by k true is = omega (arith, is)
    by k false is = omega (arith, is)

pub marks-few : (n d k : ℕ) (p : ℕ → ℕ → Bool) (seen : ℕ → Bool) (counts last : List ℕ) → AreMarks n d (λ k. count_by (p k) (below d)) seen counts last
    → k < n → d < 2_000_000_000 → get_or counts k 0 < 4_000_000_000
marks-few n d k p seen counts last so_far low few = by (seen k) (so_far.count k low)
  where
    by : (b : Bool) → get_or counts k 0 ≡ count_by (p k) (below d) + one_if b → get_or counts k 0 < 4_000_000_000
    by true is = omega (arith, is, count-few (p k) d, few)
    by false is = omega (arith, is, count-few (p k) d, few)

-- one more contract of doctor d
pub marks-contract : (n d q i : ℕ) (before : ℕ → ℕ) (key : ℕ → ℕ) (contracts counts last new_counts new_last : List ℕ)
    → AreMarks n d before (has_key key (take i contracts)) counts last → i < length contracts → q < n → q ≡ key (get_or contracts i 0)
    → new_counts ≡ marked d q counts last → new_last ≡ set last q (d + 1) → AreMarks n d before (has_key key (take (i + 1) contracts)) new_counts new_last
marks-contract n d q i before key contracts counts last new_counts new_last so_far within low told counts_are last_is =
    rw (counts_are, last_is)
    (marks-more n d q before (has_key key (take i contracts)) (has_key key (take (i + 1) contracts)) counts last so_far low
    (λ k. list_any_more (λ x. key x == k) contracts i 0 within ∙ ap (λ g. has_key key (take i contracts) k || (g == k)) (sym told)))
