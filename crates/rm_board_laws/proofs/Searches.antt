-- Checks that find no fault, and searches that find nothing.
use Rattle.std.proofs.Common.{◌≡◌, ℕ, zero, suc, ◌+◌, ◌<◌, Bool, true, false, cond, List, [], ◌∷◌, ◌++◌, length, get_or, map, filter, Option, Some, None, refl, sym, ◌∙◌, arith, true≢false}
use Rattle.std.specs.Prelude.{find, flat_map, is_none, option_map, position}
use Rattle.std.specs.List.{list_any, position_from, last_or}
use Rattle.std.proofs.lemmas.Bool.{or_left, or_right}
use Rattle.std.proofs.lemmas.Iterator.Adapters.{position_from-zero}
use Rattle.rm_base.specs.Checks.{check, first_of}

some_none : {A : Type 0} (a : A) → Some a ≡ None → ⊥
some_none a e = cc

-- ---- no fault

pub none_cons : {A : Type 0} (c : Option A) (L : List (Option A)) → first_of (c ∷ L) ≡ None → (c ≡ None) × (first_of L ≡ None)
none_cons None L e = (refl, e)
none_cons (Some a) L e = absurd (some_none a e)

pub none_append : {A : Type 0} (L M : List (Option A)) → first_of (L ++ M) ≡ None → (first_of L ≡ None) × (first_of M ≡ None)
none_append [] M e = (refl, e)
none_append (None ∷ L) M e = none_append L M e
none_append (Some a ∷ L) M e = absurd (some_none a e)

pub none_flat : {A B : Type 0} (g : B → List (Option A)) (xs : List B) (d : B) → first_of (flat_map g xs) ≡ None → (k : ℕ) → k < length xs → first_of (g (get_or xs k d)) ≡ None
none_flat g [] d e k lt = absurd (omega arith)
none_flat g (x ∷ xs) d e zero lt = (none_append (g x) (flat_map g xs) e).0
none_flat g (x ∷ xs) d e (suc k) lt = none_flat g xs d (none_append (g x) (flat_map g xs) e).1 k (omega arith)

pub check_none : {A : Type 0} (b : Bool) (a : A) → check b a ≡ None → b ≡ false
check_none true a e = absurd (some_none a e)
check_none false a e = refl

pub option_map_none : {A B : Type 0} (g : A → B) (o : Option A) → option_map g o ≡ None → o ≡ None
option_map_none g None e = refl
option_map_none g (Some a) e = absurd (some_none (g a) e)

pub some_from : (o : Option ℕ) → is_none o ≡ false → (k : ℕ) × (o ≡ Some k)
some_from None g = absurd (true≢false g)
some_from (Some j) g = (j, refl)

-- ---- searches

pub find_nowhere : {A : Type 0} (p : A → Bool) (L : List A) (d : A) → find p L ≡ None → (k : ℕ) → k < length L → p (get_or L k d) ≡ false
find_nowhere p [] d e k lt = absurd (omega arith)
find_nowhere p (b ∷ L) d e k lt = by (λ h j lj. find_nowhere p L d h j lj) (p b) refl e k lt
  where
    by : (find p L ≡ None → (j : ℕ) → j < length L → p (get_or L j d) ≡ false) → (c : Bool) → p b ≡ c → cond c (Some b) (find p L) ≡ None → (k : ℕ) → k < length (b ∷ L) → p (get_or (b ∷ L) k d) ≡ false
    by rest true t h k lk = absurd (some_none b h)
    by rest false t h zero lk = t
    by rest false t h (suc k) lk = rest h k (omega arith)

position_from_nowhere : {A : Type 0} (p : A → Bool) (i : ℕ) (L : List A) (d : A) → position_from p i L ≡ None → (k : ℕ) → k < length L → p (get_or L k d) ≡ false
position_from_nowhere p i [] d e k lt = absurd (omega arith)
position_from_nowhere p i (b ∷ L) d e k lt = by (λ h j lj. position_from_nowhere p (i + 1) L d h j lj) (p b) refl e k lt
  where
    by : (position_from p (i + 1) L ≡ None → (j : ℕ) → j < length L → p (get_or L j d) ≡ false) → (c : Bool) → p b ≡ c → cond c (Some i) (position_from p (i + 1) L) ≡ None → (k : ℕ) → k < length (b ∷ L) → p (get_or (b ∷ L) k d) ≡ false
    by rest true t h k lk = absurd (some_none i h)
    by rest false t h zero lk = t
    by rest false t h (suc k) lk = rest h k (omega arith)

pub position_nowhere : {A : Type 0} (p : A → Bool) (L : List A) (d : A) → position p L ≡ None → (k : ℕ) → k < length L → p (get_or L k d) ≡ false
position_nowhere p L d e = position_from_nowhere p 0 L d (sym (position_from-zero p L) ∙ e)

pub position_bound : {A : Type 0} (p : A → Bool) (i : ℕ) (L : List A) (k : ℕ) → position_from p i L ≡ Some k → k < i + length L
position_bound p i [] k e = absurd (no e)
  where
    no : None ≡ Some k → ⊥
    no g = cc
position_bound p i (a ∷ L) k e = by (λ h. position_bound p (i + 1) L k h) (p a) e
  where
    by : (position_from p (i + 1) L ≡ Some k → k < (i + 1) + length L) → (c : Bool) → cond c (Some i) (position_from p (i + 1) L) ≡ Some k → k < i + length (a ∷ L)
    by rest true h = let same' : i ≡ k = cc in omega arith
    by rest false h = let r = rest h in omega arith

pub any_at : {A : Type 0} (p : A → Bool) (L : List A) (d : A) (k : ℕ) → k < length L → p (get_or L k d) ≡ true → list_any p L ≡ true
any_at p [] d k lt h = absurd (omega arith)
any_at p (a ∷ L) d zero lt h = or_left (p a) (list_any p L) h
any_at p (a ∷ L) d (suc k) lt h = or_right (p a) (list_any p L) (any_at p L d k (omega arith) h)

last_is : {A : Type 0} (a : A) (L : List A) → (e : A) × (last_or (Some a) L ≡ Some e)
last_is a [] = (a, refl)
last_is a (b ∷ L) = last_is b L

-- where one passes, there is a last one that does
pub last_passing : {A B : Type 0} (f : A → B) (q : A → Bool) (L : List A) (d : A) (k : ℕ) → k < length L → q (get_or L k d) ≡ true → (e : B) × (last_or None (map f (filter q L)) ≡ Some e)
last_passing {B = B} f q [] d k lt h = absurd (omega arith)
last_passing {B = B} f q (a ∷ L) d k lt h = by (λ j lj hj. last_passing f q L d j lj hj) (q a) refl k lt h
  where
    by : ((j : ℕ) → j < length L → q (get_or L j d) ≡ true → (e : B) × (last_or None (map f (filter q L)) ≡ Some e)) → (c : Bool) → q a ≡ c → (k : ℕ) → k < length (a ∷ L) → q (get_or (a ∷ L) k d) ≡ true →
        (e : B) × (last_or None (map f (cond c (a ∷ filter q L) (filter q L))) ≡ Some e)
    by rest true t k lk hk = last_is (f a) (map f (filter q L))
    by rest false t zero lk hk = absurd (true≢false (sym hk ∙ t))
    by rest false t (suc k) lk hk = rest k (omega arith) hk
