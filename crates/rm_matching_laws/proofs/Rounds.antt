-- Turns of all doctors, round after round, close every run.
use Rattle.std.proofs.Common.{◌≡◌, ℕ, zero, suc, ◌+◌, ◌≤◌, List, [], ◌∷◌, ◌++◌, true, ◌⊎◌, length, get_or, refl, sym, ap, ◌∙◌, subst, inl, inr, ⊎_elim, arith, None, is_some}
use Rattle.std.proofs.lemmas.Bool.{cases_Bool}
use Rattle.std.proofs.lemmas.List.Concat.{length-flat_map}
use Rattle.std.proofs.lemmas.Grind.{flat_map-append}
use Rattle.std.specs.Prelude.{flat_map, sum_by}
use Rattle.rm_sets.specs.Sets.{IsIn, IsSet, with_one, union, IsWithin, all_below}
use Rattle.rm_sets.proofs.Sets.{IsIn-cases, cases_has, IsSet-nil, IsSet-with_one, IsSet-union}
use Rattle.rm_sets.proofs.Members.{not_in_nil, IsIn-append_left, IsIn-append_right, IsIn-union_right, with_one_within, within_refl}
use Rattle.rm_sets.proofs.Sizes.{length-with_one, length_within}
use Rattle.rm_market.specs.Stable.{Wishes, owner}
use Rattle.rm_market.specs.Machine.{State, start, next_offer, after_offer, after_turn, run, offered_so_far, IsClosed, rounds, closing}
use Rattle.rm_matching_laws.proofs.Stable.{AreLawful}
use Rattle.rm_matching_laws.proofs.Runs.{IsReached, from_offered, IsSetBelow-offered, IsReached-turn, IsReached-after}
use Rattle.rm_matching_laws.proofs.ClosedRuns.{nobody_closed, none_from, more_offered, run-append}

-- ---- the contracts of all lists

all_listed : List (List ℕ) → List ℕ
all_listed L = flat_map (λ l. l) L

length-all_listed : (L : List (List ℕ)) → length (all_listed L) ≡ sum_by length L
unfolding all_listed
length-all_listed L = length-flat_map (λ (l : List ℕ). l) L

in_all_listed : (L : List (List ℕ)) (d x : ℕ) → IsIn x (get_or L d []) → IsIn x (all_listed L)
unfolding all_listed
in_all_listed [] d x i = i
in_all_listed (l ∷ L) zero x i = IsIn-append_left l (flat_map (λ k. k) L) x i
in_all_listed (l ∷ L) (suc d) x i = IsIn-append_right l (flat_map (λ k. k) L) x (in_all_listed L d x i)

with_one_length : (S : List ℕ) (x : ℕ) → IsSet S → length (with_one S x) ≤ length S + 1
with_one_length S x s =
    ⊎_elim
    (λ i. let e : length (with_one S x) ≤ length S = length_within (with_one S x) S (IsSet-with_one S x s) s (with_one_within S S x (within_refl S) i) in omega arith)
    (λ out. let e : length (with_one S x) ≡ length S + 1 = length-with_one S x out in omega arith)
    (cases_has x S)

union_length : (S L : List ℕ) → IsSet S → length (union S L) ≤ length S + length L
union_length S [] s = omega arith
union_length S (x ∷ L) s =
    let a : length (union (with_one S x) L) ≤ length (with_one S x) + length L = union_length (with_one S x) L (IsSet-with_one S x s) in
    let b : length (with_one S x) ≤ length S + 1 = with_one_length S x s in
    omega arith

length_in_list : (S L : List ℕ) → IsSet S → IsWithin S L → length S ≤ length L
length_in_list S L s within =
    let a : length S ≤ length (union [] L) = length_within S (union [] L) s (IsSet-union [] L IsSet-nil) (λ x i. IsIn-union_right [] L x (within x i)) in
    let b : length (union [] L) ≤ 0 + length L = union_length [] L IsSet-nil in
    omega arith

rounds_more : (n : ℕ) (ds : List ℕ) → rounds (suc n) ds ≡ rounds n ds ++ (ds ++ [])
rounds_more n ds = flat_map-append (λ (k : ℕ). ds) (all_below n (λ _. true)) (n ∷ [])

module _ (C : List ℕ → List ℕ) (D : Wishes) (m : AreLawful C D) where
  offered_bound : (s : State) → length (offered_so_far D s) ≤ sum_by length D.listed
  offered_bound s =
      let a : length (offered_so_far D s) ≤ length (all_listed D.listed) =
      length_in_list (offered_so_far D s) (all_listed D.listed) (IsSetBelow-offered C D m s).ascending
      (λ x i. in_all_listed D.listed (owner D x) x (from_offered C D m s x i).0) in
      let b : length (all_listed D.listed) ≡ sum_by length D.listed = length-all_listed D.listed in
      omega arith

  doctors : List ℕ
  doctors = all_below (length D.listed) (λ _. true)

  -- turns change nothing where nobody of them can offer, or more is offered
  some_turns :
      (ds : List ℕ) (s : State) → IsReached C D s →
      ((run C D s ds ≡ s) × ((d : ℕ) → IsIn d ds → next_offer D s d ≡ None)) ⊎ (length (offered_so_far D s) + 1 ≤ length (offered_so_far D (run C D s ds)))
  some_turns [] s r = inl (refl, λ d i. absurd (not_in_nil d i))
  some_turns (d ∷ ds) s r =
      ⊎_elim
      (λ yes.
      let t : State = after_turn C D s d in
      let up : length (offered_so_far D t) ≡ length (offered_so_far D s) + 1 = more_offered C D m s d r yes in
      ⊎_elim
      (λ h. let e : length (offered_so_far D (run C D t ds)) ≡ length (offered_so_far D t) = ap (λ u. length (offered_so_far D u)) h.0 in inr (omega arith))
      (λ h. let lt : length (offered_so_far D t) + 1 ≤ length (offered_so_far D (run C D t ds)) = h in inr (omega arith))
      (some_turns ds t (IsReached-turn C D m s d r)))
      (λ no.
      let stays : after_turn C D s d ≡ s = ap (after_offer C s d) (none_from (next_offer D s d) no) in
      ⊎_elim
      (λ h. inl (
        ap (λ t. run C D t ds) stays ∙ h.0,
        λ e i. ⊎_elim (λ same. ap (next_offer D s) same ∙ none_from (next_offer D s d) no) (λ later. h.1 e later) (IsIn-cases e d ds i),
      ))
      (λ h. inr (subst (λ t. length (offered_so_far D s) + 1 ≤ length (offered_so_far D (run C D t ds))) (sym stays) h))
      (some_turns ds s r))
      (cases_Bool (is_some (next_offer D s d)))

  stays_closed : (ds : List ℕ) (s : State) → IsClosed C D s → run C D s ds ≡ s
  stays_closed [] s closed = refl
  stays_closed (d ∷ ds) s closed = ap (λ t. run C D t ds) (closed d) ∙ stays_closed ds s closed

  one_round : (s : State) → IsReached C D s → IsClosed C D s ⊎ (length (offered_so_far D s) + 1 ≤ length (offered_so_far D (run C D s doctors)))
  unfolding doctors
  one_round s r = ⊎_elim (λ h. inl (nobody_closed C D m s h.1)) (λ h. inr h) (some_turns doctors s r)

  after_rounds : (n : ℕ) → IsClosed C D (run C D (start D) (rounds n doctors)) ⊎ (n ≤ length (offered_so_far D (run C D (start D) (rounds n doctors))))
  after_rounds zero = inr (omega arith)
  after_rounds (suc n) =
      let s : State = run C D (start D) (rounds n doctors) in
      let e : run C D (start D) (rounds (suc n) doctors) ≡ run C D s doctors = ap (run C D (start D)) (rounds_more n doctors) ∙ run-append C D m (rounds n doctors) (doctors ++ []) (start D) ∙ (run-append C D m doctors [] s) in
      let closed_case : IsClosed C D s → IsClosed C D (run C D (start D) (rounds (suc n) doctors)) = λ closed. subst (IsClosed C D) (sym (e ∙ stays_closed doctors s closed)) closed in
      ⊎_elim
      (λ closed. inl (closed_case closed))
      (λ le. ⊎_elim
      (λ closed. inl (closed_case closed))
      (λ more. inr (subst (λ t. suc n ≤ length (offered_so_far D t)) (sym e) (omega arith)))
      (one_round s (IsReached-after C D m (rounds n doctors))))
      (after_rounds n)

  pub closing_closes : IsClosed C D (run C D (start D) (closing D))
  unfolding doctors
  closing_closes =
      let s : State = run C D (start D) (closing D) in
      ⊎_elim
      (λ closed. closed)
      (λ le. ⊎_elim
      (λ closed. closed)
      (λ more.
      let most : length (offered_so_far D (run C D s doctors)) ≤ sum_by length D.listed = offered_bound (run C D s doctors) in
      absurd (omega arith))
      (one_round s (IsReached-after C D m (closing D))))
      (after_rounds (sum_by length D.listed))
