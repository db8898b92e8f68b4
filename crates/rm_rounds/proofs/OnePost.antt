-- Two doctors with two contracts each at a hospital with one post.
use Rattle.std.proofs.Common.{◌≡◌, ℕ, zero, suc, ◌<◌, List, [], ◌∷◌, ◌⊎◌, refl, false, inl, inr, ⊎_elim, arith}
use Rattle.std.specs.Prelude.{◌==◌}
use Rattle.std.specs.List.{IsDistinct}
use Rattle.rm_sets.specs.Sets.{IsIn}
use Rattle.rm_sets.proofs.Sets.{IsIn-cases}
use Rattle.rm_market.specs.Stable.{Wishes, owner, list_of}
use Rattle.rm_market.specs.Laws.{IsListOf, AreWishes}
use Rattle.rm_choice.proofs.FirstOnly.{in_one}
use Rattle.rm_rounds.specs.Desk.{wishes}

abbrev two : Wishes
two = wishes (1 ∷ 0 ∷ 0 ∷ 1 ∷ []) ((2 ∷ 1 ∷ []) ∷ (3 ∷ 0 ∷ []) ∷ [])

two_owners : (x : ℕ) → x < 4 → owner two x < 2
two_owners zero lt = omega arith
two_owners (suc zero) lt = omega arith
two_owners (suc (suc zero)) lt = omega arith
two_owners (suc (suc (suc zero))) lt = omega arith
two_owners (suc (suc (suc (suc x)))) lt = absurd (omega (arith, lt))

in_two : (x a b : ℕ) → IsIn x (a ∷ b ∷ []) → (x ≡ a) ⊎ (x ≡ b)
in_two x a b i = ⊎_elim inl (λ j. inr (in_one x b j)) (IsIn-cases x a (b ∷ []) i)

two_list : (d a b : ℕ) → IsDistinct ◌==◌ (a ∷ b ∷ []) → a < 4 → b < 4 → owner two a ≡ d → owner two b ≡ d → IsListOf two d (a ∷ b ∷ [])
two_list d a b once low low2 own own2 = record {
  distinct = once;
  below = λ x i. ⊎_elim (λ e. rw e low) (λ e. rw e low2) (in_two x a b i);
  owned = λ x i. ⊎_elim (λ e. rw e own) (λ e. rw e own2) (in_two x a b i);
}

pub pair_distinct : (a b : ℕ) → (a == b) ≡ false → IsDistinct ◌==◌ (a ∷ b ∷ [])
unfolding IsDistinct
pair_distinct a b e = ((e, tt), (tt, tt))

two_lists : (d : ℕ) → d < 2 → IsListOf two d (list_of two d)
two_lists zero lt = two_list 0 2 1 (pair_distinct 2 1 refl) (omega arith) (omega arith) refl refl
two_lists (suc zero) lt = two_list 1 3 0 (pair_distinct 3 0 refl) (omega arith) (omega arith) refl refl
two_lists (suc (suc d)) lt = absurd (omega (arith, lt))

pub two_are_wishes : (owners : List ℕ) (listed : List (List ℕ)) → owners ≡ two.owners → listed ≡ two.listed → AreWishes 4 (wishes owners listed)
two_are_wishes owners listed e f = rw (e, f) (record { contracts = refl; owners = two_owners; lists = two_lists })
