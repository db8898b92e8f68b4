-- One seat that takes the first of what is offered, and two doctors with two contracts and one.
use Rattle.std.proofs.Common.{◌≡◌, ℕ, zero, suc, ◌<◌, List, [], ◌∷◌, refl, ⊎_elim, arith}
use Rattle.std.specs.Prelude.{◌==◌}
use Rattle.std.specs.List.{IsDistinct}
use Rattle.rm_sets.specs.Sets.{IsIn}
use Rattle.rm_sets.proofs.Sets.{IsIn-cases}
use Rattle.rm_sets.proofs.Members.{not_in_nil}
use Rattle.rm_market.specs.Stable.{Wishes, owner, list_of}
use Rattle.rm_market.specs.Laws.{IsListOf, AreWishes}
pub use Rattle.rm_rounds.proofs.OnePost.{pair_distinct}
use Rattle.rm_transit.specs.Travel.{wishes}

abbrev three : Wishes
three = wishes (0 ∷ 1 ∷ 0 ∷ []) ((2 ∷ 0 ∷ []) ∷ (1 ∷ []) ∷ [])

three_owners : (x : ℕ) → x < 3 → owner three x < 2
three_owners zero lt = omega arith
three_owners (suc zero) lt = omega arith
three_owners (suc (suc zero)) lt = omega arith
three_owners (suc (suc (suc x))) lt = absurd (omega (arith, lt))

pub one_distinct : (a : ℕ) → IsDistinct ◌==◌ (a ∷ [])
unfolding IsDistinct
one_distinct a = (tt, tt)

-- what holds of the first and of the later ones
each_in : (P : ℕ → Type 0) (a : ℕ) (L : List ℕ) → P a → ((x : ℕ) → IsIn x L → P x) → (x : ℕ) → IsIn x (a ∷ L) → P x
each_in P a L first later x i = ⊎_elim (λ e. rw e first) (λ j. later x j) (IsIn-cases x a L i)

none_in : (P : ℕ → Type 0) (x : ℕ) → IsIn x [] → P x
none_in P x i = absurd (not_in_nil x i)

abbrev IsLow : ℕ → Type 0
IsLow x = x < 3

abbrev IsOf : ℕ → ℕ → Type 0
IsOf d x = owner three x ≡ d

three_lists : (d : ℕ) → d < 2 → IsListOf three d (list_of three d)
three_lists zero lt = record {
  distinct = pair_distinct 2 0 refl;
  below = each_in IsLow 2 (0 ∷ []) (omega arith) (each_in IsLow 0 [] (omega arith) (none_in IsLow));
  owned = each_in (IsOf 0) 2 (0 ∷ []) refl (each_in (IsOf 0) 0 [] refl (none_in (IsOf 0)));
}
three_lists (suc zero) lt = record {
  distinct = one_distinct 1;
  below = each_in IsLow 1 [] (omega arith) (none_in IsLow);
  owned = each_in (IsOf 1) 1 [] refl (none_in (IsOf 1));
}
three_lists (suc (suc d)) lt = absurd (omega (arith, lt))

pub three_are_wishes : (owners : List ℕ) (listed : List (List ℕ)) → owners ≡ three.owners → listed ≡ three.listed → AreWishes 3 (wishes owners listed)
three_are_wishes owners listed e f = rw (e, f) (record { contracts = refl; owners = three_owners; lists = three_lists })
