-- The prefectures of a nation make a tree: each has a hospital, and no two have one in common.
use Rattle.std.proofs.Common.{◌≡◌, ◌∙◌, ◌<◌, ◌≤◌, ◌+◌, ◌==◌, ◌++◌, nat_le, ℕ, Bool, zero, suc, false, cond, ◌*◌, List, [], ◌∷◌, map, length, count_by, position, codes, Some, None, refl, sym, ap, subst, arith}
use Rattle.std.specs.List.{list_any, slice_index, sum_by}
use Rattle.std.proofs.lemmas.Bool.{eqb-true, eq-eqb}
use Rattle.std.proofs.lemmas.Bool.Decides.{nat_tests}
use Rattle.std.proofs.lemmas.List.{append-nil}
use Rattle.std.proofs.lemmas.List.Sums.{sum_by_push}
use Rattle.std.proofs.Math.Nat.{mod-eq_of_lt}
use Rattle.toml.specs.Data.{Data, table}
use Rattle.rm_sets.specs.Sets.{IsIn, below, common, has}
use Rattle.rm_sets.proofs.Sets.{IsIn-here, below-all_below}
use Rattle.rm_sets.proofs.Members.{IsIn-all_below, IsIn-from_common, not_in_from}
use Rattle.rm_sets.proofs.Search.{none_any}
use Rattle.rm_base.specs.Checks.{checks_of, first_of}
use Rattle.rm_market.specs.Board.{crosses, is_empty}
use Rattle.rm_market.specs.Tree.{group_checks, most_nodes, tree_fault}
use Rattle.rm_names.specs.Names.{place_of}
use Rattle.rm_names.proofs.FirstPlaces.{position_push}
use Rattle.rm_table.specs.Rows.{Row}
use Rattle.rm_roster.specs.Roster.{RosterData, hospitals_in}
use Rattle.rm_policy.specs.Prefectures.{members_of_prefecture}
use Rattle.rm_policy.specs.Policy.{policy_of}
use Rattle.rm_policy.specs.Top.{prefecture_entries}
use Rattle.rm_drill_laws.proofs.Names.{are_placed}
use Rattle.rm_drill.specs.Files.{prefecture_name}
use Rattle.rm_drill.specs.Hospitals.{prefecture_count}
use Rattle.rm_nation_laws.specs.Document.{entry_data, nation_members}
use Rattle.rm_nation_laws.specs.Policy.{nation_roster}
use Rattle.rm_nation_laws.specs.Seats.{AreSeats}
use Rattle.rm_nation_laws.proofs.Below.{below-pass, map-map, one-more, sum-below}
use Rattle.rm_nation_laws.proofs.Policy.{entries_are}
use Rattle.rm_nation_laws.proofs.Roster.{hospitals_are, prefecture_at, prefectures_are}

nothing : (S : List ℕ) → ((x : ℕ) → IsIn x S → ⊥) → S ≡ []
nothing [] none = refl
nothing (x ∷ S) none = absurd (none x (IsIn-here x S))

something : (S : List ℕ) (x : ℕ) → IsIn x S → is_empty S ≡ false
something [] x is = absurd (cc is)
something (y ∷ S) x is = grind (arith, nat_tests)

apart : (A B : List ℕ) → ((x : ℕ) → IsIn x A → IsIn x B → ⊥) → crosses A B ≡ false
apart A B none =
    let shared : common A B ≡ [] = nothing (common A B) (λ x is. none x (IsIn-from_common A B x is).0 (IsIn-from_common A B x is).1) in
    rw shared refl

no-place : {X : Type 0} (p : X → Bool) (f : ℕ → X) (n : ℕ) → ((k : ℕ) → k < n → p (f k) ≡ false) → position p (map f (below n)) ≡ None
no-place p f zero each = refl
no-place p f (suc n) each =
    ap (position p) (one-more f n) ∙ position_push p (map f (below n)) (f n) ∙ rw (no-place p f n (λ k low. each k (omega (arith, low))), each n (omega arith)) refl

module _ (capacities targets : List ℕ) (seats : AreSeats capacities targets) (doctors ranks : List Row) where
  abbrev r : RosterData
  r = nation_roster capacities targets doctors ranks

  abbrev group : ℕ → List ℕ
  group q = members_of_prefecture r (entry_data capacities targets q)

  group_is : (q : ℕ) → q < 47 → group q ≡ hospitals_in r q
  group_is q few =
      let found : place_of r.prefectures (prefecture_name q) ≡ Some q =
      rw (prefectures_are capacities targets seats doctors ranks) ((are_placed (codes "P") 2 47 (omega arith)).placed q few) in
      rw found refl

  -- what is in the group of prefecture q is dealt to it
  dealt_to : (q h : ℕ) → q < 47 → IsIn h (group q) → slice_index r.prefecture_of h ≡ q
  dealt_to q h few is =
      let within = rw (group_is q few) at is in
      eqb-true (slice_index r.prefecture_of h) q (below-all_below (length r.hospitals) (λ k. slice_index r.prefecture_of k == q) h within).1

  first_in : (q : ℕ) → q < 47 → IsIn q (group q)
  first_in q few =
      let low : q < length capacities = omega (arith, few, seats.many) in
      let mine : slice_index r.prefecture_of q ≡ q = prefecture_at capacities targets seats doctors ranks q low ∙ mod-eq_of_lt few in
      subst (IsIn q) (sym (group_is q few))
      (IsIn-all_below (length r.hospitals) (λ k. slice_index r.prefecture_of k == q) q (omega (arith, low, hospitals_are capacities targets seats doctors ranks)) (eq-eqb (slice_index r.prefecture_of q) q mine))

  not_both : (j q h : ℕ) → j < q → q < 47 → IsIn h (group j) → IsIn h (group q) → ⊥
  not_both j q h less few one two = omega (arith, less, dealt_to j h (omega (arith, less, few)) one, dealt_to q h few two)

  shallow : (q h : ℕ) → q < 47 → IsIn h (group q) → nat_le most_nodes (count_by (has h) (map group (below q) ++ group q ∷ [])) ≡ false
  shallow q h few is =
      let once : List ℕ → ℕ = λ S. cond (has h S) 1 0 in
      let before : sum_by once (map group (below q)) ≤ 0 * q =
      sum-below once group 0 q (λ j less. rw (not_in_from h (group j) (λ one. not_both j q h less few one is)) (omega arith)) in
      let last : once (group q) ≤ 1 = rw is (omega arith) in
      let count : count_by (has h) (map group (below q) ++ group q ∷ []) ≡ sum_by once (map group (below q)) + once (group q) = sum_by_push once (map group (below q)) (group q) in
      grind (arith, nat_tests, before, last, count)

  group_passes : (q : ℕ) → q < 47 → first_of (group_checks (map group (below q)) (group q)) ≡ None
  group_passes q few =
      let filled : is_empty (group q) ≡ false = something (group q) q (first_in q few) in
      let free : position (λ earlier. crosses earlier (group q)) (map group (below q)) ≡ None =
      no-place (λ earlier. crosses earlier (group q)) group q (λ j less. apart (group j) (group q) (λ x one two. not_both j q x less few one two)) in
      let flat : list_any (λ h. nat_le most_nodes (count_by (has h) (map group (below q) ++ group q ∷ []))) (group q) ≡ false = none_any _ (group q) (λ h is. shallow q h few is) in
      rw (filled, free, flat) refl

  pub groups_pass : tree_fault (policy_of r (table (nation_members capacities targets))).groups.members ≡ None
  unfolding tree_fault
  groups_pass =
      let entry : ℕ → Data = entry_data capacities targets in
      let sets : map (members_of_prefecture r) (prefecture_entries (table (nation_members capacities targets))) ++ [] ≡ map group (below prefecture_count) =
      append-nil (map (members_of_prefecture r) (prefecture_entries (table (nation_members capacities targets))))
      ∙ ap (map (members_of_prefecture r)) (entries_are capacities targets (below prefecture_count)) ∙ map-map (members_of_prefecture r) entry (below prefecture_count) in
      ap (λ (all : List (List ℕ)). first_of (checks_of group_checks all)) sets ∙ below-pass group_checks group prefecture_count group_passes
