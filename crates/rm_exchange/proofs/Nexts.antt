-- The step that the next contract takes at each node, found anew along the chain of a contract that comes or goes.
use Rattle.std.proofs.Common.{◌≡◌, ◌∙◌, ℕ, suc, ◌+◌, ◌<◌, ◌≤◌, List, [], ◌++◌, ◌∷◌, true, false, not, length, get_or, set, take, drop, Option, Some, None, ℤ, refl, sym, ap, subst, ⊎_elim, arith, add-one}
use Rattle.std.specs.List.{slice_get}
use Rattle.std.specs.Prelude.{IfSome}
use Rattle.std.proofs.lemmas.Bool.{cases_eq, cases_lt, not-true, not_from_false}
use Rattle.std.proofs.lemmas.List.{get_or_default, get_or_past, get_or_push, get_or_append_left, get_or-set_same, get_or-set_other, length-set, length-drop, length-append}
use Rattle.std.proofs.Math.Seq.{take-append_seam}
use Rattle.rm_sets.specs.Sets.{has, IsSet, with_one, without}
use Rattle.rm_sets.proofs.Members.{not_in_from, place_from_IsIn}
use Rattle.rm_sets.proofs.Sets.{not_both, IsSet-with_one, IsSet-without}
use Rattle.rm_market.specs.Board.{Board, leaf_of, node_at, sets_of}
use Rattle.rm_laminar.specs.Chains.{IsOrderedChain}
use Rattle.rm_valuation_laws.specs.Changes.{test_at}
use Rattle.rm_valuation_laws.proofs.Moves.{with_other, without_other}
use Rattle.rm_valuation_laws.proofs.Cheapest.{count_agree}
use Rattle.rm_valuation.specs.Counts.{AreCounts}
use Rattle.rm_valuation.proofs.Counted.{count_of}
use Rattle.rm_exchange.specs.Holding.{AreNexts}
use Rattle.rm_exchange.proofs.Mending.{InRange, is_mended, off_path, split}

-- ---- a change of counts at the nodes of x alone

apart_from : (b : Board) (k x y : ℕ) → test_at b k x ≡ false → test_at b k y ≡ true → y ≡ x → ⊥
apart_from b k x y out here same = not_both (test_at b k x) (subst (λ w. test_at b k w ≡ true) same here) out

nexts_but : (b : Board) (H K old new : List ℕ) (nexts : List (Option ℤ)) (x : ℕ) → IsSet H → IsSet K → AreCounts b H old → AreCounts b K new → ((y : ℕ) → (y ≡ x → ⊥) → has y H ≡ has y K) → AreNexts b (λ k. true) old nexts → AreNexts b (λ k. not (test_at b k x)) new nexts
nexts_but b H K old new nexts x sH sK before after agree n = record {
  all = n.all;
  each = λ k lk out.
      n.each k lk refl
      ∙ ap (slice_get (node_at b k).steps)
      (count_of b H old before k lk
      ∙ (count_agree (test_at b k) H K sH sK (λ y t. agree y (apart_from b k x y (not-true (test_at b k x) out) t))
      ∙ sym (count_of b K new after k lk)));
  range = n.range;
}

pub nexts_with : (b : Board) (H old new : List ℕ) (nexts : List (Option ℤ)) (x : ℕ) → IsSet H → AreCounts b H old → AreCounts b (with_one H x) new → AreNexts b (λ k. true) old nexts → AreNexts b (λ k. not (test_at b k x)) new nexts
nexts_with b H old new nexts x sH before after n = nexts_but b H (with_one H x) old new nexts x sH (IsSet-with_one H x sH) before after (λ y ne. sym (with_other H x y ne)) n

pub nexts_without : (b : Board) (H old new : List ℕ) (nexts : List (Option ℤ)) (z : ℕ) → IsSet H → AreCounts b H old → AreCounts b (without H z) new → AreNexts b (λ k. true) old nexts → AreNexts b (λ k. not (test_at b k z)) new nexts
nexts_without b H old new nexts z sH before after n = nexts_but b H (without H z) old new nexts z sH (IsSet-without H z sH) before after (λ y ne. sym (without_other H z y ne)) n

-- ---- along the chain

pub renewing_start : (b : Board) (counts : List ℕ) (nexts : List (Option ℤ)) (x : ℕ) (nodes : List ℕ) → IsOrderedChain (sets_of b) (leaf_of b x) nodes → AreNexts b (λ k. not (test_at b k x)) counts nexts → AreNexts b (is_mended nodes 0) counts nexts
renewing_start b counts nexts x nodes ch n = record {
  all = n.all;
  each = λ k lk out. n.each k lk (not_from_false (test_at b k x) (off_path b x nodes ch k lk (not-true (has k nodes) out)));
  range = n.range;
}

in_range : (o : Option ℤ) (step : ℤ) → IfSome o InRange → o ≡ Some step → InRange step
in_range None step r e = absurd (cc)
in_range (Some s) step r e = let P : Option ℤ → Type 0 = λ w. IfSome w InRange in subst P e r

pub renewing_step : (b : Board) (counts : List ℕ) (nexts : List (Option ℤ)) (nodes : List ℕ) (i : ℕ) (o : Option ℤ) → i < length nodes → get_or nodes i 0 < length b.nodes → o ≡ slice_get (node_at b (get_or nodes i 0)).steps (get_or counts (get_or nodes i 0) 0) → IfSome o InRange → AreNexts b (is_mended nodes i) counts nexts → AreNexts b (is_mended nodes (i + 1)) counts (set nexts (get_or nodes i 0) o)
renewing_step b counts nexts nodes i o lt la is range n =
    let a = get_or nodes i 0 in
    let long : a < length nexts = let all = n.all in omega arith in
    record {
      all = length-set nexts a o ∙ n.all;
      each = λ k lk out. ⊎_elim
          (λ same. subst (λ w. get_or (set nexts a o) w None ≡ slice_get (node_at b w).steps (get_or counts w 0)) (sym same) (get_or-set_same nexts a o None long ∙ is))
          (λ ne. get_or-set_other nexts a k o None ne ∙ n.each k lk (not_from_false (has k (drop i nodes)) (split nodes i k lt ne (not-true (has k (drop (suc i) nodes)) (subst (λ j. is_mended nodes j k ≡ true) (add-one i) out)))))
          (cases_eq k a);
      range = λ k step e. ⊎_elim
          (λ same. in_range o step range (sym (get_or-set_same nexts a o None long) ∙ (ap (λ w. get_or (set nexts a o) w None) (sym same) ∙ e)))
          (λ ne. n.range k step (sym (get_or-set_other nexts a k o None ne) ∙ e))
          (cases_eq k a);
    }

pub renewing_end : (b : Board) (counts : List ℕ) (nexts : List (Option ℤ)) (nodes : List ℕ) (i : ℕ) → length nodes ≤ i → AreNexts b (is_mended nodes i) counts nexts → AreNexts b (λ k. true) counts nexts
renewing_end b counts nexts nodes i end n = record {
  all = n.all;
  each = λ k lk all. n.each k lk (not_from_false (has k (drop i nodes)) (not_in_from k (drop i nodes) (λ there.
      let long = length-drop i nodes in
      let p = place_from_IsIn (drop i nodes) k 0 there in
      omega (arith, p.1))));
  range = n.range;
}

-- ---- node by node

pub record AreNextsUpto (b : Board) (counts : List ℕ) (nexts : List (Option ℤ)) (j : ℕ) : Type 0 where
  pub all : length nexts ≡ j
  pub each : (k : ℕ) → k < j → get_or nexts k None ≡ slice_get (node_at b k).steps (get_or counts k 0)
  pub range : (k : ℕ) (step : ℤ) → get_or nexts k None ≡ Some step → InRange step

none_past : (nexts : List (Option ℤ)) (k : ℕ) (step : ℤ) → length nexts ≤ k → get_or nexts k None ≡ Some step → ⊥
none_past nexts k step le is = apart (sym (get_or_past nexts k None le) ∙ is)
  where
    apart : None ≡ Some step → ⊥
    apart q = cc

pub none_upto : (b : Board) (counts : List ℕ) (nexts : List (Option ℤ)) → nexts ≡ [] → AreNextsUpto b counts nexts 0
none_upto b counts nexts e =
    let long = ap length e in
    record { all = long; each = λ k lt. absurd (omega arith); range = λ k step is. absurd (none_past nexts k step (omega arith) is) }

pub more_upto : (b : Board) (counts : List ℕ) (nexts : List (Option ℤ)) (j : ℕ) (o : Option ℤ) → o ≡ slice_get (node_at b j).steps (get_or counts j 0) → IfSome o InRange → AreNextsUpto b counts nexts j → AreNextsUpto b counts (nexts ++ o ∷ []) (j + 1)
more_upto b counts nexts j o is range n =
    let long = n.all in
    let last : (k : ℕ) → j ≤ k → k < j + 1 → k ≡ j = λ k le lt. omega arith in
    let at_end : get_or (nexts ++ o ∷ []) j None ≡ o = get_or_push nexts o None j long in
    record {
      all = length-append nexts (o ∷ []) ∙ (ap (λ m. m + 1) long);
      each = λ k lk. ⊎_elim
          (λ lt. get_or_append_left nexts (o ∷ []) None k (omega arith) ∙ n.each k lt)
          (λ ge. subst (λ w. get_or (nexts ++ o ∷ []) w None ≡ slice_get (node_at b w).steps (get_or counts w 0)) (sym (last k ge lk)) (at_end ∙ is))
          (cases_lt k j);
      range = λ k step e. ⊎_elim
          (λ lt. n.range k step (sym (get_or_append_left nexts (o ∷ []) None k (omega arith)) ∙ e))
          (λ ge. ⊎_elim
          (λ same. in_range o step range (sym at_end ∙ (ap (λ w. get_or (nexts ++ o ∷ []) w None) (sym same) ∙ e)))
          (λ ne. absurd (none_past (nexts ++ o ∷ []) k step (let l = length-append nexts (o ∷ []) in omega arith) e))
          (cases_eq k j))
          (cases_lt k j);
    }

pub all_upto : (b : Board) (counts : List ℕ) (nexts : List (Option ℤ)) (j : ℕ) → j ≡ length b.nodes → AreNextsUpto b counts nexts j → AreNexts b (λ k. true) counts nexts
all_upto b counts nexts j e n = record { all = n.all ∙ e; each = λ k lk all. n.each k (omega arith); range = n.range }

-- ---- what is read

pub nexts_same : (b : Board) (counts other : List ℕ) (nexts others : List (Option ℤ)) → other ≡ counts → others ≡ nexts → AreNexts b (λ k. true) counts nexts → AreNexts b (λ k. true) other others
nexts_same b counts other nexts others e f n = subst (λ c. AreNexts b (λ k. true) c others) (sym e) (subst (AreNexts b (λ k. true) counts) (sym f) n)

-- what a slice of all numbers leaves of them
pub written_back : (size : ℕ) (new old : List ℕ) → size ≡ length new → take size (new ++ drop (length new) old) ≡ new
written_back size new old e = ap (λ k. take k (new ++ drop (length new) old)) e ∙ take-append_seam new (drop (length new) old)

pub next_is : (b : Board) (counts : List ℕ) (nexts : List (Option ℤ)) (a : ℕ) (o d : Option ℤ) → a < length b.nodes → AreNexts b (λ k. true) counts nexts → o ≡ get_or nexts a d → slice_get (node_at b a).steps (get_or counts a 0) ≡ o
next_is b counts nexts a o d la n e = let all = n.all in sym (e ∙ (get_or_default nexts a d None (omega arith) ∙ n.each a la refl))

pub next_range : (b : Board) (counts : List ℕ) (nexts : List (Option ℤ)) (a : ℕ) (step : ℤ) (o d : Option ℤ) → a < length b.nodes → AreNexts b (λ k. true) counts nexts → o ≡ get_or nexts a d → o ≡ Some step → InRange step
next_range b counts nexts a step o d la n e is = let all = n.all in n.range a step (sym (e ∙ get_or_default nexts a d None (omega arith)) ∙ is)
