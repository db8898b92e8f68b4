-- The key of a contract by rank: its parts, that it is no large number, and that the order by rank ascends by it.
use Rattle.std.proofs.Common.{◌≡◌, ◌∙◌, sym, ap, refl, ℕ, zero, suc, ◌+◌, ◌-◌, ◌*◌, ◌<◌, ◌≤◌, ◌^◌, List, [], ◌∷◌, ◌++◌, length, map, fold, max, take, drop, get_or, Some, None, Bool, true, false, cond, nat_lt, inl, inr, arith, length-append, take-append-drop}
use Rattle.std.specs.Bool.{◌==◌}
use Rattle.std.specs.List.{position, position_or_len, list_all, flat_map}
use Rattle.std.proofs.lemmas.Bool.{cases_lt, and_from}
use Rattle.std.proofs.lemmas.Bool.Decides.{nat_tests}
use Rattle.std.proofs.lemmas.List.{append-nil, get_or_append_left, get_or-append_right}
use Rattle.std.proofs.lemmas.List.Concat.{flat_map-append}
use Rattle.std.proofs.Math.Nat.{mul-le-mul_right}
use Rattle.rm_sets.specs.Sets.{IsIn, IsSet, below}
use Rattle.rm_sets.proofs.Members.{not_in_nil, IsIn-get_or, IsIn-from_filter, IsIn-append_cases}
use Rattle.rm_sets.proofs.Sets.{IsIn-here, IsIn-later, IsSet-first, IsSet-tail, IsSet-filter, IsSet-all_below, below-all_below}
use Rattle.rm_sets.proofs.Once.{length-below, get_or-below}
use Rattle.rm_market.specs.Board.{pairs_of, hospital_of_number}
use Rattle.rm_market.specs.Ties.{rank_places, by_hospital, by_rank}
use Rattle.rm_board_laws.proofs.TieOrders.{place_bound}
use Rattle.rm_board.specs.Rules.{order_of}
use Rattle.rm_board.specs.TieKeys.{rank_key, ascends, is_ranked}
use Rattle.rm_board.specs.declared.ties.TieRule.{TieRule}
use Rattle.rm_board.specs.declared.ties.TieRule.TheVariants as rules
use Rattle.rm_board.proofs.RankOrder.{at_place, length-places, places-more}
use Rattle.rm_board.proofs.Runs.{IsOf, of-number, start, start-more, start-rises}
use Rattle.rm_board.proofs.TieKeys.{all-from, ascends-append}

module _ (ranks : List (List ℕ)) where
  -- a contract's place in its hospital's rank list is how many of the hospital's contracts stand before it
  place-of : (h x : ℕ) → IsOf ranks h x → get_or (rank_places ranks) x 0 ≡ x - start ranks h
  place-of h x of =
      let before = rank_places (take h ranks) in
      let own = below (length (get_or ranks h [])) in
      let rest = rank_places (drop (h + 1) ranks) in
      let whole : rank_places ranks ≡ (before ++ own) ++ rest =
      ap rank_places (sym (take-append-drop (h + 1) ranks))
      ∙ flat_map-append (λ rank. below (length rank)) (take (h + 1) ranks) (drop (h + 1) ranks)
      ∙ ap (λ (ps : List ℕ). ps ++ rest) (places-more ranks h of.known) in
      let long : length before ≡ start ranks h = length-places ranks h (omega (arith, of.known)) in
      let less : x - start ranks h < length (get_or ranks h []) = omega (arith, of.from, of.to, start-more ranks h of.known) in
      let within : x < length (before ++ own) = omega (arith, long, less, of.from, length-append before own, length-below (length (get_or ranks h []))) in
      ap (λ (ps : List ℕ). get_or ps x 0) whole
      ∙ get_or_append_left (before ++ own) rest 0 x within
      ∙ get_or-append_right before own (start ranks h) x 0 long of.from
      ∙ get_or-below (length (get_or ranks h [])) (x - start ranks h) 0 less

  module _ (x : ℕ) (lt : x < length (pairs_of ranks)) where
    abbrev own-hospital : ℕ
    own-hospital = hospital_of_number ranks x

    pub hospital-below : own-hospital < length ranks
    hospital-below = (of-number ranks x lt).known

    pub start-le : (first : ℕ) → first ≡ start ranks own-hospital → first ≤ x
    start-le first is = omega (arith, is, (of-number ranks x lt).from)

    pub key-is : (first : ℕ) → first ≡ start ranks own-hospital → (x - first) * length ranks + own-hospital ≡ rank_key ranks x
    key-is first is = rw (is, place-of own-hospital x (of-number ranks x lt)) refl

    -- a key is less than the longest rank list by the number of hospitals
    pub key-bound : rank_key ranks x < fold max 0 (map length ranks) * length ranks
    key-bound =
        let place = get_or (rank_places ranks) x 0 in
        let le : (place + 1) * length ranks ≤ fold max 0 (map length ranks) * length ranks = mul-le-mul_right (length ranks) (omega (arith, place_bound 0 0 ranks x lt)) in
        let more : (place + 1) * length ranks ≡ place * length ranks + length ranks = omega arith in
        omega (arith, le, more, hospital-below)

-- ---- the order by rank

module _ (ranks : List (List ℕ)) where
  abbrev place : ℕ → ℕ
  place x = get_or (rank_places ranks) x 0

  -- an earlier place has the smaller key
  earlier-less : (x y : ℕ) → x < length (pairs_of ranks) → place x < place y → rank_key ranks x < rank_key ranks y
  earlier-less x y lt less =
      let le : (place x + 1) * length ranks ≤ place y * length ranks = mul-le-mul_right (length ranks) (omega arith) in
      let more : (place x + 1) * length ranks ≡ place x * length ranks + length ranks = omega arith in
      omega (arith, le, more, hospital-below ranks x lt)

  -- at one place the lower contract is at a lower hospital
  lower-less : (x y : ℕ) → y < length (pairs_of ranks) → x < y → place x ≡ place y → rank_key ranks x < rank_key ranks y
  lower-less x y lt less same =
      let h = hospital_of_number ranks x in
      let g = hospital_of_number ranks y in
      let x-of = of-number ranks x (omega (arith, lt)) in
      let y-of = of-number ranks y lt in
      let lower : h < g = elim (cases_lt h g) [
        | inl yet ↦ yet
        | inr past ↦ elim (cases_lt g h) [
          | inl after ↦ absurd (omega (arith, less, x-of.from, y-of.to, start-rises ranks (g + 1) h (omega (arith, after))))
          | inr other ↦
              let one : h ≡ g = omega (arith, past, other) in
              let x-place = place-of ranks h x x-of in
              let y-place = place-of ranks g y y-of in
              absurd (omega (arith, less, same, x-place, y-place, ap (start ranks) one, x-of.from, y-of.from))
        ]
      ] in
      rw same (omega (arith, lower))

  in-place : (k x : ℕ) → IsIn x (at_place ranks k) → (x < length (pairs_of ranks)) × (place x ≡ k)
  in-place k x there =
      let kept = IsIn-from_filter (λ y. place y == k) (by_hospital ranks) x there in
      let hit = kept.1 in
      ((below-all_below (length (pairs_of ranks)) (λ j. true) x kept.0).0, grind (arith, nat_tests, hit))

  -- the contracts at one place
  one-ascends : (k : ℕ) (S : List ℕ) → IsSet S → ((x : ℕ) → IsIn x S → (x < length (pairs_of ranks)) × (place x ≡ k)) → ascends (rank_key ranks) S ≡ true
  one-ascends k [] set of = refl
  one-ascends k (x ∷ S) set of =
      and_from (list_all (λ y. nat_lt (rank_key ranks x) (rank_key ranks y)) S) (ascends (rank_key ranks) S)
      (all-from (rank_key ranks) x S (λ j lt.
      let y = get_or S j 0 in
      let there = IsIn-get_or S j 0 lt in
      let y-of = of y (IsIn-later y x S there) in
      lower-less x y y-of.0 (IsSet-first x S set y there) ((of x (IsIn-here x S)).1 ∙ sym y-of.1)))
      (one-ascends k S (IsSet-tail x S set) (λ y there. of y (IsIn-later y x S there)))

  front : ℕ → List ℕ
  front m = flat_map (at_place ranks) (below m)

  front-more : (m : ℕ) → front (suc m) ≡ front m ++ at_place ranks m
  unfolding front
  front-more m = flat_map-append (at_place ranks) (below m) (m ∷ []) ∙ ap (λ (xs : List ℕ). front m ++ xs) (append-nil (at_place ranks m))

  in-front : (m x : ℕ) → IsIn x (front m) → (x < length (pairs_of ranks)) × (place x < m)
  unfolding front
  in-front zero x there = absurd (not_in_nil x there)
  in-front (suc m) x there = elim (IsIn-append_cases (front m) (at_place ranks m) x (rw (front-more m) at there)) [
    | inl old ↦ let of = in-front m x old in (of.0, omega (arith, of.1))
    | inr new ↦ let of = in-place m x new in (of.0, omega (arith, of.1))
  ]

  front-ascends : (m : ℕ) → ascends (rank_key ranks) (front m) ≡ true
  unfolding front
  front-ascends zero = refl
  front-ascends (suc m) =
      let n = length (pairs_of ranks) in
      let set = IsSet-filter (λ x. place x == m) (by_hospital ranks) (IsSet-all_below n (λ j. true)) in
      rw (front-more m) (ascends-append (rank_key ranks) (front m) (at_place ranks m) (front-ascends m) (one-ascends m (at_place ranks m) set (in-place m)) (λ x y x-there y-there.
      let x-of = in-front m x x-there in
      let y-of = in-place m y y-there in
      earlier-less x y x-of.0 (omega (arith, x-of.1, y-of.1))))

  pub rank-ascends : ascends (rank_key ranks) (by_rank ranks) ≡ true
  unfolding by_rank front
  rank-ascends = front-ascends (fold max 0 (map length ranks))

-- with no large key
pub rank-ranked : (ranks : List (List ℕ)) (order : List ℕ) (rule : TieRule) → nat_lt (fold max 0 (map length ranks) * length ranks) (2 ^ 32) ≡ true → order ≡ order_of ranks rule → rule ≡ rules.ByRank → true ≡ is_ranked ranks order
rank-ranked ranks order rule fits ordered of =
    let by : order ≡ by_rank ranks = rw of at ordered in
    rw by (sym (and_from _ (ascends (rank_key ranks) (by_rank ranks)) fits (rank-ascends ranks)))
