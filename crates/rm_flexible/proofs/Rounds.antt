-- The rounds of turns of a region, one after the other.
use Rattle.std.proofs.Common.{◌≡◌, ℕ, zero, suc, ◌+◌, ◌-◌, ◌<◌, false, List, [], ◌∷◌, length, get_or, set, take, eqb, eq-eqb, append-nil, refl, sym, ap, ◌∙◌, subst, arith, add-one}
use Rattle.std.specs.Prelude.{fold, flat_map}
use Rattle.std.proofs.lemmas.List.{get_or_default, get_or-set_other, length-set}
use Rattle.std.proofs.lemmas.List.Sums.{fold-append, fold_more}
use Rattle.std.proofs.lemmas.List.Concat.{flat_map-append}
use Rattle.rm_sets.specs.Sets.{IsWithin, below}
use Rattle.rm_sets.proofs.Sets.{not_both}
use Rattle.rm_sets.proofs.Members.{within_refl, within_trans}
use Rattle.rm_sets.proofs.Sizes.{same_from_length}
use Rattle.rm_market.specs.Board.{Board}
use Rattle.rm_market.specs.Flexible.{Seat, Region, after_seat, greatest_capacity_of, kept, up_to_targets}
use Rattle.rm_flexible_laws.specs.Region.{no_seat, seat_at, IsRegion}
use Rattle.rm_flexible_laws.proofs.Tests.{any_at}
use Rattle.rm_flexible.specs.Counts.{IsOffered, AreLeft, IsInRound, has_hospital}
use Rattle.rm_flexible.proofs.Taking.{grows, takes, passes}

-- the seat of a turn
pub seat_is : (r : Region) (seats : List Seat) (i : ℕ) (s : Seat) → seats ≡ r.seats → i < length seats → s ≡ get_or seats i s → s ≡ seat_at r i
seat_is r seats i s e lt is = is ∙ (get_or_default seats i s no_seat lt ∙ ap (λ L. get_or L i no_seat) e)

-- what is taken only grows in a round
pub round_grows : (b : Board) (r : Region) (X : List ℕ) (seats : List Seat) (K : List ℕ) → IsWithin K (fold (after_seat b r X) K seats)
round_grows b r X [] K = within_refl K
round_grows b r X (s ∷ seats) K = within_trans K (after_seat b r X K s) (fold (after_seat b r X) (after_seat b r X K s) seats) (grows b r X K s) (round_grows b r X seats (after_seat b r X K s))

-- what is taken after so many rounds
abbrev pub after_rounds : Board → Region → List ℕ → ℕ → List ℕ
after_rounds b r X q = fold (after_seat b r X) (up_to_targets b r X) (flat_map (λ k. r.seats) (below q))

pub round_more : (b : Board) (r : Region) (X : List ℕ) (q : ℕ) → after_rounds b r X (q + 1) ≡ fold (after_seat b r X) (after_rounds b r X q) r.seats
round_more b r X q =
    ap (λ n. after_rounds b r X n) (add-one q)
    ∙ (ap (λ L. fold (after_seat b r X) (up_to_targets b r X) L) (flat_map-append (λ k. r.seats) (below q) (q ∷ []))
    ∙ (fold-append (after_seat b r X) (up_to_targets b r X) (flat_map (λ k. r.seats) (below q)) (flat_map (λ k. r.seats) (q ∷ []))
    ∙ ap (λ L. fold (after_seat b r X) (after_rounds b r X q) L) (append-nil r.seats)))

-- once a round changes nothing, none does
pub rounds_stuck : (b : Board) (r : Region) (X : List ℕ) (q d : ℕ) → fold (after_seat b r X) (after_rounds b r X q) r.seats ≡ after_rounds b r X q → after_rounds b r X (q + d) ≡ after_rounds b r X q
rounds_stuck b r X q zero e = let z : q + zero ≡ q = omega arith in ap (λ n. after_rounds b r X n) z
rounds_stuck b r X q (suc d) e =
    let n : q + suc d ≡ (q + d) + 1 = omega arith in
    ap (λ m. after_rounds b r X m) n
    ∙ (round_more b r X (q + d)
    ∙ (ap (λ K. fold (after_seat b r X) K r.seats) (rounds_stuck b r X q d e) ∙ e))

pub kept_rounds : (b : Board) (r : Region) (X : List ℕ) → kept b r X ≡ after_rounds b r X (greatest_capacity_of r)
unfolding kept
kept_rounds b r X = refl

-- after the last round
pub rounds_end : (b : Board) (r : Region) (X : List ℕ) (q : ℕ) (counts : List ℕ) (total : ℕ) → q ≡ greatest_capacity_of r → IsInRound b r X (after_rounds b r X q) q 0 counts total → AreLeft b r X (kept b r X) counts
rounds_end b r X q counts total e a = subst (λ K. AreLeft b r X K counts) (ap (λ n. after_rounds b r X n) e ∙ sym (kept_rounds b r X)) a.taken.left

-- after a round in which no hospital takes anything
pub rounds_stop : (b : Board) (r : Region) (X : List ℕ) (q : ℕ) (counts after : List ℕ) (total : ℕ) → q < greatest_capacity_of r → IsInRound b r X (after_rounds b r X q) q 0 counts total →
    IsInRound b r X (fold (after_seat b r X) (after_rounds b r X q) r.seats) (q + 1) 0 after total → AreLeft b r X (kept b r X) after
rounds_stop b r X q counts after total lt a next =
    subst (λ K. AreLeft b r X K after) (stuck ∙ sym all) next.taken.left
  where
    stuck : fold (after_seat b r X) (after_rounds b r X q) r.seats ≡ after_rounds b r X q
    stuck =
        let m = a.taken.total in
        let n = next.taken.total in
        sym (same_from_length (after_rounds b r X q) (fold (after_seat b r X) (after_rounds b r X q) r.seats) a.taken.set next.taken.set (round_grows b r X r.seats (after_rounds b r X q)) (omega (arith, m, n)))

    all : kept b r X ≡ after_rounds b r X q
    all =
        let g : greatest_capacity_of r ≡ q + (greatest_capacity_of r - q) = omega (arith, lt) in
        kept_rounds b r X ∙ (ap (λ n. after_rounds b r X n) g ∙ rounds_stuck b r X q (greatest_capacity_of r - q) stuck)

-- ---- within a round

-- the round q has come to place i, from these counts to those
pub record IsGoing (r : Region) (old : List ℕ) (taken q i : ℕ) (counts : List ℕ) (size : ℕ) : Type 0 where
  pub long : length counts ≡ length old
  pub others : (h : ℕ) → has_hospital r h ≡ false → get_or counts h 0 ≡ get_or old h 0
  pub so_far : (b : Board) (X K : List ℕ) → IsOffered b r X → IsInRound b r X K q 0 old taken → IsInRound b r X (fold (after_seat b r X) K (take i r.seats)) q i counts size

module _ (r : Region) (ok : IsRegion r) (old : List ℕ) (taken q i : ℕ) (counts : List ℕ) (size : ℕ) (g : IsGoing r old taken q i counts size) (lt : i < length r.seats) where
  pub going_takes : (seat_at r i).hospital < length counts → size < r.cap → q < (seat_at r i).capacity - (seat_at r i).target → 0 < get_or counts (seat_at r i).hospital 0 →
      IsGoing r old taken q (i + 1) (set counts (seat_at r i).hospital (get_or counts (seat_at r i).hospital 0 - 1)) (size + 1)
  going_takes inside room turn some =
      let less = get_or counts (seat_at r i).hospital 0 - 1 in
      record {
        long = length-set counts (seat_at r i).hospital less ∙ g.long;
        others = λ h out.
            get_or-set_other counts (seat_at r i).hospital h less 0
            (λ same. not_both (has_hospital r h) (any_at (λ s. eqb s.hospital h) r.seats no_seat i lt (eq-eqb (seat_at r i).hospital h (sym same))) out)
            ∙ g.others h out;
        so_far = λ b X K offered a.
            subst (λ T. IsInRound b r X T q (i + 1) (set counts (seat_at r i).hospital less) (size + 1)) (sym (fold_more (after_seat b r X) K r.seats i no_seat lt))
            (takes b r ok X offered.set (fold (after_seat b r X) K (take i r.seats)) q i counts size (g.so_far b X K offered a) lt inside room turn some);
      }

  pub going_passes : (size < r.cap → q < (seat_at r i).capacity - (seat_at r i).target → 0 < get_or counts (seat_at r i).hospital 0 → ⊥) → IsGoing r old taken q (i + 1) counts size
  going_passes none = record {
    long = g.long;
    others = g.others;
    so_far = λ b X K offered a.
        subst (λ T. IsInRound b r X T q (i + 1) counts size) (sym (fold_more (after_seat b r X) K r.seats i no_seat lt))
        (passes b r ok X offered.set (fold (after_seat b r X) K (take i r.seats)) q i counts size (g.so_far b X K offered a) lt none);
  }
