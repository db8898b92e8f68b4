use Rattle.std.proofs.Common.{◌-◌, ◌+◌, ap, subst, arith, get_or, length, ◌≡◌, ◌<◌, ◌≤◌, ℕ, sym, ◌∙◌}
use Rattle.std.proofs.lemmas.List.{length-set, length-drop}
use Rattle.rm_sets.proofs.Members.{IsIn-get_or}
use Rattle.rm_sets.proofs.Sizes.{length_below}
use Rattle.rm_market.specs.Board.{contract_count, hospital_of}
use Rattle.rm_flexible.proofs.Counting.{counted, marked, few_from, mark_is, count_is, count_from}
use Rattle.rm_flexible.proofs.offers.count_offers.Goals as goal

pub prove-unreachable-requires : goal.prove-unreachable-requires
prove-unreachable-requires c = let short = length_below (contract_count c.args.board.now) c.args.offered.now c.requires.offered in omega (arith, short)

pub hospital-hospital-requires : goal.hospital-hospital-requires
hospital-hospital-requires c = c.requires.offered.below _ (IsIn-get_or c.args.offered.now (c.loop-place.place - 1) 0 (let le = c.loop-place.invariant.place in omega (arith, le)))

pub bounds-marks-x : goal.bounds-marks-x
bounds-marks-x c =
    let lt = c.requires.offered.below _ (IsIn-get_or c.args.offered.now (c.loop-place.place - 1) 0 (let le = c.loop-place.invariant.place in omega (arith, le))) in
    let same = c.loop-place.invariant.marks_length in
    let space = c.requires.space in
    omega (arith, lt, same, space)

pub overflow_add-counts : goal.overflow_add-counts
overflow_add-counts c =
    let X = c.args.offered.now in
    let k = c.loop-place.place in
    let f = hospital_of c.args.board.now in
    let e = c.hospital-hospital.ensures.hospital in
    let n = c.loop-place.invariant.counts c.hospital-hospital.result in
    let le = c.loop-place.invariant.place in
    let none : get_or c.args.counts.now c.hospital-hospital.result 0 ≡ 0 =
    ap (λ h. get_or c.args.counts.now h 0) e ∙ c.requires.none (get_or X (k - 1) 0) (IsIn-get_or X (k - 1) 0 (omega (arith, le))) in
    let few = few_from f c.hospital-hospital.result k X in
    let long = length-drop k X in
    omega (arith, n, none, few, long, le)

pub loop-place-preserved : goal.loop-place-preserved
loop-place-preserved c =
    let X = c.args.offered.now in
    let f = hospital_of c.args.board.now in
    let p = c.loop-place.place in
    let i = c.loop-place.invariant in
    let e = c.hospital-hospital.ensures.hospital in
    let le = i.place in
    let lt : p - 1 < length X = omega (arith, le) in
    let next : p - 1 + 1 ≡ p = omega arith in
    let below = c.hospital-hospital.ensures.below in
    let space = c.requires.hospitals in
    let same = i.counts_length in
    let inside : f (get_or X (p - 1) 0) < length c.loop-place.counts = subst (λ h. h < length c.loop-place.counts) e (omega (arith, below, space, same)) in
    let member = IsIn-get_or X (p - 1) 0 lt in
    let x_below = c.requires.offered.below (get_or X (p - 1) 0) member in
    let more = counted f X c.args.counts.now c.loop-place.counts (p - 1) lt inside (subst (λ k. (h : ℕ) → get_or c.loop-place.counts h 0 ≡ get_or c.args.counts.now h 0 + count_from f h k X) (sym next) i.counts) in
    let now = more (f (get_or X (p - 1) 0)) in
    let none = c.requires.none (get_or X (p - 1) 0) member in
    let marks_same = i.marks_length in
    let room = c.requires.space in
    rw e (record {
      marks_length = length-set c.loop-place.marks _ _ ∙ i.marks_length;
      counts_length = length-set c.loop-place.counts _ _ ∙ i.counts_length;
      place = omega (arith, le);
      counts = more;
      marks = marked f X c.loop-place.marks (p - 1) _ c.requires.offered.ascending lt (omega (arith, x_below, marks_same, room)) (omega (arith, now, none))
          (subst (λ k. (l : ℕ) → k ≤ l → l < length X → get_or c.loop-place.marks (get_or X l 0) 0 ≡ count_from f (f (get_or X l 0)) l X) (sym next) i.marks);
    })

pub returns-clause-counts : goal.returns-clause-counts
returns-clause-counts c =
    let z : c.loop-place.place ≡ 0 = omega arith in
    count_is (hospital_of c.args.board.now) c.args.offered.now c.args.counts.now c.loop-place.counts
    (subst (λ k. (h : ℕ) → get_or c.loop-place.counts h 0 ≡ get_or c.args.counts.now h 0 + count_from (hospital_of c.args.board.now) h k c.args.offered.now) z c.loop-place.invariant.counts)

pub returns-clause-marks : goal.returns-clause-marks
returns-clause-marks c =
    mark_is (hospital_of c.args.board.now) c.args.offered.now c.loop-place.marks c.requires.offered.ascending
    (λ l lt. c.loop-place.invariant.marks l (omega arith) lt)
