use Rattle.std.proofs.Common.{◌≡◌, ℕ, Bool, arith, get_or, ltb, ap, ◌∙◌}
use Rattle.std.proofs.lemmas.Bool.{lt-ltb, le-ltb}
use Rattle.std.proofs.lemmas.List.{length-set}
use Rattle.rm_sets.proofs.Members.{IsIn-get_or}
use Rattle.rm_sets.proofs.Sizes.{length_below}
use Rattle.rm_market.specs.Board.{contract_count, hospital_of}
use Rattle.rm_flexible.proofs.Counting.{written_more, written_same}
use Rattle.rm_flexible.proofs.offers.write_kept.Goals.{then-counts-hospital, else-counts-hospital}
use Rattle.rm_flexible.proofs.offers.write_kept.Goals as goal

pub hospital-requires : goal.hospital-requires
hospital-requires c = c.requires.offered.below _ (IsIn-get_or c.args.offered.now c.loop-i.i 0 c.loop-i-test.true)

pub bounds-marks-x : goal.bounds-marks-x
bounds-marks-x c =
    let lt = c.requires.offered.below _ (IsIn-get_or c.args.offered.now c.loop-i.i 0 c.loop-i-test.true) in
    let space = c.requires.marks in
    omega (arith, lt, space)

pub bounds-list-count : goal.bounds-list-count
bounds-list-count c =
    let short = length_below (contract_count c.args.board.now) c.args.offered.now c.requires.offered in
    let space = c.requires.list in
    let long = c.loop-i.invariant.long in
    let few = c.loop-i.invariant.within in
    omega (arith, short, space, long, few)

pub loop-i-preserved : goal.loop-i-preserved
loop-i-preserved c =
    let p : ℕ → Bool = λ x. ltb (get_or c.args.counts.now (hospital_of c.args.board.now x) 0) (get_or c.args.marks.now x 0) in
    let X = c.args.offered.now in
    let x = get_or X c.loop-i.i 0 in
    let i = c.loop-i.invariant in
    let few = i.within in
    let short = length_below (contract_count c.args.board.now) X c.requires.offered in
    let space = c.requires.list in
    let long = i.long in
    let lt = c.loop-i-test.true in
    let hospital : get_or c.args.counts.now c.hospital.result 0 ≡ get_or c.args.counts.now (hospital_of c.args.board.now x) 0 = ap (λ h. get_or c.args.counts.now h 0) c.hospital.ensures.hospital in
    elim c.if-counts-hospital.branch [
      | then-counts-hospital w ↦
          let less = w.if-counts-hospital.true in
          rw (w.list-is, w.count-is) (record {
            long = length-set c.loop-i.list c.loop-i.count x ∙ i.long;
            within = omega (arith, few);
            written = written_more p X c.loop-i.list c.loop-i.i c.loop-i.count lt (omega (arith, few, short, space, long, lt)) (lt-ltb (get_or c.args.counts.now (hospital_of c.args.board.now x) 0) (get_or c.args.marks.now x 0) (omega (arith, less, hospital))) i.written;
          })
      | else-counts-hospital w ↦
          let more = w.if-counts-hospital.false in
          rw (w.list-is, w.count-is) (record {
            long = i.long;
            within = omega (arith, few);
            written = written_same p X c.loop-i.list c.loop-i.i c.loop-i.count lt (le-ltb (get_or c.args.counts.now (hospital_of c.args.board.now x) 0) (get_or c.args.marks.now x 0) (omega (arith, more, hospital))) i.written;
          })
    ]

pub returns-clause-within : goal.returns-clause-within
returns-clause-within c =
    let short = length_below (contract_count c.args.board.now) c.args.offered.now c.requires.offered in
    let space = c.requires.list in
    let long = c.loop-i.invariant.long in
    let few = c.loop-i.invariant.within in
    omega (arith, short, space, long, few)
