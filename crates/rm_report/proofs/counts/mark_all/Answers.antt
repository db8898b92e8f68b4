use Rattle.std.proofs.Common.{◌≡◌, ◌<◌, length, get_or, arith}
use Rattle.rm_report.specs.Counts.{has_key, hospital_key, prefecture_key}
use Rattle.rm_report.specs.Report.{listed_by}
use Rattle.rm_report.proofs.Applying.{listed-below, prefecture-low}
use Rattle.rm_report.proofs.ContractNames.{ranks-each}
use Rattle.rm_report.proofs.Counted.{marks-contract, marks-few}
use Rattle.rm_report.proofs.counts.mark_all.Goals as goal

pub hospital-h-requires : goal.hospital-h-requires
hospital-h-requires c =
    rw (c.requires.contracts, c.board-board.ensures.board)
    (listed-below c.args.case.now c.args.d c.loop-i.i c.board-board.ensures.case c.requires.doctor (rw c.requires.contracts at c.loop-i-test.true))

pub mark-requires-clause-counts : goal.mark-requires-clause-counts
mark-requires-clause-counts c =
    let low = rw (c.board-board.ensures.board, ranks-each c.args.case.now c.board-board.ensures.case) at c.hospital-h.ensures.below in
    rw c.loop-i.invariant.0.count_each low

pub mark-requires-clause-last : goal.mark-requires-clause-last
mark-requires-clause-last c =
    let low = rw (c.board-board.ensures.board, ranks-each c.args.case.now c.board-board.ensures.case) at c.hospital-h.ensures.below in
    rw c.loop-i.invariant.0.last_each low

pub mark-requires-clause-few : goal.mark-requires-clause-few
mark-requires-clause-few c =
    let low = rw (c.board-board.ensures.board, ranks-each c.args.case.now c.board-board.ensures.case) at c.hospital-h.ensures.below in
    marks-few _ c.args.d _ (λ k e. has_key (hospital_key c.args.case.now) (listed_by c.args.case.now e) k) _ _ _ c.loop-i.invariant.0 low
    (omega (arith, c.requires.doctor, c.board-board.ensures.case.roster.few_doctors))

pub prefecture_of-requires : goal.prefecture_of-requires
prefecture_of-requires c =
    rw c.roster-roster.ensures.roster (rw (c.board-board.ensures.board, ranks-each c.args.case.now c.board-board.ensures.case) at c.hospital-h.ensures.below)

pub mark-requires-in-loop-i-clause-counts : goal.mark-requires-in-loop-i-clause-counts
mark-requires-in-loop-i-clause-counts c =
    let low = rw (c.board-board.ensures.board, ranks-each c.args.case.now c.board-board.ensures.case) at c.hospital-h.ensures.below in
    rw (c.loop-i.invariant.1.count_each, c.prefecture_of.ensures, c.roster-roster.ensures.roster) (prefecture-low c.args.case.now c.hospital-h.result c.board-board.ensures.case low)

pub mark-requires-in-loop-i-clause-last : goal.mark-requires-in-loop-i-clause-last
mark-requires-in-loop-i-clause-last c =
    let low = rw (c.board-board.ensures.board, ranks-each c.args.case.now c.board-board.ensures.case) at c.hospital-h.ensures.below in
    rw (c.loop-i.invariant.1.last_each, c.prefecture_of.ensures, c.roster-roster.ensures.roster) (prefecture-low c.args.case.now c.hospital-h.result c.board-board.ensures.case low)

pub mark-requires-in-loop-i-clause-few : goal.mark-requires-in-loop-i-clause-few
mark-requires-in-loop-i-clause-few c =
    let low = rw (c.board-board.ensures.board, ranks-each c.args.case.now c.board-board.ensures.case) at c.hospital-h.ensures.below in
    let of = rw c.roster-roster.ensures.roster at c.prefecture_of.ensures in
    marks-few _ c.args.d _ (λ k e. has_key (prefecture_key c.args.case.now) (listed_by c.args.case.now e) k) _ _ _ c.loop-i.invariant.1
    (rw of (prefecture-low c.args.case.now c.hospital-h.result c.board-board.ensures.case low))
    (omega (arith, c.requires.doctor, c.board-board.ensures.case.roster.few_doctors))

pub loop-i-preserved : goal.loop-i-preserved
loop-i-preserved c =
    let low = rw (c.board-board.ensures.board, ranks-each c.args.case.now c.board-board.ensures.case) at c.hospital-h.ensures.below in
    let at_h = rw c.board-board.ensures.board at c.hospital-h.ensures.hospital in
    let of = rw c.roster-roster.ensures.roster at c.prefecture_of.ensures in
    let within : c.prefecture_of.result < length c.args.case.now.roster.prefectures = rw of (prefecture-low c.args.case.now c.hospital-h.result c.board-board.ensures.case low) in
    let at_q : c.prefecture_of.result ≡ prefecture_key c.args.case.now (get_or c.args.contracts.now c.loop-i.i 0) = rw at_h at of in (
      marks-contract _ c.args.d c.hospital-h.result c.loop-i.i _ (hospital_key c.args.case.now) c.args.contracts.now _ _ _ _ c.loop-i.invariant.0 c.loop-i-test.true low at_h
          c.mark.ensures.counts c.mark.ensures.last,
      marks-contract _ c.args.d c.prefecture_of.result c.loop-i.i _ (prefecture_key c.args.case.now) c.args.contracts.now _ _ _ _ c.loop-i.invariant.1 c.loop-i-test.true within at_q
          c.mark-in-loop-i.ensures.counts c.mark-in-loop-i.ensures.last,
    )
