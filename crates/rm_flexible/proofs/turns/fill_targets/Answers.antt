use Rattle.std.proofs.Common.{◌≡◌, ◌<◌, length, get_or, ap, subst, arith, ◌∙◌, min}
use Rattle.rm_flexible_laws.specs.Region.{no_seat, seat_at}
use Rattle.rm_flexible.proofs.Rounds.{seat_is}
use Rattle.rm_flexible.proofs.Targets.{filled_here, filled_cap, filled_more, filled_taken, IsFilled}
use Rattle.rm_flexible.proofs.turns.fill_targets.Goals as goal

pub overflow_sub-cap : goal.overflow_sub-cap
overflow_sub-cap c =
    let r = c.args.region.now in
    let lt = subst (λ L. c.loop-i.i < length L) c.seats-seats.ensures.seats c.loop-i-test.true in
    let cap = filled_cap r c.seats-seats.ensures.lawful c.args.counts.now c.loop-i.i c.loop-i.counts c.loop-i.total c.loop-i.invariant lt in
    let e = c.cap-cap.ensures in
    omega (arith, cap, e)

pub prove-unreachable-requires : goal.prove-unreachable-requires
prove-unreachable-requires c =
    let r = c.args.region.now in
    let lt = subst (λ L. c.loop-i.i < length L) c.seats-seats.ensures.seats c.loop-i-test.true in
    let cap = filled_cap r c.seats-seats.ensures.lawful c.args.counts.now c.loop-i.i c.loop-i.counts c.loop-i.total c.loop-i.invariant lt in
    let here = filled_here r c.seats-seats.ensures.lawful c.args.counts.now c.loop-i.i c.loop-i.counts c.loop-i.total c.loop-i.invariant lt in
    let seat = c.seat.view_is ∙ seat_is r c.seats-seats.result.now c.loop-i.i c.index-seats-i.result c.seats-seats.ensures.seats c.loop-i-test.true c.index-seats-i.is in
    let taken = c.min-taken.ensures ∙ ap (λ s. min s.target (get_or c.loop-i.counts s.hospital 0)) seat in
    let e = c.cap-cap.ensures in
    let more = c.if-prove.true in
    omega (arith, cap, e, here, taken, more)

pub loop-i-preserved : goal.loop-i-preserved
loop-i-preserved c =
    let r = c.args.region.now in
    let lt = subst (λ L. c.loop-i.i < length L) c.seats-seats.ensures.seats c.loop-i-test.true in
    let seat = c.seat.view_is ∙ seat_is r c.seats-seats.result.now c.loop-i.i c.index-seats-i.result c.seats-seats.ensures.seats c.loop-i-test.true c.index-seats-i.is in
    let hospital : c.seat.inside.hospital ≡ (seat_at r c.loop-i.i).hospital = ap (λ s. s.hospital) seat in
    let taken = c.min-taken.ensures ∙ ap (λ s. min s.target (get_or c.loop-i.counts s.hospital 0)) seat in
    let below = c.requires c.loop-i.i no_seat lt in
    let same = c.loop-i.invariant.long in
    rw hospital (filled_more r c.seats-seats.ensures.lawful c.args.counts.now c.loop-i.i c.loop-i.counts c.loop-i.total c.min-taken.result c.loop-i.invariant lt (omega (arith, below, same)) taken)

pub returns-clause-taken : goal.returns-clause-taken
returns-clause-taken c = λ b X offered left.
    let r = c.args.region.now in
    let past = c.loop-i-test.false in
    let end = c.loop-i.auto.i-end in
    let long = ap length c.seats-seats.ensures.seats in
    let i : c.loop-i.i ≡ length r.seats = omega (arith, past, end, long) in
    filled_taken r c.seats-seats.ensures.lawful c.args.counts.now b X c.loop-i.counts c.loop-i.total offered left
    (subst (λ k. IsFilled r c.args.counts.now k c.loop-i.counts c.loop-i.total) i c.loop-i.invariant)
