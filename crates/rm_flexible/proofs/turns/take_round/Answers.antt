use Rattle.std.proofs.Common.{◌≡◌, ◌-◌, ◌<◌, length, get_or, take, ap, subst, arith, ◌∙◌}
use Rattle.std.specs.Prelude.{fold}
use Rattle.std.proofs.lemmas.List.{take_all}
use Rattle.rm_market.specs.Flexible.{after_seat}
use Rattle.rm_flexible_laws.specs.Region.{no_seat, seat_at}
use Rattle.rm_flexible.specs.Counts.{IsInRound}
use Rattle.rm_flexible.proofs.Rounds.{seat_is, going_takes, going_passes}
use Rattle.rm_flexible.proofs.Taking.{next_round}
use Rattle.rm_flexible.proofs.turns.take_round.Goals.{then-total-cap+then-round-seat+then-left-gt0, else-total-cap, else-total-cap-via-then-total-cap+then-round-seat+else-left-gt0, else-total-cap-via-then-total-cap+else-round-seat, else-total-cap-via-else-total-cap}
use Rattle.rm_flexible.proofs.turns.take_round.Goals as goal

pub loop-i-preserved : goal.loop-i-preserved
loop-i-preserved c =
    let r = c.args.region.now in
    let lt = subst (λ L. c.loop-i.i < length L) c.seats-seats.ensures.seats c.loop-i-test.true in
    let seat = c.seat.view_is ∙ seat_is r c.seats-seats.result.now c.loop-i.i c.index-seats-i.result c.seats-seats.ensures.seats c.loop-i-test.true c.index-seats-i.is in
    let hospital : c.seat.inside.hospital ≡ (seat_at r c.loop-i.i).hospital = ap (λ s. s.hospital) seat in
    let room : c.seat.inside.capacity - c.seat.inside.target ≡ (seat_at r c.loop-i.i).capacity - (seat_at r c.loop-i.i).target = ap (λ s. s.capacity - s.target) seat in
    let left : get_or c.loop-i.counts c.seat.inside.hospital 0 ≡ get_or c.loop-i.counts (seat_at r c.loop-i.i).hospital 0 = ap (λ h. get_or c.loop-i.counts h 0) hospital in
    let cap = c.cap-cap.ensures in
    let g = c.loop-i.invariant in
    let below = c.requires c.loop-i.i no_seat lt in
    let same = g.long in
    let ok = c.seats-seats.ensures.lawful in
    elim c.if-total-cap.branch [
      | then-total-cap+then-round-seat+then-left-gt0 w ↦
          let t = w.if-total-cap.true in
          let q = w.if-round-seat.true in
          let n = w.if-left-gt0.true in
          rw (w.counts-is, w.total-is, hospital)
          (going_takes r ok c.args.counts.now c.args.taken c.args.round c.loop-i.i c.loop-i.counts c.loop-i.total g lt (omega (arith, below, same)) (omega (arith, t, cap)) (omega (arith, q, room)) (omega (arith, n, left)))
      | else-total-cap w ↦
          rw (w.counts-is, w.total-is)
          (going_passes r ok c.args.counts.now c.args.taken c.args.round c.loop-i.i c.loop-i.counts c.loop-i.total g lt
          (λ t q n. elim w.else-total-cap.branch [
            | else-total-cap-via-then-total-cap+then-round-seat+else-left-gt0 v ↦ let no_left = v.if-left-gt0.false in omega (arith, no_left, n, left)
            | else-total-cap-via-then-total-cap+else-round-seat v ↦ let no_turn = v.if-round-seat.false in omega (arith, no_turn, q, room)
            | else-total-cap-via-else-total-cap v ↦ let no_room = v.if-total-cap.false in omega (arith, no_room, t, cap)
          ]))
    ]

pub returns-clause-taken : goal.returns-clause-taken
returns-clause-taken c = λ b X K offered a.
    let r = c.args.region.now in
    let past = c.loop-i-test.false in
    let end = c.loop-i.auto.i-end in
    let long = ap length c.seats-seats.ensures.seats in
    let i : c.loop-i.i ≡ length r.seats = omega (arith, past, end, long) in
    next_round b r X (fold (after_seat b r X) K r.seats) c.args.round c.loop-i.counts c.loop-i.total
    (subst (λ L. IsInRound b r X (fold (after_seat b r X) K L) c.args.round (length r.seats) c.loop-i.counts c.loop-i.total) (take_all (length r.seats) r.seats (omega arith))
    (subst (λ k. IsInRound b r X (fold (after_seat b r X) K (take k r.seats)) c.args.round k c.loop-i.counts c.loop-i.total) i (c.loop-i.invariant.so_far b X K offered a)))
