use Rattle.std.proofs.Common.{◌≡◌, ◌<◌, ◌^◌, length, refl, arith}
use Rattle.rm_board.proofs.Numbering.{add-fits, added-count, count-is, numbered-more, numbered-all, lists-are}
use Rattle.rm_board.proofs.Runs.{more-begun, all-begun}
use Rattle.rm_board.proofs.contracts.Contracts.build.Goals as goal

pub add-requires-clause-few : goal.add-requires-clause-few
add-requires-clause-few c = add-fits _ _ _ c.loop-h.invariant.numbered c.list.result.now (omega (arith, c.loop-h-test.true, c.len-h-end.ensures.len)) c.list.ensures c.requires

pub loop-h-preserved : goal.loop-h-preserved
loop-h-preserved c =
    let added = c.in_ok-add.ensures in
    let lt : c.loop-h.h < length c.args.ranks.now = omega (arith, c.loop-h-test.true, c.len-h-end.ensures.len) in
    let more = rw (added-count _ _ _ c.loop-h.invariant.numbered c.list.result.now lt c.list.ensures) at added.runs in
    record {
      numbered = numbered-more _ _ _ c.loop-h.invariant.numbered c.add.new.self c.list.result.now lt c.list.ensures added.doctors added.starts;
      begun = more-begun _ _ _ _ c.loop-h.invariant.begun lt more;
    }

pub add-requires-clause-runs : goal.add-requires-clause-runs
add-requires-clause-runs c = rw (count-is _ _ _ c.loop-h.invariant.numbered) c.loop-h.invariant.begun.long

pub invariant_of-result : goal.invariant_of-result
invariant_of-result c =
    let few : length c.args.ranks.now < 2 ^ 32 = omega (arith, c.len-h-end.ensures.len, c.len-h-end.type_inv) in
    let all : length c.args.ranks.now ≡ c.loop-h.h = omega (arith, c.loop-h-test.false, c.loop-h.auto.h-end, c.len-h-end.ensures.len) in
    let index = rw c.deref.ensures.value at c.in_ok-by_doctor.ensures in
    let runs = all-begun _ _ _ (rw (← all) at c.loop-h.invariant.begun) (rw c.len-2.ensures.len at c.in_ok-push.ensures.items) in
    let are = numbered-all _ _ _ c.loop-h.invariant.numbered (record { doctors = c.loop-h.by_hospital.doctors; starts = c.loop-h.by_hospital.starts; runs = c.push.new.self }) c.in_ok-by_doctor.by_doctor refl refl runs c.requires few all index in
    rw (lists-are _ _ _ are) are

pub returns : goal.returns
returns c =
    let few : length c.args.ranks.now < 2 ^ 32 = omega (arith, c.len-h-end.ensures.len, c.len-h-end.type_inv) in
    let all : length c.args.ranks.now ≡ c.loop-h.h = omega (arith, c.loop-h-test.false, c.loop-h.auto.h-end, c.len-h-end.ensures.len) in
    let index = rw c.deref.ensures.value at c.in_ok-by_doctor.ensures in
    let runs = all-begun _ _ _ (rw (← all) at c.loop-h.invariant.begun) (rw c.len-2.ensures.len at c.in_ok-push.ensures.items) in
    let are = numbered-all _ _ _ c.loop-h.invariant.numbered (record { doctors = c.loop-h.by_hospital.doctors; starts = c.loop-h.by_hospital.starts; runs = c.push.new.self }) c.in_ok-by_doctor.by_doctor refl refl runs c.requires few all index in
    lists-are _ _ _ are
