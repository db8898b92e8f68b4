use Rattle.std.proofs.Common.{◌∙◌, ◌<◌, ◌≤◌, ap, arith, length, sym}
use Rattle.rm_policy.proofs.SetLemmas.{gathers-none, no-prefecture, prefecture-set}
use Rattle.rm_policy.proofs.sets.gather_prefecture.Goals as goal

pub returns-then-number-len-clause-members : goal.returns-then-number-len-clause-members
returns-then-number-len-clause-members c =
    let le : length c.args.roster.now.prefectures ≤ c.args.number = omega (arith, c.if-number-len.true, c.len.ensures.count, ap length c.prefectures.ensures.prefectures) in
    gathers-none c.args.count c.args.numbers.now.items _ (no-prefecture c.args.roster.now c.args.number le)

pub hospitals_in-requires : goal.hospitals_in-requires
hospitals_in-requires c = omega (arith, c.if-number-len.false, c.len.ensures.count, ap length c.prefectures.ensures.prefectures)

pub returns-clause-members : goal.returns-clause-members
returns-clause-members c =
    let lt : c.args.number < length c.args.roster.now.prefectures = omega (arith, c.if-number-len.false, c.len.ensures.count, ap length c.prefectures.ensures.prefectures) in
    rw (c.hospitals_in.ensures.hospitals ∙ sym (prefecture-set c.args.roster.now c.args.number lt)) at c.gather.ensures.members
