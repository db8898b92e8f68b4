use Rattle.std.proofs.Common.{◌≡◌, rules}
use Rattle.rm_laminar.proofs.tests.copied.Goals as goal

pub returns : goal.returns
returns c =
    let same : c.in-Ok.set.items ≡ c.args.group.now = search rules in
    rw same (c.is_set.ensures c.if-not-is_set.false)
