use Rattle.std.proofs.Common.{◌∙◌}
use Rattle.rm_laminar.proofs.Members.{any-has}
use Rattle.rm_laminar.proofs.chains.is_in.Goals as goal

pub returns : goal.returns
returns c = c.contains.ensures.value ∙ any-has c.args.x c.args.set.now
