use Rattle.std.proofs.Common.{◌∙◌}
use Rattle.rm_choice.proofs.Offers.{has-list_any}
use Rattle.rm_audit.proofs.placement.holds.Goals as goal

pub returns : goal.returns
returns c = c.contains.ensures.value ∙ has-list_any c.args.x c.args.list.now
