use Rattle.std.proofs.Common.{◌∙◌, length, arith}
use Rattle.rm_board.proofs.Numbering.{own-read, none-own}
use Rattle.rm_board.proofs.contracts.Contracts.of_doctor.Goals as goal

pub returns-then-d-len : goal.returns-then-d-len
returns-then-d-len c = rw (← c.self.view_is) (none-own _ _ _ c.self.invariant c.args.d (omega (arith, c.if-d-len.true, c.len.ensures)))

pub returns : goal.returns
returns c = rw (← c.self.view_is) (c.list.ensures.list ∙ own-read _ _ _ c.self.invariant c.args.d (omega (arith, c.if-d-len.false, c.len.ensures)))
