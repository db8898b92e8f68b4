use Rattle.std.proofs.Common.{arith}
use Rattle.rm_board.proofs.Numbering.{number-fits}
use Rattle.rm_board.proofs.contracts.Contracts.number.Goals as goal

pub overflow_add-result : goal.overflow_add-result
overflow_add-result c = omega (arith, number-fits c.args.self.now c.args.h c.args.place c.start.result c.requires.hospital c.requires.place c.start.ensures.start c.start.ensures.few)
