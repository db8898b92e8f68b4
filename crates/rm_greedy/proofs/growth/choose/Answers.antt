use Rattle.std.proofs.Common.{arith, ◌∙◌}
use Rattle.rm_sets.proofs.Sizes.{length_below}
use Rattle.rm_market.specs.Board.{contract_count}
use Rattle.rm_greedy.proofs.Steps.{best_written}
use Rattle.rm_greedy.proofs.growth.choose.Goals as goal

pub write_heads-heads-requires-clause-space : goal.write_heads-heads-requires-clause-space
write_heads-heads-requires-clause-space c =
    let short = length_below (contract_count c.args.board.now) c.args.offered.now c.requires.offered in
    let space = c.requires.list in
    omega (arith, short, space)

pub write_marked-requires-clause-space : goal.write_marked-requires-clause-space
write_marked-requires-clause-space c =
    let short = length_below (contract_count c.args.board.now) c.args.offered.now c.requires.offered in
    let space = c.requires.list in
    omega (arith, short, space)

pub returns-clause-within : goal.returns-clause-within
returns-clause-within c =
    let short = length_below (contract_count c.args.board.now) c.args.offered.now c.requires.offered in
    let space = c.requires.list in
    let same = c.write_marked.ensures.length in
    let few = c.write_marked.ensures.within in
    omega (arith, short, space, same, few)

pub returns-clause-chosen : goal.returns-clause-chosen
returns-clause-chosen c = c.write_marked.ensures.written ∙ best_written c.args.board.now c.args.offered.now c.grow.new.marks c.requires.valuation c.requires.offered c.grow.ensures.best
