use Rattle.std.proofs.Common.{◌<◌, arith}
use Rattle.std.specs.Prelude.{◌^◌}
use Rattle.rm_market.specs.Board.{contract_count}
use Rattle.rm_valuation.proofs.Counted.{chain_nodes, counted_in}
use Rattle.rm_valuation.proofs.count_in.Goals as goal

pub raise-requires : goal.raise-requires
raise-requires c = chain_nodes c.args.board.now c.args.x _ c.chain.result.now c.chain.ensures.chain c.requires.nodes

pub returns-clause-counts : goal.returns-clause-counts
returns-clause-counts c = λ S s out a.
    let same = c.contracts-contracts.ensures in
    let fits = c.contracts-contracts.type_inv in
    let small : contract_count c.args.board.now < 2 ^ 32 = omega arith in
    counted_in c.args.board.now c.args.x (contract_count c.args.board.now) S c.args.counts.now c.raise.new.counts c.chain.result.now s out c.requires.contract small a c.chain.ensures.chain
    c.requires.nodes c.raise.ensures.length c.raise.ensures.numbers
