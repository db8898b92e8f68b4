use Rattle.rm_market.specs.Board.{contract_count}
use Rattle.rm_valuation.proofs.Counted.{chain_nodes, counted_out}
use Rattle.rm_valuation.proofs.count_out.Goals as goal

pub lower-requires : goal.lower-requires
lower-requires c = chain_nodes c.args.board.now c.args.z _ c.chain.result.now c.chain.ensures.chain c.requires.nodes

pub returns-clause-counts : goal.returns-clause-counts
returns-clause-counts c = λ S s i a.
    counted_out c.args.board.now c.args.z (contract_count c.args.board.now) S c.args.counts.now c.lower.new.counts c.chain.result.now s i a c.chain.ensures.chain
    c.requires.nodes c.lower.ensures.length c.lower.ensures.numbers
