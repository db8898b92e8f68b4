use Rattle.std.proofs.Common.{◌∙◌, ◌+ℤ◌, get_or, sym, subst, arith, FitsSigned, w64}
use mir.Val.{to_z}
use Rattle.std.proofs.lemmas.Int.{ints, to_z-of_z}
use Rattle.rm_sets.specs.Sets.{IsSet}
use Rattle.rm_market.specs.Board.{contract_count}
use Rattle.rm_valuation_laws.specs.Changes.{test_at}
use Rattle.rm_exchange.specs.Prospects.{IsBestRatedOf}
use Rattle.rm_exchange.specs.Holding.{held_in}
use Rattle.rm_exchange.proofs.Held.{held_set}
use Rattle.rm_exchange.proofs.Chain.{is_chain, node_of, small_best}
use Rattle.rm_exchange.proofs.Nexts.{next_is, next_range}
use Rattle.rm_exchange.proofs.Walked.{few_nodes, walk_start, walked_swap, walk_more, walk_full, walk_end, full_at, room_at, step_is}
use Rattle.rm_exchange.proofs.prospects.walk.Goals as goal

pub loop-i-init : goal.loop-i-init
loop-i-init c = walk_start c.args.board.now (held_in c.args.board.now c.args.holding.now) c.args.x c.chain_of-chain.result.now

pub cheapest_at-requires : goal.cheapest_at-requires
cheapest_at-requires c = record { node = node_of c.args.board.now c.requires.kept.1.hospitals c.args.x c.chain_of-chain.result.now c.loop-i.i c.chain_of-chain.ensures c.loop-i-test.true; kept = c.requires.kept }

pub rated-requires-clause-low : goal.rated-requires-clause-low
rated-requires-clause-low c =
    let few = few_nodes c.args.board.now c.args.x c.chain_of-chain.result.now c.chain_of-chain.ensures c.requires.kept.1.small in
    omega (arith, ints, few, c.loop-i.invariant.low, c.loop-i.invariant.high, c.loop-i-test.true)

pub rated-requires-clause-high : goal.rated-requires-clause-high
rated-requires-clause-high c =
    let few = few_nodes c.args.board.now c.args.x c.chain_of-chain.result.now c.chain_of-chain.ensures c.requires.kept.1.small in
    omega (arith, ints, few, c.loop-i.invariant.low, c.loop-i.invariant.high, c.loop-i-test.true)

pub rated-requires-clause-small : goal.rated-requires-clause-small
rated-requires-clause-small c =
    small_best c.args.board.now (held_in c.args.board.now c.args.holding.now) (get_or c.chain_of-chain.result.now c.loop-i.i 0) c.cheapest_at.result c.requires.kept.1.small c.cheapest_at.ensures

pub index-requires : goal.index-requires
index-requires c =
    let lt = node_of c.args.board.now c.requires.kept.1.hospitals c.args.x c.chain_of-chain.result.now c.loop-i.i c.chain_of-chain.ensures c.loop-i-test.true in
    let all = c.requires.kept.1.nexts.all in
    let long = c.args.holding.now.nexts.ok.0 in
    omega arith

pub returns-in_default : goal.returns-in_default
returns-in_default c =
    let b = c.args.board.now in
    let h = c.args.holding.now in
    let H = held_in b h in
    let x = c.args.x in
    let nodes = c.chain_of-chain.result.now in
    let i = c.loop-i.i in
    let a = get_or nodes i 0 in
    let plan = c.requires.kept.1.hospitals in
    let set : IsSet H = (held_set (contract_count b) h.marks.items).ascending in
    let la = node_of b plan x nodes i c.chain_of-chain.ensures c.loop-i-test.true in
    let ch = is_chain b plan x nodes c.chain_of-chain.ensures in
    let best = c.cheapest_at.ensures in
    let swap : IsBestRatedOf b H x (test_at b a) c.better-swap.result = subst (IsBestRatedOf b H x (test_at b a)) (sym c.better-swap.ensures)
    (walked_swap b plan H set x c.requires.contract nodes ch i c.loop-i-test.true (to_z w64 c.loop-i.gain-bits) c.loop-i.swap c.cheapest_at.result c.rated.result c.loop-i.invariant best c.rated.ensures) in
    let nexts = c.requires.kept.1.nexts in
    let next = next_is b h.counts.items h.nexts.items a c.index.result.now c.index.result.now la nexts c.index.ensures in
    walk_full b plan H x c.requires.contract nodes ch i c.loop-i-test.true (to_z w64 c.loop-i.gain-bits) c.loop-i.swap c.better-swap.result c.loop-i.invariant swap (full_at b H h.counts.items a la c.requires.kept.1.counted (next ∙ c.in_default.is))

pub overflow_add-gain : goal.overflow_add-gain
overflow_add-gain c =
    let few = few_nodes c.args.board.now c.args.x c.chain_of-chain.result.now c.chain_of-chain.ensures c.requires.kept.1.small in
    let b = c.args.board.now in
    let h = c.args.holding.now in
    let a = get_or c.chain_of-chain.result.now c.loop-i.i 0 in
    let la = node_of b c.requires.kept.1.hospitals c.args.x c.chain_of-chain.result.now c.loop-i.i c.chain_of-chain.ensures c.loop-i-test.true in
    let range = next_range b h.counts.items h.nexts.items a c.in-Some.step c.index.result.now c.index.result.now la c.requires.kept.1.nexts c.index.ensures c.in-Some.is in
    let step : FitsSigned w64 c.in-Some.step = omega (arith, ints, range.0, range.1) in
    simp to_z-of_z (omega (arith, ints, range.0, range.1, few, c.loop-i.invariant.low, c.loop-i.invariant.high, c.loop-i-test.true))

pub loop-i-preserved : goal.loop-i-preserved
loop-i-preserved c =
    let b = c.args.board.now in
    let h = c.args.holding.now in
    let H = held_in b h in
    let x = c.args.x in
    let nodes = c.chain_of-chain.result.now in
    let i = c.loop-i.i in
    let a = get_or nodes i 0 in
    let plan = c.requires.kept.1.hospitals in
    let set : IsSet H = (held_set (contract_count b) h.marks.items).ascending in
    let la = node_of b plan x nodes i c.chain_of-chain.ensures c.loop-i-test.true in
    let ch = is_chain b plan x nodes c.chain_of-chain.ensures in
    let best = c.cheapest_at.ensures in
    let swap : IsBestRatedOf b H x (test_at b a) c.better-swap.result = subst (IsBestRatedOf b H x (test_at b a)) (sym c.better-swap.ensures)
    (walked_swap b plan H set x c.requires.contract nodes ch i c.loop-i-test.true (to_z w64 c.loop-i.gain-bits) c.loop-i.swap c.cheapest_at.result c.rated.result c.loop-i.invariant best c.rated.ensures) in
    let nexts = c.requires.kept.1.nexts in
    let next = next_is b h.counts.items h.nexts.items a c.index.result.now c.index.result.now la nexts c.index.ensures in
    let few = few_nodes b x nodes c.chain_of-chain.ensures c.requires.kept.1.small in
    let range = next_range b h.counts.items h.nexts.items a c.in-Some.step c.index.result.now c.index.result.now la nexts c.index.ensures c.in-Some.is in
    let step : FitsSigned w64 c.in-Some.step = omega (arith, ints, range.0, range.1) in
    let sum : FitsSigned w64 (to_z w64 c.loop-i.gain-bits +ℤ c.in-Some.step) = omega (arith, ints, range.0, range.1, few, c.loop-i.invariant.low, c.loop-i.invariant.high, c.loop-i-test.true) in
    simp to_z-of_z (walk_more b plan H x c.requires.contract nodes ch i c.loop-i-test.true (to_z w64 c.loop-i.gain-bits) c.loop-i.swap c.better-swap.result c.in-Some.step c.loop-i.invariant swap
    (step_is b H h.counts.items a c.in-Some.step la c.requires.kept.1.counted (next ∙ c.in-Some.is)) range (room_at b H h.counts.items a c.in-Some.step la c.requires.kept.1.counted (next ∙ c.in-Some.is)))

pub returns : goal.returns
returns c =
    let b = c.args.board.now in
    walk_end b c.requires.kept.1.hospitals (held_in b c.args.holding.now) c.args.x c.requires.contract c.requires.new c.requires.feasible c.chain_of-chain.result.now
    (is_chain b c.requires.kept.1.hospitals c.args.x c.chain_of-chain.result.now c.chain_of-chain.ensures) c.chain_of-chain.ensures c.loop-i.i (let past = c.loop-i-test.false in let end = c.loop-i.auto.i-end in omega arith) (to_z w64 c.loop-i.gain-bits) c.loop-i.swap c.loop-i.invariant
