use Rattle.std.proofs.Common.{◌≡◌, ◌∙◌, ◌+◌, refl, Some, None, set, get_or, sym, ap, subst, arith, FitsSigned, w64, ◌+ℤ◌, length-set}
use mir.Val.{to_z}
use Rattle.std.proofs.lemmas.Int.{ints, to_z-of_z}
use Rattle.rm_exchange.proofs.Chain.{node_of}
use Rattle.rm_exchange.proofs.Walked.{few_nodes}
use Rattle.rm_audit.proofs.Entering.{IsEntered, entered_start, entered_more, entered_end, last_is, lost_start, lost_more}
use Rattle.rm_audit.proofs.placed.enter.Goals as goal

pub loop-i-init : goal.loop-i-init
loop-i-init c =
    let b = c.args.board.now in
    let nodes = c.chain_of-chain.result.now in
    record {
      all = c.requires.table;
      low = omega (arith, ints);
      high = omega (arith, ints);
      lost = λ S counted. lost_start b c.requires.chains.hospitals c.args.z c.requires.contract nodes c.chain_of-chain.ensures S;
      entered = λ S before counted table. entered_start b c.requires.chains.hospitals c.args.z c.requires.contract nodes c.chain_of-chain.ensures S before c.args.cheapest.now table;
    }

pub slice_copy_out-old : goal.slice_copy_out-old
slice_copy_out-old c =
    let lt = node_of c.args.board.now c.requires.chains.hospitals c.args.z c.chain_of-chain.result.now c.loop-i.i c.chain_of-chain.ensures c.loop-i-test.true in
    let all = c.loop-i.invariant.all in
    omega arith

pub bounds-cheapest-node : goal.bounds-cheapest-node
bounds-cheapest-node c =
    let lt = node_of c.args.board.now c.requires.chains.hospitals c.args.z c.chain_of-chain.result.now c.loop-i.i c.chain_of-chain.ensures c.loop-i-test.true in
    let all = c.loop-i.invariant.all in
    omega arith

pub last_step-loss-requires-clause-node : goal.last_step-loss-requires-clause-node
last_step-loss-requires-clause-node c = node_of c.args.board.now c.requires.chains.hospitals c.args.z c.chain_of-chain.result.now c.loop-i.i c.chain_of-chain.ensures c.loop-i-test.true

pub overflow_add-loss : goal.overflow_add-loss
overflow_add-loss c =
    let few = few_nodes c.args.board.now c.args.z c.chain_of-chain.result.now c.chain_of-chain.ensures c.requires.chains.small in
    let low = c.last_step-loss.ensures.low in
    let high = c.last_step-loss.ensures.high in
    let step : FitsSigned w64 c.last_step-loss.result = omega (arith, ints, low, high) in
    simp to_z-of_z (omega (arith, ints, low, high, few, c.loop-i.invariant.low, c.loop-i.invariant.high, c.loop-i-test.true))

pub loop-i-preserved : goal.loop-i-preserved
loop-i-preserved c =
    let b = c.args.board.now in
    let plan = c.requires.chains.hospitals in
    let nodes = c.chain_of-chain.result.now in
    let i = c.loop-i.i in
    let a = get_or nodes i 0 in
    let inv = c.loop-i.invariant in
    let few = few_nodes b c.args.z nodes c.chain_of-chain.ensures c.requires.chains.small in
    let la = node_of b plan c.args.z nodes i c.chain_of-chain.ensures c.loop-i-test.true in
    let low = c.last_step-loss.ensures.low in
    let high = c.last_step-loss.ensures.high in
    let step : FitsSigned w64 c.last_step-loss.result = omega (arith, ints, low, high) in
    let sum : FitsSigned w64 (to_z w64 c.loop-i.loss-bits +ℤ c.last_step-loss.result) = omega (arith, ints, low, high, few, inv.low, inv.high, c.loop-i-test.true) in
    simp to_z-of_z (record {
      all = length-set c.loop-i.cheapest a (Some c.cheaper.result) ∙ inv.all;
      low = omega (arith, ints, low, high, inv.low);
      high = omega (arith, ints, low, high, inv.high);
      lost = λ S counted. lost_more b plan c.args.z c.requires.contract nodes c.chain_of-chain.ensures S i (to_z w64 c.loop-i.loss-bits) c.last_step-loss.result c.loop-i-test.true (inv.lost S counted)
          (last_is b S c.args.counts.now a c.last_step-loss.result la counted c.last_step-loss.ensures.step);
      entered = λ S before counted table. subst (λ r. IsEntered b S before c.args.z nodes (i + 1) (set c.loop-i.cheapest a (Some r))) (sym c.cheaper.ensures)
          (entered_more b plan c.args.z c.requires.contract nodes c.chain_of-chain.ensures S before i c.loop-i.cheapest (get_or c.loop-i.cheapest a None) (to_z w64 c.loop-i.loss-bits) c.tie_key-tie.result c.loop-i-test.true inv.all (inv.entered S before counted table)
          (inv.lost S counted) inv.low inv.high c.tie_key-tie.ensures.key refl);
    })

pub returns-clause-entered : goal.returns-clause-entered
returns-clause-entered c = λ S before counted table.
    let past = c.loop-i-test.false in
    let end = c.loop-i.auto.i-end in
    entered_end c.args.board.now c.requires.chains.hospitals c.args.z c.requires.contract c.chain_of-chain.result.now c.chain_of-chain.ensures S before c.loop-i.i c.loop-i.cheapest (omega arith) c.loop-i.invariant.all (c.loop-i.invariant.entered S before counted table)
