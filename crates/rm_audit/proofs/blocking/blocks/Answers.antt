use Rattle.std.proofs.Common.{◌≡◌, ◌∙◌, ◌+◌, ◌+ℤ◌, get_or, true, false, None, sym, ap, subst, arith, FitsSigned, w64}
use mir.Val.{to_z}
use Rattle.std.proofs.lemmas.Int.{ints, to_z-of_z}
use Rattle.rm_board.specs.TieKeys.{tie_key}
use Rattle.rm_exchange.proofs.Chain.{node_of}
use Rattle.rm_exchange.proofs.Walked.{few_nodes, full_at, room_at, step_is}
use Rattle.rm_audit.specs.Blocking.{gains_by}
use Rattle.rm_audit.proofs.Blocks.{walk_begins, walks_on, ends_full, ends_gaining, ends, in_range, told}
use Rattle.rm_audit.proofs.blocking.blocks.Goals as goal

pub loop-i-init : goal.loop-i-init
loop-i-init c = record {
  low = omega (arith, ints);
  high = omega (arith, ints);
  walked = λ S w out. walk_begins c.args.board.now c.requires.chains.hospitals S w.set w.own c.args.x c.requires.contract out c.chain_of-chain.result.now c.chain_of-chain.ensures;
}

pub bounds-cheapest-node : goal.bounds-cheapest-node
bounds-cheapest-node c =
    let lt = node_of c.args.board.now c.requires.chains.hospitals c.args.x c.chain_of-chain.result.now c.loop-i.i c.chain_of-chain.ensures c.loop-i-test.true in
    let all = c.requires.table in
    omega arith

pub returns-then-gains : goal.returns-then-gains
returns-then-gains c = λ S w out.
    let b = c.args.board.now in
    let plan = c.requires.chains.hospitals in
    let nodes = c.chain_of-chain.result.now in
    let i = c.loop-i.i in
    let la = node_of b plan c.args.x nodes i c.chain_of-chain.ensures c.loop-i-test.true in
    let best = w.removals.each (get_or nodes i 0) la in
    ends_gaining b plan S w.set w.own c.args.x c.requires.contract out nodes c.chain_of-chain.ensures i c.loop-i-test.true (to_z w64 c.loop-i.gain-bits) (c.loop-i.invariant.walked S w out) best.0 best.2
    (told (to_z w64 c.loop-i.gain-bits) c.tie_key-tie.result (tie_key b c.args.x) (get_or c.args.cheapest.now (get_or nodes i 0) None) best.0 c.gains.result true c.tie_key-tie.ensures.key best.1 c.gains.ensures c.if-gains.true)

pub next_step-requires-clause-node : goal.next_step-requires-clause-node
next_step-requires-clause-node c = node_of c.args.board.now c.requires.chains.hospitals c.args.x c.chain_of-chain.result.now c.loop-i.i c.chain_of-chain.ensures c.loop-i-test.true

pub returns-in_default : goal.returns-in_default
returns-in_default c = λ S w out.
    let b = c.args.board.now in
    let plan = c.requires.chains.hospitals in
    let nodes = c.chain_of-chain.result.now in
    let i = c.loop-i.i in
    let la = node_of b plan c.args.x nodes i c.chain_of-chain.ensures c.loop-i-test.true in
    let best = w.removals.each (get_or nodes i 0) la in
    ends_full b plan S w.set w.own c.args.x c.requires.contract out nodes c.chain_of-chain.ensures i c.loop-i-test.true (to_z w64 c.loop-i.gain-bits) (c.loop-i.invariant.walked S w out) best.0 best.2
    (told (to_z w64 c.loop-i.gain-bits) c.tie_key-tie.result (tie_key b c.args.x) (get_or c.args.cheapest.now (get_or nodes i 0) None) best.0 c.gains.result false c.tie_key-tie.ensures.key best.1 c.gains.ensures c.if-gains.false)
    (full_at b S c.args.counts.now (get_or nodes i 0) la w.counted (sym c.next_step.ensures.step ∙ c.in_default.is))

pub overflow_add-gain : goal.overflow_add-gain
overflow_add-gain c =
    let few = few_nodes c.args.board.now c.args.x c.chain_of-chain.result.now c.chain_of-chain.ensures c.requires.chains.small in
    let range = in_range c.next_step.result c.in-Some.step c.next_step.ensures.range c.in-Some.is in
    let step : FitsSigned w64 c.in-Some.step = omega (arith, ints, range.0, range.1) in
    simp to_z-of_z (omega (arith, ints, range.0, range.1, few, c.loop-i.invariant.low, c.loop-i.invariant.high, c.loop-i-test.true))

pub loop-i-preserved : goal.loop-i-preserved
loop-i-preserved c =
    let b = c.args.board.now in
    let plan = c.requires.chains.hospitals in
    let nodes = c.chain_of-chain.result.now in
    let i = c.loop-i.i in
    let a = get_or nodes i 0 in
    let inv = c.loop-i.invariant in
    let la = node_of b plan c.args.x nodes i c.chain_of-chain.ensures c.loop-i-test.true in
    let few = few_nodes b c.args.x nodes c.chain_of-chain.ensures c.requires.chains.small in
    let range = in_range c.next_step.result c.in-Some.step c.next_step.ensures.range c.in-Some.is in
    let step : FitsSigned w64 c.in-Some.step = omega (arith, ints, range.0, range.1) in
    let sum : FitsSigned w64 (to_z w64 c.loop-i.gain-bits +ℤ c.in-Some.step) = omega (arith, ints, range.0, range.1, few, inv.low, inv.high, c.loop-i-test.true) in
    let is = sym c.next_step.ensures.step ∙ c.in-Some.is in
    simp to_z-of_z (record {
      low = omega (arith, ints, range.0, inv.low);
      high = omega (arith, ints, range.1, inv.high);
      walked = λ S w out.
          let best = w.removals.each a la in
          walks_on b plan S w.set w.own c.args.x c.requires.contract out nodes c.chain_of-chain.ensures i c.loop-i-test.true (to_z w64 c.loop-i.gain-bits) (inv.walked S w out) best.0 best.2
          (told (to_z w64 c.loop-i.gain-bits) c.tie_key-tie.result (tie_key b c.args.x) (get_or c.args.cheapest.now a None) best.0 c.gains.result false c.tie_key-tie.ensures.key best.1 c.gains.ensures c.if-gains.false)
          c.in-Some.step (step_is b S c.args.counts.now a c.in-Some.step la w.counted is) range (room_at b S c.args.counts.now a c.in-Some.step la w.counted is);
    })

pub returns : goal.returns
returns c = λ S w out.
    let b = c.args.board.now in
    let past = c.loop-i-test.false in
    let end = c.loop-i.auto.i-end in
    ends b c.requires.chains.hospitals S w.set w.own c.args.x c.requires.contract out c.chain_of-chain.result.now c.chain_of-chain.ensures c.loop-i.i (omega arith) (to_z w64 c.loop-i.gain-bits) (c.loop-i.invariant.walked S w out)
