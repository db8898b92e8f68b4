use Rattle.std.proofs.Common.{subst, arith}
use Rattle.rm_market.specs.Board.{leaf_of}
use Rattle.rm_exchange.specs.RowsBelow.{IsLastAt}
use Rattle.rm_sets.proofs.Places.{place_told}
use Rattle.rm_exchange.proofs.LastAt.{last_alone, last_stays, last_replaced}
use Rattle.rm_exchange.proofs.certificates.later.Goals as goal

pub returns-in_default-clause-last : goal.returns-in_default-clause-last
returns-in_default-clause-last c = λ S h. last_alone c.args.board.now S c.args.z (subst (IsLastAt c.args.board.now S (leaf_of c.args.board.now c.args.z)) c.in_default.is h)

pub returns-then-tie-clause-last : goal.returns-then-tie-clause-last
returns-then-tie-clause-last c = λ S h.
    let b = c.args.board.now in
    let py = place_told _ b.ties _ c.tie.ensures in
    let pz = place_told _ b.ties _ c.tie-2.ensures in
    let test = c.if-tie.true in
    last_stays b S c.args.z c.in-Some.y (subst (IsLastAt b S (leaf_of b c.args.z)) c.in-Some.is h) (omega (arith, py, pz, test))

pub returns-clause-last : goal.returns-clause-last
returns-clause-last c = λ S h.
    let b = c.args.board.now in
    let py = place_told _ b.ties _ c.tie.ensures in
    let pz = place_told _ b.ties _ c.tie-2.ensures in
    let test = c.if-tie.false in
    last_replaced b S c.args.z c.in-Some.y (subst (IsLastAt b S (leaf_of b c.args.z)) c.in-Some.is h) (omega (arith, py, pz, test))
