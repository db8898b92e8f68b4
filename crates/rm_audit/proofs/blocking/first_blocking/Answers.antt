use Rattle.std.proofs.Common.{◌≡◌, ◌<◌, All, length, get_or, sym, subst, arith}
use Rattle.rm_audit.specs.Blocking.{IsLeastOfThem, IsReachedBy}
use Rattle.rm_audit.proofs.Reaching.{next_list, none_found, some_found}
use Rattle.rm_audit.proofs.blocking.first_blocking.Goals as goal

pub loop-d-preserved : goal.loop-d-preserved
loop-d-preserved c = λ S w m.
    next_list c.args.board.now S c.args.listed.now c.loop-d.d c.contracts-end.result c.loop-d.least c.least_of_list-least.result (c.loop-d.invariant S w m)
    (subst (λ L. IsLeastOfThem c.args.board.now S (IsReachedBy S L (length L)) c.loop-d.least c.least_of_list-least.result) c.list-list.ensures (c.least_of_list-least.ensures S w m))

pub returns-then-least-end : goal.returns-then-least-end
returns-then-least-end c = λ S w m.
    let past = c.loop-d-test.false in
    let end = c.loop-d.auto.d-end in
    let all = c.len-d-end.ensures.len in
    none_found c.args.board.now S c.args.listed.now c.loop-d.d c.contracts-end.result c.loop-d.least (omega arith) (subst (λ n. All (All (λ x. x < n)) c.args.listed.now) (sym c.contracts-end.ensures) c.requires.contracts) c.if-least-end.true (c.loop-d.invariant S w m)

pub returns : goal.returns
returns c = λ S w m.
    let past = c.loop-d-test.false in
    let end = c.loop-d.auto.d-end in
    let all = c.len-d-end.ensures.len in
    some_found c.args.board.now S c.args.listed.now c.loop-d.d c.contracts-end.result c.loop-d.least (omega arith) c.if-least-end.false (c.loop-d.invariant S w m)
