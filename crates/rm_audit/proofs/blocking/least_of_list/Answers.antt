use Rattle.std.proofs.Common.{◌≡◌, ◌∙◌, ◌+◌, ◌<◌, ◌≤◌, ℕ, get_or, false, sym, arith}
use Rattle.std.proofs.lemmas.List.Elements.{All-get_or}
use Rattle.rm_sets.specs.Sets.{has}
use Rattle.rm_market.specs.Board.{contract_count}
use Rattle.rm_valuation.proofs.Taken.{up_to_next}
use Rattle.rm_audit.proofs.Reaching.{next_reached, stop_reached}
use Rattle.rm_audit.proofs.blocking.least_of_list.Goals as goal

pub returns-then-marks-x : goal.returns-then-marks-x
returns-then-marks-x c = λ S w m.
    let L = c.args.list.now in
    let i = c.loop-i.i in
    let lx = All-get_or (λ x. x < contract_count c.args.board.now) L i 0 c.loop-i-test.true c.requires.contracts in
    stop_reached c.args.board.now S L i c.args.least c.loop-i.least (sym (m.each (get_or L i 0) lx) ∙ c.if-marks-x.true) (c.loop-i.invariant S w m).1 c.loop-i-test.true

pub loop-i-preserved : goal.loop-i-preserved
loop-i-preserved c = λ S w m.
    let L = c.args.list.now in
    let i = c.loop-i.i in
    let inv = c.loop-i.invariant S w m in
    let lx = All-get_or (λ x. x < contract_count c.args.board.now) L i 0 c.loop-i-test.true c.requires.contracts in
    let here : has (get_or L i 0) S ≡ false = sym (m.each (get_or L i 0) lx) ∙ c.if-marks-x.false in
    let out : (j : ℕ) → j < i + 1 → has (get_or L j 0) S ≡ false = up_to_next (λ y. has y S) L i inv.0 here in
    (out, next_reached c.args.board.now S L i c.args.least c.loop-i.least c.lesser-least.result c.loop-i-test.true (λ j le. out j (omega arith)) inv.1 (c.lesser-least.ensures S w here))
