use Rattle.std.proofs.Common.{ℕ, ◌<◌}
use Rattle.std.proofs.lemmas.List.Elements.{All-weaker}
use Rattle.rm_market.specs.Board.{contract_count}
use Rattle.rm_case.specs.Case.{market}
use Rattle.rm_journal_laws.specs.Journal.{NamesBelow}
use Rattle.rm_top.proofs.Judged.{check_within}
use Rattle.rm_top.proofs.journals.verdict_told.Goals as goal

pub verify-requires : goal.verify-requires
verify-requires c =
    let n = contract_count (market c.args.case.now).board in
    All-weaker (NamesBelow n) (λ e. e.x < n) (λ e names. names.0) c.args.entries.now c.requires

pub verdict_text-requires : goal.verdict_text-requires
verdict_text-requires c = check_within c.args.case.now _ c.args.entries.now c.in_ok-check.check c.verify.ensures.case c.in_ok-check.ensures.says
