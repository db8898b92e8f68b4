use Rattle.rm_base.specs.Checks.{checks_of}
use Rattle.rm_roster.specs.Cells.{data_rows}
use Rattle.rm_case.specs.Choices.{choice_checks, choice_header, choices_of, hospitals_in_rows}
use Rattle.rm_case.proofs.NumberedRows.{header-right}
use Rattle.rm_case.proofs.choices.Choices.read.Goals as goal

pub returns-in-None-clause-reads : goal.returns-in-None-clause-reads
unfolding choices_of
returns-in-None-clause-reads c =
    header-right choice_header c.args.table.now (checks_of (choice_checks c.args.case.now) (data_rows c.args.table.now)) (hospitals_in_rows c.args.case.now (data_rows c.args.table.now))
    c.wrong_cell.result c.read_rows.result c.wrong_cell.ensures c.in-None.is c.read_rows.ensures.reads
