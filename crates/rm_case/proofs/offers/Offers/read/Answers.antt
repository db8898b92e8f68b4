use Rattle.rm_base.specs.Checks.{checks_of}
use Rattle.rm_roster.specs.Cells.{data_rows}
use Rattle.rm_case.specs.Own.{contracts_in, offer_checks, offer_header, offers_of}
use Rattle.rm_case.proofs.NumberedRows.{header-right}
use Rattle.rm_case.proofs.offers.Offers.read.Goals as goal

pub returns-in-None-clause-reads : goal.returns-in-None-clause-reads
unfolding offers_of
returns-in-None-clause-reads c =
    header-right offer_header c.args.table.now (checks_of (offer_checks c.args.case.now) (data_rows c.args.table.now)) (contracts_in c.args.case.now (data_rows c.args.table.now))
    c.wrong_cell.result c.read_rows.result c.wrong_cell.ensures c.in-None.is c.read_rows.ensures.reads
