use Rattle.std.proofs.lemmas.Result.{IfOk-weaker}
use Rattle.rm_audit.proofs.Listed.{is_placement}
use Rattle.rm_audit.proofs.PlacedRows.{header_right}
use Rattle.rm_audit.proofs.placement.read_placement.Goals as goal

pub returns-in-None-clause-reads : goal.returns-in-None-clause-reads
returns-in-None-clause-reads c = header_right c.args.case.now c.args.table.now c.wrong_cell.result c.read_rows.result c.wrong_cell.ensures c.in-None.is c.read_rows.ensures.reads

pub returns-in-None-clause-placement : goal.returns-in-None-clause-placement
returns-in-None-clause-placement c =
    IfOk-weaker c.read_rows.result _ _
    (λ places listed. is_placement c.args.case.now places c.read_rows.ensures.case listed)
    c.read_rows.ensures.listed
