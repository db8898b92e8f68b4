use Rattle.rm_base.specs.Checks.{checks_of}
use Rattle.rm_roster.specs.Cells.{data_rows}
use Rattle.rm_transit.specs.Events.{event_checks, event_header, events_told}
use Rattle.rm_transit.proofs.EventRows.{header_right, header_wrong}
use Rattle.rm_transit.proofs.event_file.read_events.Goals as goal

pub returns-in-Some-clause-stops : goal.returns-in-Some-clause-stops
returns-in-Some-clause-stops c =
    rw c.refused.ensures (header_wrong event_header c.args.table.now (checks_of (event_checks c.args.case.now) (data_rows c.args.table.now)) c.wrong_cell.result c.in-Some.field c.wrong_cell.ensures c.in-Some.is)

pub returns-in-None-clause-passes : goal.returns-in-None-clause-passes
returns-in-None-clause-passes c =
    rw (header_right event_header c.args.table.now (checks_of (event_checks c.args.case.now) (data_rows c.args.table.now)) c.wrong_cell.result c.wrong_cell.ensures c.in-None.is) c.read_rows.ensures.passes

pub returns-in-None-clause-events : goal.returns-in-None-clause-events
unfolding events_told
returns-in-None-clause-events c = c.read_rows.ensures.events

pub returns-in-None-clause-stops : goal.returns-in-None-clause-stops
returns-in-None-clause-stops c =
    rw (header_right event_header c.args.table.now (checks_of (event_checks c.args.case.now) (data_rows c.args.table.now)) c.wrong_cell.result c.wrong_cell.ensures c.in-None.is) c.read_rows.ensures.stops
