use Rattle.rm_report.proofs.finding.write_finding.Goals as goal

pub returns-in-Stable : goal.returns-in-Stable
returns-in-Stable c = rw c.in-Stable.is c.write_row.ensures

pub returns-in-OverCap : goal.returns-in-OverCap
returns-in-OverCap c = rw c.in-OverCap.is c.write_node.ensures

pub returns-in-Unwanted : goal.returns-in-Unwanted
returns-in-Unwanted c = rw c.in-Unwanted.is c.write_contract.ensures

pub returns-in-Blocks : goal.returns-in-Blocks
returns-in-Blocks c = rw c.in-Blocks.is c.write_contract-in-Blocks.ensures
