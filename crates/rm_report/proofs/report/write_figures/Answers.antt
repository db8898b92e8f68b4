use Rattle.rm_report.proofs.report.write_figures.Goals as goal

pub returns : goal.returns
returns c =
    let cells = c.in_ok-print_cells.ensures in
    rw (cells.capacity, cells.target, cells.cap, cells.placed, cells.applicants, cells.first) at c.write_printed.ensures
