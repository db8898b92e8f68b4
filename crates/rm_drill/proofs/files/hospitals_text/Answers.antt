use Rattle.rm_roster.specs.Hospitals.{hospital_header}
use Rattle.rm_drill.specs.Files.{hospital_row}
use Rattle.rm_drill.proofs.FileLemmas.{row-more, written-one}
use Rattle.rm_drill.proofs.files.hospitals_text.Goals as goal

pub loop-h-init : goal.loop-h-init
loop-h-init c = rw (written-one hospital_header) (c.in_ok-write_row.ensures _ c.open_writer-writer.ensures)

pub loop-h-preserved : goal.loop-h-preserved
loop-h-preserved c =
    rw (row-more hospital_header (hospital_row c.args.seats.now.capacities.items c.args.seats.now.targets.items) c.loop-h.h)
    (rw (c.value_of-capacity.ensures, c.value_of-target.ensures, c.deref.ensures.value, c.deref-in-loop-h.ensures.value) at c.in_ok-write_hospital.ensures _ c.loop-h.invariant)
