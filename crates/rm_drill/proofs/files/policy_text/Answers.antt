use Rattle.rm_drill.proofs.FileLemmas.{entry-more}
use Rattle.rm_drill.proofs.files.policy_text.Goals as goal

pub loop-q-preserved : goal.loop-q-preserved
loop-q-preserved c =
    entry-more c.args.seats.now.capacities.items c.args.seats.now.targets.items c.loop-q.q _ _ c.loop-q.invariant
    (rw (c.deref.ensures, c.in_ok-print_prefecture.ensures, c.cap_of.ensures) at c.in_ok-add_entry.ensures)
