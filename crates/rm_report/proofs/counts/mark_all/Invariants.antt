use Rattle.std.proofs.Common.{length, take}
use Rattle.rm_report.specs.Counts.{AreMarked, hospital_key, prefecture_key}
use Rattle.rm_report.proofs.counts.mark_all.Given as goal

abbrev pub invariant-loop-i : goal.invariant-loop-i
invariant-loop-i l =
    AreMarked l.case (hospital_key l.case) (length l.case.roster.hospitals) l.d (take l.i l.contracts) l.hospitals
    × AreMarked l.case (prefecture_key l.case) (length l.case.roster.prefectures) l.d (take l.i l.contracts) l.prefectures
