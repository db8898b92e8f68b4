use Rattle.rm_roster.proofs.Roster.join.Goals as goal

pub group-requires : goal.group-requires
group-requires c = rw (c.by_hospital.ensures, c.len.ensures.count, c.prefectures.ensures) c.requires.prefecture_of
