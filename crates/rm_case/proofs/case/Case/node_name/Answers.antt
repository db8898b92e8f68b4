use Rattle.rm_case.proofs.Titles.{group-numbered, title-hospital, title-prefecture, title-group}
use Rattle.rm_case.proofs.case.Case.node_name.Goals as goal

pub group_name-name-requires : goal.group_name-name-requires
group_name-name-requires c =
    group-numbered (record { roster = c.self.inside.roster; policy = c.self.inside.policy }) c.args.node c.len-2.result c.self.invariant.case (rw (← c.self.view_is) at c.requires)
    (rw c.hospitals-hospitals.ensures.hospitals at c.len-2.ensures.count) (rw (c.len.ensures.count, ← c.len-2.ensures.count) at c.if-node-len.false)

pub returns-then-node-len : goal.returns-then-node-len
returns-then-node-len c =
    rw (← c.self.view_is) (title-hospital (record { roster = c.self.inside.roster; policy = c.self.inside.policy }) c.args.node c.name.result.now
    (rw (c.len.ensures.count, c.hospitals-hospitals.ensures.hospitals) at c.if-node-len.true) (rw c.hospitals-hospitals.ensures.hospitals at c.name.ensures.name))

pub returns-then-group-prefecture_entries : goal.returns-then-group-prefecture_entries
returns-then-group-prefecture_entries c =
    rw (← c.self.view_is) (title-prefecture (record { roster = c.self.inside.roster; policy = c.self.inside.policy }) c.args.node c.group_name-name.result.now
    (rw (c.len.ensures.count, c.hospitals-hospitals.ensures.hospitals) at c.if-node-len.false)
    (rw (c.len-2.ensures.count, c.hospitals-hospitals.ensures.hospitals, c.prefecture_entries.ensures.entries) at c.if-group-prefecture_entries.true)
    (rw (c.len-2.ensures.count, c.hospitals-hospitals.ensures.hospitals) at c.group_name-name.ensures))

pub returns : goal.returns
returns c =
    rw (← c.self.view_is) (title-group (record { roster = c.self.inside.roster; policy = c.self.inside.policy }) c.args.node c.group_name-name.result.now
    (rw (c.len.ensures.count, c.hospitals-hospitals.ensures.hospitals) at c.if-node-len.false)
    (rw (c.len-2.ensures.count, c.hospitals-hospitals.ensures.hospitals, c.prefecture_entries.ensures.entries) at c.if-group-prefecture_entries.false)
    (rw (c.len-2.ensures.count, c.hospitals-hospitals.ensures.hospitals) at c.group_name-name.ensures))
