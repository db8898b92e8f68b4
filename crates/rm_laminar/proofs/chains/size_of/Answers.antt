use Rattle.std.proofs.Common.{◌∙◌, refl}
use Rattle.rm_laminar.specs.Chains.{chain_lists}
use Rattle.rm_laminar.proofs.Trees.{set-hospital}
use Rattle.rm_laminar.proofs.Members.{size-group}
use Rattle.rm_laminar.proofs.chains.size_of.Goals as goal

pub returns-then-node-hospitals : goal.returns-then-node-hospitals
returns-then-node-hospitals c = rw (set-hospital c.args.hospitals (chain_lists c.args.groups.now) c.args.node c.if-node-hospitals.true) refl

pub returns : goal.returns
returns c =
    c.len.ensures ∙ c.index-groups-node.result.ok.0
    ∙ size-group c.args.hospitals c.args.groups.now c.args.node c.index-groups-node.result c.if-node-hospitals.false c.requires c.index-groups-node.is
