use Rattle.std.proofs.Common.{◌∙◌, refl}
use Rattle.rm_laminar.specs.Chains.{chain_lists}
use Rattle.rm_laminar.proofs.ListOfLists.{lists-length}
use Rattle.rm_laminar.proofs.Told.{kept, kept-firsts, groups-are}
use Rattle.rm_laminar.proofs.Tree.build.Goals as goal

pub chains_of-requires : goal.chains_of-requires
chains_of-requires c = groups-are c.args.hospitals c.args.groups.now c.requires.few_hospitals c.requires.few_groups c.requires.sets

pub children_of-requires-clause-chains : goal.children_of-requires-clause-chains
children_of-requires-clause-chains c =
    let built = c.in_ok-chains.ensures.1 in
    rw built.each_hospital built

pub children_of-requires-clause-groups : goal.children_of-requires-clause-groups
children_of-requires-clause-groups c = rw c.in_ok-chains.ensures.1.each_hospital (groups-are c.args.hospitals c.args.groups.now c.requires.few_hospitals c.requires.few_groups c.requires.sets)

pub children_of-requires-clause-nodes : goal.children_of-requires-clause-nodes
children_of-requires-clause-nodes c =
    let built = c.in_ok-chains.ensures.1 in
    let first = kept-firsts c.args.hospitals (chain_lists c.args.groups.now) c.in_ok-chains.chains c.in-Ok.firsts.items (groups-are c.args.hospitals c.args.groups.now c.requires.few_hospitals c.requires.few_groups c.requires.sets) built c.in-Ok.ensures in
    rw (c.deref.ensures.value, built.each_hospital, first.0, lists-length) refl

pub children_of-requires-clause-firsts : goal.children_of-requires-clause-firsts
children_of-requires-clause-firsts c =
    let built = c.in_ok-chains.ensures.1 in
    let first = kept-firsts c.args.hospitals (chain_lists c.args.groups.now) c.in_ok-chains.chains c.in-Ok.firsts.items (groups-are c.args.hospitals c.args.groups.now c.requires.few_hospitals c.requires.few_groups c.requires.sets) built c.in-Ok.ensures in
    rw (c.deref.ensures.value, built.each_hospital) first.1

pub walk_of-requires-clause-chains : goal.walk_of-requires-clause-chains
walk_of-requires-clause-chains c =
    let built = c.in_ok-chains.ensures.1 in
    rw built.each_hospital built

pub walk_of-requires-clause-groups : goal.walk_of-requires-clause-groups
walk_of-requires-clause-groups c = rw c.in_ok-chains.ensures.1.each_hospital (groups-are c.args.hospitals c.args.groups.now c.requires.few_hospitals c.requires.few_groups c.requires.sets)

pub walk_of-requires-clause-nodes : goal.walk_of-requires-clause-nodes
walk_of-requires-clause-nodes c =
    let built = c.in_ok-chains.ensures.1 in
    let first = kept-firsts c.args.hospitals (chain_lists c.args.groups.now) c.in_ok-chains.chains c.in-Ok.firsts.items (groups-are c.args.hospitals c.args.groups.now c.requires.few_hospitals c.requires.few_groups c.requires.sets) built c.in-Ok.ensures in
    rw (c.deref-2.ensures.value, built.each_hospital, first.0, lists-length) refl

pub walk_of-requires-clause-firsts : goal.walk_of-requires-clause-firsts
walk_of-requires-clause-firsts c =
    let built = c.in_ok-chains.ensures.1 in
    let first = kept-firsts c.args.hospitals (chain_lists c.args.groups.now) c.in_ok-chains.chains c.in-Ok.firsts.items (groups-are c.args.hospitals c.args.groups.now c.requires.few_hospitals c.requires.few_groups c.requires.sets) built c.in-Ok.ensures in
    rw (c.deref-2.ensures.value, built.each_hospital) first.1

pub members_of-requires-clause-chains : goal.members_of-requires-clause-chains
members_of-requires-clause-chains c =
    let built = c.in_ok-chains.ensures.1 in
    rw built.each_hospital built

pub members_of-requires-clause-groups : goal.members_of-requires-clause-groups
members_of-requires-clause-groups c = rw c.in_ok-chains.ensures.1.each_hospital (groups-are c.args.hospitals c.args.groups.now c.requires.few_hospitals c.requires.few_groups c.requires.sets)

pub members_of-requires-clause-walk : goal.members_of-requires-clause-walk
members_of-requires-clause-walk c = c.deref-3.ensures.value ∙ c.in-Ok-walk_of.ensures.nodes_are

pub packed_tree-requires-clause-kept : goal.packed_tree-requires-clause-kept
packed_tree-requires-clause-kept c =
    (kept c.args.hospitals (chain_lists c.args.groups.now) c.in_ok-chains.chains c.in-Ok.firsts.items (groups-are c.args.hospitals c.args.groups.now c.requires.few_hospitals c.requires.few_groups c.requires.sets) c.in_ok-chains.ensures.1 c.in-Ok.ensures).1

pub packed_tree-requires-clause-children : goal.packed_tree-requires-clause-children
packed_tree-requires-clause-children c =
    let k = kept c.args.hospitals (chain_lists c.args.groups.now) c.in_ok-chains.chains c.in-Ok.firsts.items (groups-are c.args.hospitals c.args.groups.now c.requires.few_hospitals c.requires.few_groups c.requires.sets) c.in_ok-chains.ensures.1 c.in-Ok.ensures in
    let told_children = rw c.in_ok-chains.ensures.1.each_hospital at c.in-Ok-children_of.ensures in
    rw k.0 told_children

pub packed_tree-requires-clause-members : goal.packed_tree-requires-clause-members
packed_tree-requires-clause-members c =
    let k = kept c.args.hospitals (chain_lists c.args.groups.now) c.in_ok-chains.chains c.in-Ok.firsts.items (groups-are c.args.hospitals c.args.groups.now c.requires.few_hospitals c.requires.few_groups c.requires.sets) c.in_ok-chains.ensures.1 c.in-Ok.ensures in
    let told_members = rw c.in_ok-chains.ensures.1.each_hospital at c.in-Ok-members_of.ensures in
    rw k.0 told_members

pub packed_tree-requires-clause-walk : goal.packed_tree-requires-clause-walk
packed_tree-requires-clause-walk c =
    let k = kept c.args.hospitals (chain_lists c.args.groups.now) c.in_ok-chains.chains c.in-Ok.firsts.items (groups-are c.args.hospitals c.args.groups.now c.requires.few_hospitals c.requires.few_groups c.requires.sets) c.in_ok-chains.ensures.1 c.in-Ok.ensures in
    let told_walk = rw c.in_ok-chains.ensures.1.each_hospital at c.in-Ok-walk_of.ensures in
    rw k.0 told_walk

pub returns : goal.returns
returns c = (
  c.in_ok-chains.ensures.0,
  c.in-Ok-packed_tree.ensures
      ∙ (kept c.args.hospitals (chain_lists c.args.groups.now) c.in_ok-chains.chains c.in-Ok.firsts.items (groups-are c.args.hospitals c.args.groups.now c.requires.few_hospitals c.requires.few_groups c.requires.sets) c.in_ok-chains.ensures.1 c.in-Ok.ensures).0,
)
