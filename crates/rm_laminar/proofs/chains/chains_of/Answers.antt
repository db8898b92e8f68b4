use Rattle.std.proofs.Common.{◌≡◌, ◌∙◌, ◌<◌, ℕ, List, [], take, get_or, length, Vec, sym, ap}
use Rattle.std.specs.declared.alloc.Global.{Global}
use Rattle.std.specs.List.{take-map}
use Rattle.std.proofs.lemmas.Result.{err_from_is_err_and}
use Rattle.rm_sets.specs.Sets.{IsSetBelow}
use Rattle.rm_base.specs.Checks.{first_of}
use Rattle.rm_market.specs.Tree.{group_checks, tree_fault}
use Rattle.rm_laminar.specs.Chains.{chain_lists, AreHospitalGroups, AreChains}
use Rattle.rm_laminar.proofs.ListOfLists.{list-at, lists-length}
use Rattle.rm_laminar.proofs.Loops.{none-read, one-read, all-read, group-stops, passes-stops, first-groups}
use Rattle.rm_laminar.proofs.chains.chains_of.Goals as goal

first-lists : (groups : List (Vec ℕ Global)) (b : ℕ) → chain_lists (take b groups) ≡ take b (chain_lists groups)
first-lists groups b = sym (take-map (λ (v : Vec ℕ Global). v.items) b groups)

first-chains : (hospitals n b : ℕ) (groups : List (Vec ℕ Global)) (lists : List (List ℕ)) → n ≡ hospitals → AreChains hospitals (take b (chain_lists groups)) lists → AreChains n (chain_lists (take b groups)) lists
first-chains hospitals n b groups lists len c = rw (len, first-lists groups b) c

first-of-groups : (hospitals n b : ℕ) (groups : List (Vec ℕ Global)) → n ≡ hospitals → AreHospitalGroups hospitals (chain_lists groups) → AreHospitalGroups n (chain_lists (take b groups))
first-of-groups hospitals n b groups len g = rw (len, first-lists groups b) (first-groups hospitals (chain_lists groups) b g)

set-at : (hospitals n b : ℕ) (groups : List (Vec ℕ Global)) (group : List ℕ) → n ≡ hospitals → AreHospitalGroups hospitals (chain_lists groups) → b < length groups → get_or (chain_lists groups) b [] ≡ group → IsSetBelow n group
set-at hospitals n b groups group len g lt at = rw (len, ← at) (g.sets b (rw lists-length lt))

pub loop-b-init : goal.loop-b-init
loop-b-init c = none-read c.args.hospitals (chain_lists c.args.groups.now) c.in-Ok.chains c.in-Ok.ensures.len c.in-Ok.ensures.own

pub check_group-requires-clause-chains : goal.check_group-requires-clause-chains
check_group-requires-clause-chains c = first-chains c.args.hospitals (length c.loop-b.chains) c.loop-b.b c.args.groups.now c.loop-b.chains c.loop-b.invariant.chains.each_hospital c.loop-b.invariant.chains

pub check_group-requires-clause-groups : goal.check_group-requires-clause-groups
check_group-requires-clause-groups c = first-of-groups c.args.hospitals (length c.loop-b.chains) c.loop-b.b c.args.groups.now c.loop-b.invariant.chains.each_hospital c.requires

pub check_group-requires-clause-group : goal.check_group-requires-clause-group
check_group-requires-clause-group c =
    let at : get_or (chain_lists c.args.groups.now) c.loop-b.b [] ≡ c.deref-group.result.now = list-at c.args.groups.now c.loop-b.b c.index-groups-b.result c.loop-b-test.true c.index-groups-b.is ∙ sym c.deref-group.ensures.value in
    set-at c.args.hospitals (length c.loop-b.chains) c.loop-b.b c.args.groups.now c.deref-group.result.now c.loop-b.invariant.chains.each_hospital c.requires c.loop-b-test.true at

pub insert_group-requires-clause-chains : goal.insert_group-requires-clause-chains
insert_group-requires-clause-chains c = first-chains c.args.hospitals (length c.loop-b.chains) c.loop-b.b c.args.groups.now c.loop-b.chains c.loop-b.invariant.chains.each_hospital c.loop-b.invariant.chains

pub insert_group-requires-clause-groups : goal.insert_group-requires-clause-groups
insert_group-requires-clause-groups c = first-of-groups c.args.hospitals (length c.loop-b.chains) c.loop-b.b c.args.groups.now c.loop-b.invariant.chains.each_hospital c.requires

pub insert_group-requires-clause-group : goal.insert_group-requires-clause-group
insert_group-requires-clause-group c =
    let at : get_or (chain_lists c.args.groups.now) c.loop-b.b [] ≡ c.deref-group.result.now = list-at c.args.groups.now c.loop-b.b c.index-groups-b.result c.loop-b-test.true c.index-groups-b.is ∙ sym c.deref-group.ensures.value in
    set-at c.args.hospitals (length c.loop-b.chains) c.loop-b.b c.args.groups.now c.deref-group.result.now c.loop-b.invariant.chains.each_hospital c.requires c.loop-b-test.true at

pub returns-in_err-check_group : goal.returns-in_err-check_group
returns-in_err-check_group c =
    let p = err_from_is_err_and c.from_residual.result c.from_residual.ensures.1 in
    let at : get_or (chain_lists c.args.groups.now) c.loop-b.b [] ≡ c.deref-group.result.now = list-at c.args.groups.now c.loop-b.b c.index-groups-b.result c.loop-b-test.true c.index-groups-b.is ∙ sym c.deref-group.ensures.value in
    rw (p.1, p.2) (passes-stops (first_of (group_checks (chain_lists (take c.loop-b.b c.args.groups.now)) c.deref-group.result.now)) (tree_fault (chain_lists c.args.groups.now)) c.args.hospitals (chain_lists c.args.groups.now) c.in_err-check_group.field-0.0
    (λ g some. group-stops c.args.hospitals (chain_lists c.args.groups.now) c.loop-b.chains c.loop-b.b c.deref-group.result.now g c.loop-b.invariant (rw lists-length c.loop-b-test.true) (sym at) (rw first-lists at some))
    c.in_err-check_group.ensures)

pub loop-b-preserved : goal.loop-b-preserved
loop-b-preserved c =
    let at : get_or (chain_lists c.args.groups.now) c.loop-b.b [] ≡ c.deref-group.result.now = list-at c.args.groups.now c.loop-b.b c.index-groups-b.result c.loop-b-test.true c.index-groups-b.is ∙ sym c.deref-group.ensures.value in
    let len : length c.loop-b.chains ≡ c.args.hospitals = c.loop-b.invariant.chains.each_hospital in
    let count : length (take c.loop-b.b c.args.groups.now) ≡ length (take c.loop-b.b (chain_lists c.args.groups.now)) = sym (lists-length (take c.loop-b.b c.args.groups.now)) ∙ ap length (first-lists c.args.groups.now c.loop-b.b) in
    let put = rw (len, first-lists c.args.groups.now c.loop-b.b, count) at c.in-Ok-insert_group.ensures in
    one-read c.args.hospitals (chain_lists c.args.groups.now) c.loop-b.chains c.insert_group.new.chains c.loop-b.b c.deref-group.result.now c.requires c.loop-b.invariant (rw lists-length c.loop-b-test.true) (sym at)
    (rw first-lists at c.in_ok-check_group.ensures) put

pub returns : goal.returns
returns c = all-read c.args.hospitals (chain_lists c.args.groups.now) c.loop-b.chains c.loop-b.b c.loop-b.invariant (rw lists-length c.loop-b-test.false)
