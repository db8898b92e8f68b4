use Rattle.std.proofs.Common.{◌≡◌, ◌∙◌, ℕ, Option, Some, None, List, refl, sym}
use Rattle.std.specs.Prelude.{slice_get, unwrap_or}
use Rattle.std.proofs.lemmas.Option.{get_or_from_slice_get}
use Rattle.rm_policy.specs.Policy.{PolicyData}
use Rattle.rm_roster.specs.Roster.{RosterData, hospitals_in}
use Rattle.rm_case.specs.Compiled.{entry_of_prefecture, order_of_prefecture}
use Rattle.rm_case.proofs.OrderLemmas.{entry-found, entry_named}
use Rattle.rm_case.proofs.turns.order_of.Goals as goal

without-entry : (r : RosterData) (p : PolicyData) (q : ℕ) → entry_of_prefecture r p q ≡ None → order_of_prefecture r p q ≡ hospitals_in r q
without-entry r p q none = rw none refl

with-entry : (r : RosterData) (p : PolicyData) (q g : ℕ) (o : Option (List ℕ)) → entry_of_prefecture r p q ≡ Some g → slice_get p.orders g ≡ Some o → order_of_prefecture r p q ≡ unwrap_or o (hospitals_in r q)
with-entry r p q g o some at = rw (some, get_or_from_slice_get p.orders g o None at) refl

pub order-requires : goal.order-requires
order-requires c =
    let e = entry-found c.args.roster.now c.args.policy.now c.args.q _ _ _ c.prefectures.ensures.prefectures c.name.ensures.name c.entry.ensures in
    (entry_named c.args.roster.now c.args.policy.now c.args.q c.in-Some.g (e ∙ c.in-Some.is)).0

pub returns-in_default : goal.returns-in_default
returns-in_default c =
    let e = entry-found c.args.roster.now c.args.policy.now c.args.q _ _ _ c.prefectures.ensures.prefectures c.name.ensures.name c.entry.ensures in
    c.hospitals_in-rows.ensures.hospitals ∙ sym (without-entry c.args.roster.now c.args.policy.now c.args.q (e ∙ c.in_default.is))

pub returns-in-Some-order : goal.returns-in-Some-order
returns-in-Some-order c =
    let e = entry-found c.args.roster.now c.args.policy.now c.args.q _ _ _ c.prefectures.ensures.prefectures c.name.ensures.name c.entry.ensures in
    sym (with-entry c.args.roster.now c.args.policy.now c.args.q c.in-Some.g (Some c.in-Some-order.order.now) (e ∙ c.in-Some.is) (rw c.in-Some-order.is at c.order.ensures))

pub returns-in-None : goal.returns-in-None
returns-in-None c =
    let e = entry-found c.args.roster.now c.args.policy.now c.args.q _ _ _ c.prefectures.ensures.prefectures c.name.ensures.name c.entry.ensures in
    c.hospitals_in-rows.ensures.hospitals ∙ sym (with-entry c.args.roster.now c.args.policy.now c.args.q c.in-Some.g None (e ∙ c.in-Some.is) (rw c.in-None.is at c.order.ensures))
