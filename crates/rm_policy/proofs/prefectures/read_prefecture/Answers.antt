use Rattle.std.proofs.Common.{◌≡◌, ◌∙◌, ◌+◌, ℕ, length, ap}
use Rattle.std.specs.Str.{bytes_eq}
use Rattle.toml.specs.View.{view}
use Rattle.rm_base.specs.Checks.{first_of}
use Rattle.rm_base.proofs.Stopping.{stops-on}
use Rattle.rm_roster.specs.Roster.{hospitals_in}
use Rattle.rm_policy.specs.Entries.{read_at}
use Rattle.rm_policy.specs.Prefectures.{order_checks, prefecture_checks}
use Rattle.rm_policy.specs.Values.{texts}
use Rattle.rm_policy.specs.declared.keys.Key.TheVariants as key
use Rattle.rm_policy.proofs.ElementLemmas.{place_lt}
use Rattle.rm_policy.proofs.SetLemmas.{hospital-low, hospitals-few}
use Rattle.rm_policy.proofs.EntryLemmas.{prefecture-order-stops, prefecture-last, targets-stop, targets-pass}
use Rattle.rm_policy.proofs.prefectures.read_prefecture.Goals as goal

pub returns-in-Err-optional_order-clause-entry : goal.returns-in-Err-optional_order-clause-entry
returns-in-Err-optional_order-clause-entry c =
    let r = c.args.roster.now in
    let names = c.args.names.now in
    let d = view c.args.value.now in
    let s = c.in-Ok.ensures.shape in
    let e : c.len.result + 1 ≡ length names + 1 = ap (λ (n : ℕ). n + 1) c.len.ensures.count in
    let f = rw s.1 at c.in-Ok-find_prefecture.ensures in
    stops-on (first_of (order_checks r (c.len.result + 1) c.in-Ok-find_prefecture.p (read_at texts key.Order d))) (first_of (prefecture_checks r c.args.kind names d)) c.in-Err-optional_order.fault
    (λ refusal some. prefecture-order-stops r c.args.kind names d (c.len.result + 1) c.in-Ok-find_prefecture.p refusal e s.0 f.0 f.1 some) (rw s.3 at c.in-Err-optional_order.ensures)

pub returns-in-Some-clause-entry : goal.returns-in-Some-clause-entry
returns-in-Some-clause-entry c =
    let r = c.args.roster.now in
    let names = c.args.names.now in
    let d = view c.args.value.now in
    let p = c.in-Ok-find_prefecture.p in
    let s = c.in-Ok.ensures.shape in
    let e : c.len.result + 1 ≡ length names + 1 = ap (λ (n : ℕ). n + 1) c.len.ensures.count in
    let f = rw s.1 at c.in-Ok-find_prefecture.ensures in
    let members : c.in-Ok-to_vec.members.items ≡ hospitals_in r p = c.in-Ok-to_vec.ensures.items_if_clones_equal (λ y x e. e) ∙ c.hospitals_in.ensures.hospitals in
    let o = rw s.3 at c.in-Ok-optional_order.ensures in
    prefecture-last r c.args.kind names d (c.len.result + 1) p e s.0 f.0 f.1 o.0 ∙ targets-stop r c.args.kind (c.len.result + 1) p _ c.in-Some.targets c.refused.result (rw (s.2, c.deref-2.ensures.value, members) at c.in-Some.ensures) c.refused.ensures

pub returns-clause-entry : goal.returns-clause-entry
returns-clause-entry c =
    let r = c.args.roster.now in
    let names = c.args.names.now in
    let d = view c.args.value.now in
    let p = c.in-Ok-find_prefecture.p in
    let s = c.in-Ok.ensures.shape in
    let e : c.len.result + 1 ≡ length names + 1 = ap (λ (n : ℕ). n + 1) c.len.ensures.count in
    let f = rw s.1 at c.in-Ok-find_prefecture.ensures in
    let members : c.in-Ok-to_vec.members.items ≡ hospitals_in r p = c.in-Ok-to_vec.ensures.items_if_clones_equal (λ y x e. e) ∙ c.hospitals_in.ensures.hospitals in
    let o = rw s.3 at c.in-Ok-optional_order.ensures in (
      prefecture-last r c.args.kind names d (c.len.result + 1) p e s.0 f.0 f.1 o.0 ∙ targets-pass r c.args.kind (c.len.result + 1) p _ (rw (s.2, c.deref-2.ensures.value, members) at c.in_default-targets_above.ensures),
      s.1,
      rw f.1 members,
      s.2,
      o.1,
    )

pub hospitals_in-requires : goal.hospitals_in-requires
hospitals_in-requires c = place_lt (bytes_eq c.in-Ok.shape.name.now) c.args.roster.now.prefectures c.in-Ok-find_prefecture.p c.in-Ok-find_prefecture.ensures.1

pub optional_order-requires : goal.optional_order-requires
optional_order-requires c = c.deref.ensures.value ∙ c.in-Ok-to_vec.ensures.items_if_clones_equal (λ y x e. e) ∙ c.hospitals_in.ensures.hospitals

pub targets_above-requires-clause-within : goal.targets_above-requires-clause-within
targets_above-requires-clause-within c =
    hospital-low c.args.roster.now c.in-Ok-find_prefecture.p c.deref-2.result.now
    (c.deref-2.ensures.value ∙ c.in-Ok-to_vec.ensures.items_if_clones_equal (λ y x e. e) ∙ c.hospitals_in.ensures.hospitals)

pub targets_above-requires-clause-few : goal.targets_above-requires-clause-few
targets_above-requires-clause-few c =
    hospitals-few c.args.roster.now c.in-Ok-find_prefecture.p c.deref-2.result.now c.hospitals_in.ensures.roster
    (c.deref-2.ensures.value ∙ c.in-Ok-to_vec.ensures.items_if_clones_equal (λ y x e. e) ∙ c.hospitals_in.ensures.hospitals)
