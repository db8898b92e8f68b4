use Rattle.std.proofs.Common.{rules, refl, sym, ap, take, ◌≡◌, ◌∙◌, ◌+◌, ◌++◌, ◌∷◌, ℕ, Bool, List, [], true, false, not, get_or, length, map, replicate}
use Rattle.std.specs.List.{list_any}
use Rattle.std.proofs.Math.Seq.{take-append_seam}
use Rattle.std.proofs.lemmas.List.{length-map}
use Rattle.toml.specs.View.{view}
use Rattle.rm_base.specs.Checks.{check, first_of, checks_of}
use Rattle.rm_base.specs.declared.codes.TheConstants.{WRONG_ORDER}
use Rattle.rm_base.proofs.CheckLemmas.{first-some}
use Rattle.rm_base.proofs.Stopping.{stops-on}
use Rattle.rm_policy.specs.Answers.{AreMarks}
use Rattle.rm_policy.specs.Entries.{policy_refusal, numbers_of}
use Rattle.rm_roster.specs.Roster.{hospitals_in}
use Rattle.rm_policy.specs.Prefectures.{is_missing, order_element_checks}
use Rattle.rm_policy.proofs.ElementLemmas.{order-ends, missing-marked, marks-none}
use Rattle.rm_policy.proofs.elements.read_order.Goals as goal

pub returns-in-Err : goal.returns-in-Err
returns-in-Err c =
    let r = c.args.roster.now in
    let ds = map view c.args.values.now in
    let elements = checks_of (order_element_checks r c.args.item c.args.p) ds in
    let last = check (is_missing (hospitals_in r c.args.p) (numbers_of r.hospitals ds)) (policy_refusal WRONG_ORDER c.args.item (length ds + 1)) ∷ [] in
    stops-on (first_of elements) (first_of (elements ++ last)) c.in-Err.fault (λ refusal some. first-some elements last refusal some) c.in-Err.ensures.reads

-- whether a hospital is missing, told by the marks
missing-told : (members order : List ℕ) (marks : List Bool) (b : Bool) → AreMarks marks order → b ≡ list_any (λ h. not (get_or marks h false)) members → b ≡ is_missing members order
missing-told members order marks b are told = told ∙ missing-marked members order marks are

-- what is read of the marks once they are written back
missing-read : (members : List ℕ) (marks rest read : List Bool) (b : Bool) (n : ℕ) → b ≡ list_any (λ h. not (get_or read h false)) members
    → read ≡ take n (marks ++ rest) → length marks ≡ n → b ≡ list_any (λ h. not (get_or marks h false)) members
missing-read members marks rest read b n told is long =
    let same : read ≡ marks = is ∙ ap (λ (k : ℕ). take k (marks ++ rest)) (sym long) ∙ take-append_seam marks rest in
    told ∙ ap (λ (ms : List Bool). list_any (λ h. not (get_or ms h false)) members) same

pub returns-then-is_missing : goal.returns-then-is_missing
returns-then-is_missing c =
    let r = c.args.roster.now in
    let told = c.in-Ok-read_order_elements.ensures in
    let yes : c.is_missing.result ≡ true = search rules in
    order-ends (checks_of (order_element_checks r c.args.item c.args.p) (map view c.args.values.now)) (hospitals_in r c.args.p) (numbers_of r.hospitals (map view c.args.values.now)) c.args.members.now c.in-Ok-read_order_elements.order.items c.is_missing.result _
    told.reads.0 c.requires told.reads.1 (missing-told c.args.members.now c.in-Ok-read_order_elements.order.items c.read_order_elements.new.named c.is_missing.result told.marks (missing-read c.args.members.now c.read_order_elements.new.named _ _ c.is_missing.result _ c.is_missing.ensures c.deref.ensures.value (c.read_order_elements.auto.named ∙ c.deref_mut.ensures.len)))
    ∙ rw (yes, c.refused.ensures, length-map c.args.values.now view) refl

pub returns : goal.returns
returns c =
    let r = c.args.roster.now in
    let told = c.in-Ok-read_order_elements.ensures in
    let no : c.is_missing.result ≡ false = search rules in (
      order-ends (checks_of (order_element_checks r c.args.item c.args.p) (map view c.args.values.now)) (hospitals_in r c.args.p) (numbers_of r.hospitals (map view c.args.values.now)) c.args.members.now c.in-Ok-read_order_elements.order.items c.is_missing.result _
          told.reads.0 c.requires told.reads.1 (missing-told c.args.members.now c.in-Ok-read_order_elements.order.items c.read_order_elements.new.named c.is_missing.result told.marks (missing-read c.args.members.now c.read_order_elements.new.named _ _ c.is_missing.result _ c.is_missing.ensures c.deref.ensures.value (c.read_order_elements.auto.named ∙ c.deref_mut.ensures.len)))
          ∙ rw no refl,
      told.reads.1,
    )

pub read_order_elements-requires-clause-none : goal.read_order_elements-requires-clause-none
read_order_elements-requires-clause-none c =
    let marks : c.in-Ok.named.items ≡ replicate c.len.result false = search rules in
    rw (c.deref_mut.ensures.value, marks) (marks-none c.len.result)
