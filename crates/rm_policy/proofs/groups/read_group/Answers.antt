use Rattle.std.proofs.Common.{◌≡◌, ◌∙◌, ◌+◌, ℕ, length, ap}
use Rattle.toml.specs.View.{view}
use Rattle.rm_base.specs.Checks.{first_of}
use Rattle.rm_base.proofs.Stopping.{stops-on}
use Rattle.rm_policy.specs.Entries.{name_of_entry}
use Rattle.rm_policy.specs.Groups.{group_element_checks, group_entry_checks, groups_named, hospitals_named, prefectures_named}
use Rattle.rm_policy.specs.Steps.{runs_in, step_checks}
use Rattle.rm_policy.proofs.EntryLemmas.{group-second, group-third, group-last, name-repeated, name-new}
use Rattle.rm_policy.proofs.groups.read_group.Goals as goal

pub returns-in-Some-clause-entry : goal.returns-in-Some-clause-entry
returns-in-Some-clause-entry c =
    let names = c.args.names.now in
    let d = view c.args.value.now in
    let i = c.args.first + c.len.result + 1 in
    let e : i ≡ c.args.first + length names + 1 = ap (λ (n : ℕ). c.args.first + n + 1) c.len.ensures.count in
    let s = c.in-Ok.ensures.shape in
    group-second c.args.roster.now c.args.first names d i c.refused.result e s.0
    (name-repeated c.args.first names i c.in-Some.former (name_of_entry d) c.refused.result (rw s.1 at c.in-Some.ensures) c.refused.ensures)

pub returns-in-Err-read_elements-clause-entry : goal.returns-in-Err-read_elements-clause-entry
returns-in-Err-read_elements-clause-entry c =
    let r = c.args.roster.now in
    let names = c.args.names.now in
    let d = view c.args.value.now in
    let i = c.args.first + c.len.result + 1 in
    let e : i ≡ c.args.first + length names + 1 = ap (λ (n : ℕ). c.args.first + n + 1) c.len.ensures.count in
    let s = c.in-Ok.ensures.shape in
    let new = name-new c.args.first names i (name_of_entry d) (rw s.1 at c.in_default.ensures) in
    stops-on (first_of (group_element_checks r names i (hospitals_named d) (prefectures_named d) (groups_named d))) (first_of (group_entry_checks r c.args.first names d)) c.in-Err-read_elements.fault
    (λ refusal some. group-third r c.args.first names d i refusal e s.0 new some) (rw (s.5, s.6, s.7) at c.in-Err-read_elements.ensures)

pub returns-in-Err-read_limit-clause-entry : goal.returns-in-Err-read_limit-clause-entry
returns-in-Err-read_limit-clause-entry c =
    let r = c.args.roster.now in
    let names = c.args.names.now in
    let d = view c.args.value.now in
    let i = c.args.first + c.len.result + 1 in
    let e : i ≡ c.args.first + length names + 1 = ap (λ (n : ℕ). c.args.first + n + 1) c.len.ensures.count in
    let s = c.in-Ok.ensures.shape in
    let new = name-new c.args.first names i (name_of_entry d) (rw s.1 at c.in_default.ensures) in
    let a = rw (s.5, s.6, s.7) at c.in-Ok-read_elements.ensures in
    stops-on (first_of (step_checks i (runs_in d))) (first_of (group_entry_checks r c.args.first names d)) c.in-Err-read_limit.fault
    (λ refusal some. group-last r c.args.first names d i e s.0 new a.0 ∙ some) (rw s.2 at c.in-Err-read_limit.ensures)

pub returns-clause-entry : goal.returns-clause-entry
returns-clause-entry c =
    let r = c.args.roster.now in
    let names = c.args.names.now in
    let d = view c.args.value.now in
    let i = c.args.first + c.len.result + 1 in
    let e : i ≡ c.args.first + length names + 1 = ap (λ (n : ℕ). c.args.first + n + 1) c.len.ensures.count in
    let s = c.in-Ok.ensures.shape in
    let new = name-new c.args.first names i (name_of_entry d) (rw s.1 at c.in_default.ensures) in
    let a = rw (s.5, s.6, s.7) at c.in-Ok-read_elements.ensures in
    let l = rw s.2 at c.in-Ok-read_limit.ensures in
    (group-last r c.args.first names d i e s.0 new a.0 ∙ l.0, s.1, a.1, a.2, a.3, l.1 ∙ s.3, c.is_cap.ensures ∙ s.8)
