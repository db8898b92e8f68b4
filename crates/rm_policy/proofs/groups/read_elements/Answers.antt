use Rattle.std.proofs.Common.{◌≡◌, ◌∙◌, ◌+◌, ℕ, List, length, map, sym}
use Rattle.std.proofs.lemmas.List.{length-map}
use Rattle.toml.specs.View.{view}
use Rattle.rm_base.specs.Checks.{checks_of}
use Rattle.rm_base.specs.Text.{Text}
use Rattle.rm_roster.specs.Roster.{RosterData}
use Rattle.rm_policy.specs.Entries.{name_checks}
use Rattle.rm_policy.specs.declared.groups.GroupArrays.{GroupArrays}
use Rattle.rm_policy.proofs.EntryLemmas.{Blocks, stops-first, stops-second, stops-third, three-third}
use Rattle.rm_policy.proofs.groups.read_elements.Goals as goal

abbrev blocks : RosterData → List Text → ℕ → GroupArrays → Blocks
blocks r names i a =
    record {
      one = checks_of (name_checks r.hospitals i 0) (map view a.hospitals.now);
      two = checks_of (name_checks r.prefectures i (length (map view a.hospitals.now))) (map view a.prefectures.now);
      three = checks_of (name_checks names i (length (map view a.hospitals.now) + length (map view a.prefectures.now))) (map view a.groups.now);
    }

pub returns-in-Err : goal.returns-in-Err
returns-in-Err c = stops-first (blocks c.args.roster.now c.args.names.now c.args.item c.args.arrays.now) c.in-Err.fault (rw c.hospitals.ensures.hospitals at c.in-Err.ensures)

pub returns-in-Err-read_names : goal.returns-in-Err-read_names
returns-in-Err-read_names c =
    let count : length c.args.arrays.now.hospitals.now ≡ length (map view c.args.arrays.now.hospitals.now) = sym (length-map c.args.arrays.now.hospitals.now view) in
    let first = rw c.hospitals.ensures.hospitals at c.in-Ok.ensures in
    stops-second (blocks c.args.roster.now c.args.names.now c.args.item c.args.arrays.now) c.in-Err-read_names.fault first.0 (rw (c.prefectures.ensures.prefectures, count) at c.in-Err-read_names.ensures)

pub returns-in-Err-read_names-2 : goal.returns-in-Err-read_names-2
returns-in-Err-read_names-2 c =
    let count : length c.args.arrays.now.hospitals.now ≡ length (map view c.args.arrays.now.hospitals.now) = sym (length-map c.args.arrays.now.hospitals.now view) in
    let more : length c.args.arrays.now.prefectures.now ≡ length (map view c.args.arrays.now.prefectures.now) = sym (length-map c.args.arrays.now.prefectures.now view) in
    let first = rw c.hospitals.ensures.hospitals at c.in-Ok.ensures in
    let second = rw (c.prefectures.ensures.prefectures, count) at c.in-Ok-read_names.ensures in
    stops-third (blocks c.args.roster.now c.args.names.now c.args.item c.args.arrays.now) c.in-Err-read_names-2.fault first.0 second.0 (rw (count, more) at c.in-Err-read_names-2.ensures)

pub returns : goal.returns
returns c =
    let count : length c.args.arrays.now.hospitals.now ≡ length (map view c.args.arrays.now.hospitals.now) = sym (length-map c.args.arrays.now.hospitals.now view) in
    let more : length c.args.arrays.now.prefectures.now ≡ length (map view c.args.arrays.now.prefectures.now) = sym (length-map c.args.arrays.now.prefectures.now view) in
    let first = rw c.hospitals.ensures.hospitals at c.in-Ok.ensures in
    let second = rw (c.prefectures.ensures.prefectures, count) at c.in-Ok-read_names.ensures in
    let third = rw (count, more) at c.in-Ok-read_names-2.ensures in
    let b = blocks c.args.roster.now c.args.names.now c.args.item c.args.arrays.now in
    (three-third b.one b.two b.three first.0 second.0 ∙ third.0, first.1, second.1, third.1)
