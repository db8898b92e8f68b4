use Rattle.std.proofs.Common.{◌≡◌, ◌∙◌, ◌+◌, length, map, sym}
use Rattle.std.proofs.lemmas.List.{length-map}
use Rattle.toml.specs.View.{view}
use Rattle.rm_base.specs.Checks.{checks_of}
use Rattle.rm_roster.specs.Roster.{RosterData}
use Rattle.rm_policy.specs.Groups.{group_checks_after}
use Rattle.rm_policy.specs.Hospitals.{hospital_entry_checks_after}
use Rattle.rm_policy.specs.Prefectures.{prefecture_checks_after}
use Rattle.rm_policy.specs.declared.top.Top.{Top}
use Rattle.rm_policy.proofs.EntryLemmas.{Blocks, stops-first, stops-second, stops-third, three-third}
use Rattle.rm_policy.proofs.policy.read_entries.Goals as goal

abbrev blocks : RosterData → Top → Blocks
blocks r top =
    record {
      one = checks_of (prefecture_checks_after r top.kind) (map view top.prefectures.now);
      two = checks_of (group_checks_after r (length (map view top.prefectures.now))) (map view top.groups.now);
      three = checks_of (hospital_entry_checks_after r (length (map view top.prefectures.now) + length (map view top.groups.now))) (map view top.hospitals.now);
    }

pub returns-in-Err-clause-entries : goal.returns-in-Err-clause-entries
returns-in-Err-clause-entries c = stops-first (blocks c.args.roster.now c.args.top.now) c.in-Err.fault c.in-Err.ensures.entries

pub returns-in-Err-read-clause-entries : goal.returns-in-Err-read-clause-entries
returns-in-Err-read-clause-entries c =
    let count : length c.args.top.now.prefectures.now ≡ length (map view c.args.top.now.prefectures.now) = sym (length-map c.args.top.now.prefectures.now view) in
    stops-second (blocks c.args.roster.now c.args.top.now) c.in-Err-read.fault c.in-Ok.ensures.entries.0 (rw count at c.in-Err-read.ensures.entries)

pub returns-in-Err-read-2-clause-entries : goal.returns-in-Err-read-2-clause-entries
returns-in-Err-read-2-clause-entries c =
    let count : length c.args.top.now.prefectures.now ≡ length (map view c.args.top.now.prefectures.now) = sym (length-map c.args.top.now.prefectures.now view) in
    let more : length c.args.top.now.groups.now ≡ length (map view c.args.top.now.groups.now) = sym (length-map c.args.top.now.groups.now view) in
    let second = rw count at c.in-Ok-read.ensures.entries in
    stops-third (blocks c.args.roster.now c.args.top.now) c.in-Err-read-2.fault c.in-Ok.ensures.entries.0 second.0 (rw (count, more) at c.in-Err-read-2.ensures)

pub returns-in-Ok-read-2-clause-entries : goal.returns-in-Ok-read-2-clause-entries
returns-in-Ok-read-2-clause-entries c =
    let count : length c.args.top.now.prefectures.now ≡ length (map view c.args.top.now.prefectures.now) = sym (length-map c.args.top.now.prefectures.now view) in
    let more : length c.args.top.now.groups.now ≡ length (map view c.args.top.now.groups.now) = sym (length-map c.args.top.now.groups.now view) in
    let first = c.in-Ok.ensures.entries in
    let second = rw count at c.in-Ok-read.ensures.entries in
    let third = rw (count, more) at c.in-Ok-read-2.ensures in
    let b = blocks c.args.roster.now c.args.top.now in
    (three-third b.one b.two b.three first.0 second.0 ∙ third.0, first.1, second.1, third.1)
