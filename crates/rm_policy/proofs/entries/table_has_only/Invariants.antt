use Rattle.std.proofs.Common.{◌≡◌}
use Rattle.std.specs.List.{list_all}
use Rattle.toml.specs.View.{members_view}
use Rattle.rm_policy.specs.Entries.{is_key_among}
use Rattle.rm_policy.specs.Values.{keys_present}
use Rattle.rm_policy.proofs.entries.table_has_only.Given as goal

abbrev pub invariant-loop-key : goal.invariant-loop-key
invariant-loop-key l =
    (goal.iterator-loop-key).can_next l.key-iterator × (goal.iterator-loop-key).is_finite l.key-iterator
    × (list_all (is_key_among l.known) (keys_present (members_view l.key-iterator)) ≡ list_all (is_key_among l.known) (keys_present (members_view l.table.entries)))
