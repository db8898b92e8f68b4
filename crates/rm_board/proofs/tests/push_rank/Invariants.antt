use Rattle.std.proofs.Common.{◌≡◌, length}
use Rattle.std.specs.Prelude.{IsSome}
use Rattle.rm_board.proofs.tests.push_rank.Given as goal

abbrev pub invariant-loop-i : goal.invariant-loop-i
invariant-loop-i l = record {
  begun : IsSome l.builder.at;
  items : l.builder.items ≡ 3;
  two : length l.builder.lists ≡ 2;
  limit : l.builder.limit ≡ 10;
}
