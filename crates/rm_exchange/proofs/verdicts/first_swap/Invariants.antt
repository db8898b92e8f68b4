use Rattle.std.proofs.Common.{◌≡◌, ◌≤◌, length, take}
use Rattle.rm_market.specs.Best.{values_of}
use Rattle.rm_valuation.specs.Counts.{AreCounts}
use Rattle.rm_exchange.specs.Swaps.{IsFirstSwap}
use Rattle.rm_exchange.proofs.verdicts.first_swap.Given as goal

abbrev pub invariant-loop-i : goal.invariant-loop-i
invariant-loop-i l = record {
  nodes : length l.counts ≡ length l.initial.counts;
  counts : AreCounts l.board l.chosen l.counts;
  end : l.end ≤ length l.refused;
  first : IsFirstSwap (values_of l.board) l.chosen l.refused (take l.i l.chosen) l.end l.swap;
}
