use Rattle.std.proofs.Common.{◌≡◌, ℕ, length, get_or, take, eqb, cond}
use Rattle.std.specs.List.{list_any}
use Rattle.rm_flexible.proofs.offers.clear.Given as goal

abbrev pub invariant-loop-i : goal.invariant-loop-i
invariant-loop-i l = record {
  long : length l.counts ≡ length l.initial.counts;
  none : (h : ℕ) → get_or l.counts h 0 ≡ cond (list_any (λ s. eqb s.hospital h) (take l.i l.seats)) 0 (get_or l.initial.counts h 0);
}
