use Rattle.std.proofs.Common.{◌≡◌, get_or, length, take, false, []}
use Rattle.std.specs.Prelude.{nat_le}
use Rattle.std.specs.List.{list_any}
use Rattle.rm_laminar.proofs.chains.is_deep.Given as goal

abbrev pub invariant-loop-i : goal.invariant-loop-i
invariant-loop-i l = list_any (λ h. nat_le 32 (length (get_or l.chains h []))) (take l.i l.group) ≡ false
