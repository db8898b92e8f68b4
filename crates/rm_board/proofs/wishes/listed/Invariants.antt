use Rattle.std.proofs.Common.{◌≡◌, take}
use Rattle.rm_market.specs.Market.{listed_of}
use Rattle.rm_board.proofs.wishes.listed.Given as goal

abbrev pub invariant-loop-d : goal.invariant-loop-d
invariant-loop-d l = l.listed ≡ listed_of l.contracts (take l.d l.lists)
