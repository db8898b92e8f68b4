use Rattle.std.proofs.Common.{sym, subst}
use Rattle.rm_exchange.specs.Holding.{IsHolding}
use Rattle.rm_exchange.proofs.Truncated.{kept_from}
use Rattle.rm_exchange.proofs.fast.FastHolderHolder.offer.Goals as goal

pub offer-requires-clause-holding : goal.offer-requires-clause-holding
offer-requires-clause-holding c =
    let h = c.args.self.now in
    subst (λ p. IsHolding h.board.now p h.holding) (sym c.deref.ensures.value) (record { kept = kept_from h.board.now h.places.items h.holding h.kept; settled = h.settled })
