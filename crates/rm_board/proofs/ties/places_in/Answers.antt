use Rattle.std.proofs.Common.{refl, arith}
use Rattle.rm_board.proofs.Places.{below-count, as-many, place-more, all-placed}
use Rattle.rm_board.proofs.ties.places_in.Goals as goal

pub overflow_cast-place : goal.overflow_cast-place
overflow_cast-place c = omega (arith, as-many _ _ c.requires, c.loop-place-test.true, c.count.ensures.few, c.count.ensures.count)

pub loop-place-preserved : goal.loop-place-preserved
loop-place-preserved c = place-more _ _ c.requires c.loop-place.place _ _ c.loop-place.invariant c.loop-place-test.true refl

pub returns-clause-places : goal.returns-clause-places
returns-clause-places c = all-placed _ _ c.requires _ _ c.loop-place.invariant c.loop-place-test.false

pub index_mut-requires : goal.index_mut-requires
index_mut-requires c = omega (arith, below-count _ _ c.requires c.loop-place.place c.loop-place-test.true, c.loop-place.invariant.wide, c.loop-place.places.ok.0)

pub returns-clause-wide : goal.returns-clause-wide
returns-clause-wide c = c.loop-place.invariant.wide
