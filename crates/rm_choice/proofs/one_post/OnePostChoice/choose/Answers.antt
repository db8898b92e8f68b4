use Rattle.std.proofs.Common.{rules, arith, ap, length, length-set, ◌<◌}
use Rattle.rm_choice.proofs.FirstOnly.{room_for_one}
use Rattle.rm_choice.proofs.one_post.OnePostChoice.choose.Goals as goal

pub index_mut-requires : goal.index_mut-requires
index_mut-requires c = room_for_one _ _ _ _ (ap (λ r. r.contracts) c.room.view_is) c.requires.fits.0 _ c.requires.set (search rules)

pub returns-clause-within : goal.returns-clause-within
returns-clause-within c =
    let some : 0 < length c.args.offered.now = search rules in
    let space = room_for_one _ _ _ _ (ap (λ r. r.contracts) c.room.view_is) c.requires.fits.0 _ c.requires.set some in
    let is = c.room.inside.list.ok.0 in
    rw (length-set c.room.inside.list.items 0) (omega (arith, space, is))
