use Rattle.std.proofs.Common.{◌==◌, length, get_or}
use Rattle.rm_sets.proofs.Sets.{IsSet-all_below}
use Rattle.rm_market.specs.Board.{owners_of_ranks}
use Rattle.rm_board.proofs.Numbering.{found, found-within}
use Rattle.rm_board.proofs.contracts.Contracts.find.Goals as goal

pub first_within-requires : goal.first_within-requires
first_within-requires c = rw c.of_doctor.ensures (IsSet-all_below (length (owners_of_ranks c.args.self.now)) (λ x. get_or (owners_of_ranks c.args.self.now) x 0 == c.args.d))

pub returns-clause-number : goal.returns-clause-number
returns-clause-number c =
    let first = rw c.of_doctor.ensures at c.first_within.ensures in
    found c.args.self.now c.args.d c.args.h _ _ c.requires c.start-start.ensures.start c.start-end.ensures.start c.first_within.result first

pub returns-clause-below : goal.returns-clause-below
returns-clause-below c =
    let first = rw c.of_doctor.ensures at c.first_within.ensures in
    found-within c.args.self.now c.args.d c.args.h _ _ c.requires c.start-start.ensures.start c.start-end.ensures.start c.first_within.result first c.start-end.ensures.few
