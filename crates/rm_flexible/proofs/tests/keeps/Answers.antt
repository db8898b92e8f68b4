use Rattle.std.proofs.Common.{◌<◌, IsTrue, subst}
use Rattle.std.specs.List.{list_any}
use Rattle.rm_sets.proofs.Members.{All-from_members}
use Rattle.rm_market.specs.Flexible.{is_seat_of}
use Rattle.rm_flexible.proofs.OneRegion.{of_region}
use Rattle.rm_flexible.proofs.tests.keeps.Goals as goal

pub pick-count-requires-clause-applicants : goal.pick-count-requires-clause-applicants
pick-count-requires-clause-applicants c =
    All-from_members (λ x. IsTrue (list_any (is_seat_of c.args.board.now x) c.args.region.now.seats)) c.args.applicants.now
    (λ x i. of_region c.args.board.now c.args.region.now c.requires.two c.requires.all x
    (subst (λ n. x < n) c.contracts.ensures ((c.is_set.ensures c.if-not-is_set.false).below x i)))
