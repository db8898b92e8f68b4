use Rattle.std.proofs.Common.{◌∙◌, arith}
use Rattle.rm_market_laws.proofs.Wishes.{are_wishes, listed_long}
use Rattle.rm_case.specs.Case.{market}
use Rattle.rm_replay.proofs.play_regions.Goals as goal

pub play-requires-clause-wishes : goal.play-requires-clause-wishes
play-requires-clause-wishes c =
    rw (c.board-board.ensures.board, c.listed.ensures.listed) (are_wishes (market c.args.case.now) c.listed.ensures.case.market)

pub play-requires-clause-doctors : goal.play-requires-clause-doctors
play-requires-clause-doctors c k d lt =
    let case = c.listed.ensures.case in
    let long = listed_long (market c.args.case.now) case.market ∙ case.roster.list_each in
    rw c.listed.ensures.listed (omega (arith, c.requires.doctors k d lt, long))
