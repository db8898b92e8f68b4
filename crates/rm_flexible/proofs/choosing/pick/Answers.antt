use Rattle.std.proofs.Common.{IsTrue, get_or, ◌∙◌}
use Rattle.std.specs.List.{list_any}
use Rattle.std.proofs.lemmas.Bool.{cond-true}
use Rattle.rm_sets.proofs.Members.{members_from_All}
use Rattle.rm_market.specs.Board.{hospital_of}
use Rattle.rm_market.specs.Flexible.{is_seat_of}
use Rattle.rm_flexible_laws.specs.Region.{seat_at}
use Rattle.rm_flexible.specs.Counts.{IsOffered, has_hospital}
use Rattle.rm_flexible.proofs.Front.{region_kept}
use Rattle.rm_flexible.proofs.Together.{has_seat, left_first}
use Rattle.rm_flexible.proofs.choosing.pick.Goals as goal

pub count_offers-requires-clause-none : goal.count_offers-requires-clause-none
count_offers-requires-clause-none c = λ x i.
    c.clear.ensures.none (hospital_of c.args.board.now x)
    ∙ cond-true (has_hospital c.args.region.now (hospital_of c.args.board.now x)) 0 (get_or c.args.counts.now (hospital_of c.args.board.now x) 0)
    (members_from_All (λ z. IsTrue (list_any (is_seat_of c.args.board.now z) c.args.region.now.seats)) c.args.applicants.now c.requires.applicants x i)

pub returns-clause-chosen : goal.returns-clause-chosen
returns-clause-chosen c =
    let b = c.args.board.now in
    let r = c.args.region.now in
    let X = c.args.applicants.now in
    let offered : IsOffered b r X = record { set = c.requires.set.ascending; inside = members_from_All (λ z. IsTrue (list_any (is_seat_of b z) r.seats)) X c.requires.applicants } in
    c.write_kept.ensures.written
    ∙ region_kept b r X c.take_kept.new.counts c.count_offers.new.marks c.clear.ensures.lawful offered c.count_offers.ensures.marks
    (c.take_kept.ensures.kept b X offered (left_first b r X c.clear.new.counts c.count_offers.new.counts
    (λ j lj. c.clear.ensures.none (seat_at r j).hospital ∙ cond-true (has_hospital r (seat_at r j).hospital) 0 (get_or c.args.counts.now (seat_at r j).hospital 0) (has_seat r j lj))
    c.count_offers.ensures.counts))
