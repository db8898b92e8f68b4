use Rattle.std.proofs.Common.{◌<◌, ℕ, IsTrue, arith, subst}
use Rattle.std.specs.List.{list_any}
use Rattle.rm_sets.proofs.Members.{All-from_members, place_from_IsIn}
use Rattle.rm_market.specs.Board.{contract_count}
use Rattle.rm_market.specs.Flexible.{is_seat_of}
use Rattle.rm_replay.proofs.tests.picks.are_applicants.Goals as goal

pub returns : goal.returns
returns c = λ _.
    let b = c.args.board.now in
    let X = c.args.contracts.now in
    let inv = c.loop-i.invariant in
    record {
      set = record {
        ascending = λ k lt. inv.ascending k (omega arith);
        below = λ x i.
            let p = place_from_IsIn X x 0 i in
            let lt : p.0 < c.loop-i.i = (let within = p.1 in omega arith) in
            subst (λ (y : ℕ). y < contract_count b) p.2 (inv.below p.0 lt);
      };
      inside = All-from_members (λ x. IsTrue (list_any (is_seat_of b x) c.args.region.now.seats)) X
          (λ x i.
          let p = place_from_IsIn X x 0 i in
          let lt : p.0 < c.loop-i.i = (let within = p.1 in omega arith) in
          subst (λ (y : ℕ). IsTrue (list_any (is_seat_of b y) c.args.region.now.seats)) p.2 (inv.inside p.0 lt));
    }
