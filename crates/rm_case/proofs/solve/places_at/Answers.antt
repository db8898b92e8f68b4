use Rattle.std.proofs.Common.{◌≡◌, ◌∙◌, ap, sym, take, arith, add-one, length-set, option_map}
use Rattle.std.proofs.Math.Seq.{take-length}
use Rattle.rm_market.specs.Board.{hospital_of}
use Rattle.rm_market.specs.Stable.{at}
use Rattle.rm_case.proofs.Solved.{places-more}
use Rattle.rm_case.proofs.solve.places_at.Goals as goal

pub loop-d-preserved : goal.loop-d-preserved
loop-d-preserved g c =
    let inv = c.loop-d.invariant in
    let lt = c.loop-d-test.true in
    let long = inv.long in
    rw (c.set.ensures, add-one c.loop-d.d) (record {
      long = length-set c.loop-d.places c.loop-d.d c.hospital_at.result ∙ long;
      done = places-more (λ d. option_map (hospital_of c.args.board.now) (at c.args.desk.now.wishes d (g.H.Holder.held c.args.desk.now.holder))) c.loop-d.d c.loop-d.places c.hospital_at.result inv.done (omega (arith, lt, long)) c.hospital_at.ensures;
    })

pub returns : goal.returns
returns g c =
    let inv = c.loop-d.invariant in
    let le = c.loop-d-test.false in
    let end = c.loop-d.auto.d-end in
    let e : c.loop-d.d ≡ c.args.doctors = omega (arith, le, end) in
    sym (take-length c.loop-d.places) ∙ ap (λ n. take n c.loop-d.places) (inv.long ∙ sym e) ∙ rw (sym (e ∙ c.requires.doctors)) inv.done
