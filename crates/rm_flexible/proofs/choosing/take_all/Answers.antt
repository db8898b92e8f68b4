use Rattle.std.proofs.Common.{◌≡◌, ℕ, List, [], false, get_or, ◌∙◌, refl, subst, arith}
use Rattle.rm_market.specs.Board.{contract_count}
use Rattle.rm_market.specs.Flexible.{kept}
use Rattle.rm_flexible.specs.Counts.{IsOffered, AreLeft, has_hospital}
use Rattle.rm_flexible.proofs.Together.{region_is, part_more}
use Rattle.rm_flexible.proofs.choosing.take_all.Goals as goal

pub loop-i-init : goal.loop-i-init
loop-i-init c = record {
  long = refl;
  part = λ b X ok sX counted. record { kept = λ k lt. absurd (omega (arith, lt)); rest = λ k le lt. counted k lt };
}

pub loop-i-preserved : goal.loop-i-preserved
loop-i-preserved c =
    let region = region_is c.args.regions.now c.loop-i.i c.index-regions-i.result c.loop-i-test.true c.index-regions-i.is in
    record {
      long = c.take_kept.ensures.length ∙ c.loop-i.invariant.long;
      part = λ b X ok sX counted.
          part_more b (contract_count b) c.args.regions.now ok X sX c.loop-i.i c.loop-i.counts c.take_kept.new.counts (c.loop-i.invariant.part b X ok sX counted) c.loop-i-test.true
          (subst (λ r. (h : ℕ) → has_hospital r h ≡ false → get_or c.take_kept.new.counts h 0 ≡ get_or c.loop-i.counts h 0) region c.take_kept.ensures.others)
          (subst (λ r. (Y : List ℕ) → IsOffered b r Y → AreLeft b r Y [] c.loop-i.counts → AreLeft b r Y (kept b r Y) c.take_kept.new.counts) region (c.take_kept.ensures.kept b));
    }

pub returns-clause-kept : goal.returns-clause-kept
returns-clause-kept c = λ b X ok sX counted i lt.
    (c.loop-i.invariant.part b X ok sX counted).kept i (let past = c.loop-i-test.false in omega (arith, past, lt)) lt
