use Rattle.std.proofs.Common.{◌≡◌, ℕ, get_or, cond, ◌∙◌, subst}
use Rattle.rm_flexible.specs.Counts.{has_hospital}
use Rattle.rm_flexible.proofs.Together.{region_is, clear_more}
use Rattle.rm_flexible.proofs.choosing.clear_all.Goals as goal

pub loop-i-preserved : goal.loop-i-preserved
loop-i-preserved c =
    let region = region_is c.args.regions.now c.loop-i.i c.index-regions-i.result c.loop-i-test.true c.index-regions-i.is in
    record {
      long = c.clear.ensures.length ∙ c.loop-i.invariant.long;
      clear = clear_more c.args.regions.now c.loop-i.i c.loop-i.counts c.clear.new.counts c.loop-i.invariant.clear
          (subst (λ r. (h : ℕ) → get_or c.clear.new.counts h 0 ≡ cond (has_hospital r h) 0 (get_or c.loop-i.counts h 0)) region c.clear.ensures.none);
    }
