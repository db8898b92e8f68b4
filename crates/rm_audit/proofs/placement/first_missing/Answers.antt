use Rattle.std.proofs.Common.{◌≡◌, true, get_or, length, None, sym, arith, ⊎_elim}
use Rattle.std.specs.Option.{is_none}
use Rattle.std.proofs.lemmas.Bool.{cases_lt}
use Rattle.rm_sets.specs.Sets.{below}
use Rattle.rm_sets.proofs.Sets.{not_both, IsSet-all_below, below-all_below}
use Rattle.rm_sets.proofs.Members.{IsIn-all_below}
use Rattle.rm_verdict_laws.proofs.First.{none_found, least_found}
use Rattle.rm_audit.proofs.placement.first_missing.Goals as goal

pub returns-then-is_none : goal.returns-then-is_none
returns-then-is_none c =
    let n = length c.args.rows.now in
    let there : is_none (get_or c.args.rows.now c.loop-d.d None) ≡ true = rw (c.is_none.ensures, c.if-is_none.true) cc in
    sym (least_found (λ d. is_none (get_or c.args.rows.now d None)) (below n) c.loop-d.d (IsSet-all_below n (λ k. true)) (record {
      member = IsIn-all_below n (λ k. true) c.loop-d.d c.loop-d-test.true cc;
      passes = there;
      least = λ e i t. ⊎_elim (λ lt. absurd (not_both (is_none (get_or c.args.rows.now e None)) t (c.loop-d.invariant e lt))) (λ ge. ge) (cases_lt e c.loop-d.d);
    }))

pub returns : goal.returns
returns c =
    let n = length c.args.rows.now in
    sym (none_found (λ d. is_none (get_or c.args.rows.now d None)) (below n) (λ e i.
    let low = (below-all_below n (λ k. true) e i).0 in
    let end = c.loop-d-test.false in
    c.loop-d.invariant e (omega arith)))
