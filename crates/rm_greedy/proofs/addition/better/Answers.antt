use Rattle.std.proofs.Common.{subst}
use Rattle.rm_sets.proofs.Sets.{not_both}
use Rattle.rm_greedy.specs.Additions.{IsCandidate, IsFirstOf}
use Rattle.rm_greedy.proofs.Firsts.{first_kept, first_at_all, first_replaced, first_stays}
use Rattle.rm_greedy.proofs.addition.better.Goals as goal

pub returns-in_default : goal.returns-in_default
returns-in_default c = λ b S Y x f cand. first_kept b S Y x c.args.best f (subst (IsCandidate b S x) c.in_default.is cand)

pub returns-in_default-best : goal.returns-in_default-best
returns-in_default-best c = λ b S Y x f cand.
    first_at_all b S Y x c.in-Some.after (subst (IsFirstOf b S Y) c.in_default-best.is f) (subst (IsCandidate b S x) c.in-Some.is cand)

pub returns-then-comes_first : goal.returns-then-comes_first
returns-then-comes_first c = λ b S Y x f cand.
    first_replaced b S Y x c.in-Some-best.before c.in-Some.after (subst (IsFirstOf b S Y) c.in-Some-best.is f) (subst (IsCandidate b S x) c.in-Some.is cand) (c.comes_first.ensures.0 c.if-comes_first.true)

pub returns : goal.returns
returns c = λ b S Y x f cand.
    first_stays b S Y x c.in-Some-best.before c.in-Some.after (subst (IsFirstOf b S Y) c.in-Some-best.is f) (subst (IsCandidate b S x) c.in-Some.is cand)
    (λ h. not_both c.comes_first.result (c.comes_first.ensures.1 h) c.if-comes_first.false)
