use Rattle.std.proofs.Common.{◌∙◌, ◌==◌, ℕ, ap, length, get_or}
use Rattle.rm_sets.specs.Sets.{all_below}
use Rattle.rm_lists.proofs.Grouped.{length-grouped, grouped-at}
use Rattle.rm_roster.proofs.Roster.hospitals_in.Goals as goal

pub list-requires : goal.list-requires
list-requires c =
    let h = c.self.inside.hospitals in
    rw (c.self.invariant.1, length-grouped (length h.prefectures) h.prefecture_of) (rw (← c.self.view_is) at c.requires)

pub returns-clause-hospitals : goal.returns-clause-hospitals
returns-clause-hospitals c =
    let h = c.self.inside.hospitals in
    let own = rw c.self.invariant.1 at c.list.ensures.list in
    rw (← c.self.view_is) (own ∙ grouped-at (length h.prefectures) h.prefecture_of c.args.p (rw (← c.self.view_is) at c.requires)
    ∙ ap (λ (n : ℕ). all_below n (λ x. get_or h.prefecture_of x 0 == c.args.p)) c.self.invariant.0.prefecture_each)
