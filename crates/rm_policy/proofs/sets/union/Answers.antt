use Rattle.std.proofs.Common.{◌≡◌, ◌∙◌, ◌||◌, ℕ, Bool, ap, length}
use Rattle.rm_sets.specs.Sets.{all_below, has}
use Rattle.rm_policy.specs.Groups.{by_prefecture, each_set, lies_in}
use Rattle.rm_policy.proofs.SetLemmas.{gathered-union}
use Rattle.rm_policy.proofs.sets.union.Goals as goal

pub returns : goal.returns
returns c =
    let count : c.len-count.result ≡ length c.args.roster.now.hospitals = c.len-count.ensures.count ∙ ap length c.hospitals.ensures.hospitals in
    let one : ℕ → Bool = λ h. has h c.args.hospitals.now in
    let two : ℕ → Bool = λ h. lies_in h (by_prefecture c.args.roster.now) c.args.prefectures.now in
    let three : ℕ → Bool = λ h. lies_in h (each_set c.args.sets.now) c.args.groups.now in
    gathered-union c.len-count.result c.gather.new.numbers.items c.gather_prefectures.new.numbers.items c.gather_sets.new.numbers.items c.settle.new.numbers.items one two three
    (rw c.new-members.ensures.items at c.in_ok-gather.ensures.members) c.in_ok-gather_prefectures.ensures.members c.in_ok-gather_sets.ensures.members c.settle.ensures.set c.settle.ensures.same
    ∙ ap (λ (n : ℕ). all_below n (λ h. one h || two h || three h)) count
