use Rattle.std.proofs.Common.{◌≡◌, length}
use Rattle.rm_policy.specs.Answers.{AreMarks}
use Rattle.rm_policy.specs.Prefectures.{order_element_checks}
use Rattle.rm_policy.proofs.ElementLemmas.{AreNamed}
use Rattle.rm_policy.proofs.elements.read_order_elements.Given as goal

abbrev pub invariant-loop-j : goal.invariant-loop-j
invariant-loop-j l =
    AreNamed (order_element_checks l.roster l.item l.p) l.roster.hospitals l.values l.j l.order.items × AreMarks l.named l.order.items × (length l.named ≡ length l.roster.hospitals)
