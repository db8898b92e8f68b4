use Rattle.std.proofs.Common.{◌≡◌, ◌∙◌, ℕ, List, length, refl, arith}
use Rattle.std.proofs.lemmas.List.{get_or_read}
use Rattle.rm_market.specs.Tree.{sets_of_tree}
use Rattle.rm_laminar.specs.Tree.{told}
use Rattle.rm_laminar.proofs.Spans.{length-walk}
use Rattle.rm_laminar.proofs.Tree.node_at.Goals as goal

pub index-requires : goal.index-requires
index-requires c =
    let lt = rw (← c.self.view_is) at c.requires in
    let sets : List (List ℕ) = sets_of_tree (told (length c.self.inside.firsts.items) c.self.inside.chains) in
    let long : length c.self.inside.walk.nodes.items ≡ length sets = rw c.self.invariant.3.nodes_are (length-walk sets) in
    omega (arith, lt, long, c.self.inside.walk.nodes.ok.0)

pub returns : goal.returns
returns c =
    let lt = rw (← c.self.view_is) at c.requires in
    let sets : List (List ℕ) = sets_of_tree (told (length c.self.inside.firsts.items) c.self.inside.chains) in
    let long : length c.self.inside.walk.nodes.items ≡ length sets = rw c.self.invariant.3.nodes_are (length-walk sets) in
    get_or_read c.self.inside.walk.nodes.items c.args.position c.index.result.now (omega (arith, lt, long)) c.index.ensures 0 ∙ rw (c.self.invariant.3.nodes_are, ← c.self.view_is) refl
