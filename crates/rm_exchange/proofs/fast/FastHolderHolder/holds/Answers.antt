use Rattle.std.proofs.Common.{◌∙◌, sym, false, arith}
use Rattle.std.proofs.lemmas.List.{get_or_default}
use Rattle.rm_market.specs.Board.{contract_count}
use Rattle.rm_exchange.proofs.Held.{held_mark}
use Rattle.rm_exchange.proofs.Truncated.{kept_from}
use Rattle.rm_exchange.proofs.fast.FastHolderHolder.holds.Goals as goal

pub returns : goal.returns
returns c =
    let h = c.args.self.now.holding in
    let all = (kept_from c.args.self.now.board.now c.args.self.now.places.items h c.args.self.now.kept).all_marked in
    let lt = c.requires in
    c.index.ensures ∙ (get_or_default h.marks.items c.args.x c.index.result.now false (omega arith) ∙ sym (held_mark (contract_count c.args.self.now.board.now) h.marks.items c.args.x c.requires))
