use Rattle.std.proofs.Common.{◌∙◌, ◌+◌, arith, ap, length, sym, subst, subst₂, None}
use Rattle.rm_market.specs.Stable.{Wishes}
use Rattle.rm_matching_laws.proofs.EveryChoice.{lawful}
use Rattle.rm_rounds.specs.Desk.{desk_state}
use Rattle.rm_journal.specs.Owned.{IsOwnSoFar, NobodyElse}
use Rattle.rm_journal.proofs.Owned.{names_below, own_ended, own_start}
use Rattle.rm_journal.proofs.owning.record.Goals as goal

pub loop-d-init : goal.loop-d-init
loop-d-init g c =
    let opened = c.in_ok-desk.ensures in
    record {
      so_far = own_start (g.H.Holder.count c.args.holder) _ _ _ _ (let is = c.contracts.ensures in omega (arith, is)) (g.met.H.Holder.lawful c.args.holder) c.requires.wishes opened.state c.new-entries.ensures.items;
      before = λ d lt ne. absurd (omega (arith, lt));
      wishes = opened.wishes;
      chosen = opened.chosen;
    }

pub follow-requires-clause-doctor : goal.follow-requires-clause-doctor
follow-requires-clause-doctor g c =
    let lt = c.loop-d-test.true in
    let len = c.len-d-end.ensures.len in
    let same = ap (λ (w : Wishes). length w.listed) c.loop-d.invariant.wishes in
    omega (arith, lt, len, same)

pub follow-requires-clause-owners : goal.follow-requires-clause-owners
follow-requires-clause-owners g c = sym (ap (λ (w : Wishes). w.owners) c.loop-d.invariant.wishes)

pub follow-requires-clause-so_far : goal.follow-requires-clause-so_far
follow-requires-clause-so_far g c =
    let inv = c.loop-d.invariant in
    subst₂ (λ F w. IsOwnSoFar F w (desk_state g.H.Holder.held c.loop-d.desk) c.loop-d.entries.items) (sym inv.chosen) (sym inv.wishes) inv.so_far

pub follow-requires-clause-before : goal.follow-requires-clause-before
follow-requires-clause-before g c =
    let inv = c.loop-d.invariant in
    subst (λ w. NobodyElse w (desk_state g.H.Holder.held c.loop-d.desk) c.loop-d.d None) (sym inv.wishes) inv.before

pub loop-d-preserved : goal.loop-d-preserved
loop-d-preserved g c =
    let inv = c.loop-d.invariant in
    let did = c.in_ok-follow.ensures in
    record {
      so_far = subst₂ (λ F w. IsOwnSoFar F w (desk_state g.H.Holder.held c.follow.new.desk) c.follow.new.entries.items) inv.chosen inv.wishes did.so_far;
      before = subst (λ w. NobodyElse w (desk_state g.H.Holder.held c.follow.new.desk) (c.loop-d.d + 1) None) inv.wishes did.before;
      wishes = did.wishes ∙ inv.wishes;
      chosen = did.chosen ∙ inv.chosen;
    }

pub returns-clause-own : goal.returns-clause-own
returns-clause-own g c =
    let inv = c.loop-d.invariant in
    let past = c.loop-d-test.false in
    let len = c.len-d-end.ensures.len in
    own_ended _ _ _ _ inv.so_far (λ d lt ne. inv.before d (omega (arith, lt, past, len)) ne)

pub returns-clause-contracts : goal.returns-clause-contracts
returns-clause-contracts g c =
    let so_far = c.loop-d.invariant.so_far in
    names_below _ _ (lawful _ _ _ so_far.choice so_far.wishes) (g.H.Holder.count c.args.holder) _ c.requires.wishes.contracts so_far.good
