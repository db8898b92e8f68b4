-- Each finding says what holds.
use Rattle.std.proofs.Common.{◌≡◌, ◌∙◌, ◌⊎◌, ◌≤◌, ◌<◌, ℕ, List, Option, Some, None, refl, sym, ap, subst, ⊎_elim, arith}
use Rattle.std.specs.Prelude.{◌↔◌, Result, Ok, Err, IfOk}
use Rattle.rm_sets.specs.Sets.{IsSetBelow, has, without}
use Rattle.rm_sets.proofs.Sets.{not_both}
use Rattle.rm_market.specs.Board.{Board, contract_count, is_feasible}
use Rattle.rm_market.specs.Best.{values_of, is_better}
use Rattle.rm_market.specs.Market.{Market, IsMarket, IsStableIn, Best, wishes_of}
use Rattle.rm_market.specs.Stable.{IsPlacement}
use Rattle.rm_market.specs.Certificate.{over_cap, better_without}
use Rattle.rm_market.specs.declared.Finding.{Finding}
use Rattle.rm_market.specs.declared.Finding.TheVariants as findings
use Rattle.rm_market_laws.proofs.Wishes.{are_wishes}
use Rattle.rm_valuation.specs.Counts.{AreCounts}
use Rattle.rm_valuation_laws.proofs.GreedySteps.{unimproved_from_best}
use Rattle.rm_verdict_laws.specs.Findings.{IsFinding}
use Rattle.rm_verdict_laws.proofs.Over.{feasible_from_none, found_over}
use Rattle.rm_verdict_laws.proofs.Verdict.{no_removal_from, found_removal}
use Rattle.rm_verdict_laws.proofs.Finding.{own_best, placed_below, finding_says}
use Rattle.rm_exchange.specs.Counted.{IsChosen}
use Rattle.rm_audit.specs.Placed.{AreCheapest}
use Rattle.rm_audit.specs.Blocking.{IsWeighed, IsFirstBlocking, blocking_finding}
use Rattle.rm_audit.specs.declared.placed.Removal.{Removal}
use Rattle.rm_audit.proofs.Reaching.{wants_reached, reached_wants}

module _ (m : Market) (ok : IsMarket m) (S : List ℕ) (p : IsPlacement (wishes_of m) S) where
  below : IsSetBelow (contract_count m.board) S
  below = placed_below m S p

  pub over_finding : (b : Board) → b ≡ m.board → (k : ℕ) → over_cap b S ≡ Some k → IsFinding m S (findings.OverCap k)
  over_finding b e k over = found_over m.board S k (subst (λ c. over_cap c S ≡ Some k) e over)

  pub chosen : (b : Board) → b ≡ m.board → over_cap b S ≡ None → IsChosen b S
  chosen b e none = subst (λ c. IsChosen c S) (sym e) (record { board = (_, ok.board); set = below; feasible = feasible_from_none m.board S (subst (λ c. over_cap c S ≡ None) e none) })

  pub unwanted_finding : (b : Board) → b ≡ m.board → over_cap b S ≡ None → (z : ℕ) → better_without (values_of b) S ≡ Some z → IsFinding m S (findings.Unwanted z)
  unwanted_finding b e none z found =
      let h = found_removal (values_of m.board) S z below.ascending (subst (λ c. better_without (values_of c) S ≡ Some z) e found) in (
        feasible_from_none m.board S (subst (λ c. over_cap c S ≡ None) e none),
        λ best. not_both (is_better (values_of m.board) (without S z) S) h.passes ((unimproved_from_best (values_of m.board) S S best).remove z h.member),
        h,
      )

  own : (b : Board) → b ≡ m.board → over_cap b S ≡ None → better_without (values_of b) S ≡ None → Best m S S
  own b e none kept = own_best m S ok below (feasible_from_none m.board S (subst (λ c. over_cap c S ≡ None) e none)) (no_removal_from (values_of m.board) S (subst (λ c. better_without (values_of c) S ≡ None) e kept))

  pub weighed : (b : Board) → b ≡ m.board → over_cap b S ≡ None → better_without (values_of b) S ≡ None → (counts : List ℕ) (cheapest : List (Option Removal)) → AreCounts b S counts → AreCheapest b S S cheapest → IsWeighed b S counts cheapest
  weighed b e none kept counts cheapest counted removals =
      subst (λ c. IsWeighed c S counts cheapest) (sym e)
      (record { set = below; own = own b e none kept; counted = subst (λ c. AreCounts c S counts) e counted; removals = subst (λ c. AreCheapest c S S cheapest) e removals })

  blocks_finding : (b : Board) → b ≡ m.board → over_cap b S ≡ None → better_without (values_of b) S ≡ None → (x : ℕ) → IsFirstBlocking b (wishes_of m).listed S (Some x) → IsFinding m S (findings.Blocks x)
  blocks_finding b e none kept x first =
      let f = subst (λ c. IsFirstBlocking c (wishes_of m).listed S (Some x)) e first in
      let laws = are_wishes m ok in
      let w = wants_reached (contract_count m.board) (wishes_of m) laws S p x f.0 in (
        own b e none kept,
        record {
          blocks = record { contract = w.0; wanted = w.1; unkept = f.1 };
          least = λ y g. ⊎_elim (λ le. le) (λ stays. absurd (g.unkept stays)) (f.2 y (reached_wants (contract_count m.board) (wishes_of m) laws S p y g.contract g.wanted));
        },
      )

  stable_finding : (b : Board) → b ≡ m.board → over_cap b S ≡ None → better_without (values_of b) S ≡ None → IsFirstBlocking b (wishes_of m).listed S None → IsFinding m S findings.Stable
  stable_finding b e none kept first =
      let f = subst (λ c. IsFirstBlocking c (wishes_of m).listed S None) e first in
      let laws = are_wishes m ok in
      let all = laws.contracts in
      record {
        placement = p;
        kept = own b e none kept;
        unblocked = λ x lx t. f x (reached_wants (contract_count m.board) (wishes_of m) laws S p x (omega arith) t);
      }

  pub first_finding : (b : Board) → b ≡ m.board → over_cap b S ≡ None → better_without (values_of b) S ≡ None → (first : Option ℕ) → IsFirstBlocking b (wishes_of m).listed S first → IsFinding m S (blocking_finding first)
  first_finding b e none kept (Some x) f = blocks_finding b e none kept x f
  first_finding b e none kept None f = stable_finding b e none kept f

  -- it is `Stable` exactly where the placement is stable
  pub stable_where : {E : Type 0} (r : Result Finding E) → IfOk r (IsFinding m S) → IfOk r (λ f. (f ≡ findings.Stable) ↔ IsStableIn m S)
  stable_where (Err e) h = tt
  stable_where (Ok f) h = (λ e. subst (IsFinding m S) e h, λ stable. sym ((finding_says m S f ok p).1 h) ∙ (finding_says m S findings.Stable ok p).1 stable)
