-- Certificates, verdicts and findings on small markets.
use Rattle.std.proofs.Common.{◌≡◌, ℕ, List, [], ◌∷◌, pos, negsuc, Some, None, true, false, refl, map}
use Rattle.rm_market.proofs.OnLiterals.{market_on_literals}
use Rattle.rm_market.specs.Board.{Board}
use Rattle.rm_market.specs.Certificate.{certificate, verdict_of, finding_of}
use Rattle.rm_market.specs.Market.{wishes_of}
use Rattle.rm_market.specs.declared.Verdict.{Verdict}
use Rattle.rm_market.specs.declared.Verdict.TheVariants as verdicts
use Rattle.rm_market.specs.declared.Finding.TheVariants as findings
use Rattle.rm_market.proofs.Small.{two, costly, targets, full, classes}

targets_certificate : certificate targets.board (0 ∷ 1 ∷ 2 ∷ 3 ∷ 4 ∷ 5 ∷ []) (0 ∷ 3 ∷ 4 ∷ [])
    ≡ record { contract = 0; kept = true; change = Some (pos 6); full = None; swap = None }
    ∷ record { contract = 1; kept = false; change = None; full = Some 2; swap = Some (record { out = 0; change = pos 0 }) }
    ∷ record { contract = 2; kept = false; change = None; full = Some 2; swap = Some (record { out = 0; change = pos 0 }) }
    ∷ record { contract = 3; kept = true; change = Some (pos 7); full = None; swap = None }
    ∷ record { contract = 4; kept = true; change = Some (pos 7); full = None; swap = None }
    ∷ record { contract = 5; kept = false; change = None; full = Some 2; swap = Some (record { out = 4; change = pos 0 }) }
    ∷ []
unfolding market_on_literals
targets_certificate = refl

costly_certificate : certificate costly.board (1 ∷ 0 ∷ []) (0 ∷ [])
    ≡ record { contract = 1; kept = false; change = Some (negsuc 0); full = None; swap = Some (record { out = 0; change = pos 0 }) }
    ∷ record { contract = 0; kept = true; change = Some (pos 0); full = None; swap = None }
    ∷ []
unfolding market_on_literals
costly_certificate = refl

abbrev verdicts_of : Board → List ℕ → List (List ℕ) → List Verdict
verdicts_of b X choices = map (verdict_of b X) choices

costly_verdicts : verdicts_of costly.board (0 ∷ 1 ∷ []) ((0 ∷ []) ∷ (1 ∷ []) ∷ [] ∷ (0 ∷ 1 ∷ []) ∷ [])
    ≡ verdicts.Best ∷ verdicts.Swap 0 1 ∷ verdicts.Add 0 ∷ verdicts.Remove 0 ∷ []
unfolding market_on_literals
costly_verdicts = refl

full_verdict : verdict_of full.board (0 ∷ []) (0 ∷ []) ≡ verdicts.OverCap 1
unfolding market_on_literals
full_verdict = refl

two_findings : map (finding_of two.board (wishes_of two)) ((2 ∷ []) ∷ (0 ∷ []) ∷ []) ≡ findings.Blocks 1 ∷ findings.Stable ∷ []
unfolding market_on_literals
two_findings = refl

costly_finding : finding_of costly.board (wishes_of costly) (0 ∷ 1 ∷ []) ≡ findings.Unwanted 0
unfolding market_on_literals
costly_finding = refl

full_finding : finding_of full.board (wishes_of full) (0 ∷ []) ≡ findings.OverCap 1
unfolding market_on_literals
full_finding = refl

-- the node of the shared leaf is the innermost full one
classes_certificate : certificate classes.board (1 ∷ []) (0 ∷ 2 ∷ [])
    ≡ record { contract = 1; kept = false; change = None; full = Some 2; swap = Some (record { out = 0; change = pos 0 }) } ∷ []
unfolding market_on_literals
classes_certificate = refl
