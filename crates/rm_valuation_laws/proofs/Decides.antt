-- The theorem on scores in one piece.
use Rattle.std.proofs.Common.{◌≡◌, ◌↔◌, ℕ, true, List, ◌<ℤ◌}
use Rattle.rm_valuation_laws.specs.Choice.{IsStrict}
use Rattle.rm_market.specs.Best.{Values, is_better, IsValuation, Exchange, SizeExchange}
use Rattle.rm_valuation_laws.specs.Scores.{score}
use Rattle.rm_valuation_laws.proofs.Score.{better_from_higher, higher_from_better, scores_differ, score_exchange, score_size_exchange}

pub better_iff_higher : (v : Values) (S T : List ℕ) → v.feasible S ≡ true → v.feasible T ≡ true → (is_better v S T ≡ true) ↔ (score v T <ℤ score v S)
better_iff_higher v S T fS fT = (higher_from_better v S T fT, better_from_higher v S T fS)

pub laws_strict : (n : ℕ) (v : Values) → IsValuation n v → IsStrict n v.feasible (score v)
laws_strict n v laws = scores_differ n v laws.ties_all

pub laws_exchange : (n : ℕ) (v : Values) → IsValuation n v → Exchange n v.feasible (score v)
laws_exchange n v laws = score_exchange n v laws.exchange

pub laws_size_exchange : (n : ℕ) (v : Values) → IsValuation n v → SizeExchange n v.feasible (score v)
laws_size_exchange n v laws = score_size_exchange n v laws.size_exchange
