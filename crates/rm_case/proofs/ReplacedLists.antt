-- The listed contracts of a case with the list of one doctor replaced.
use Rattle.std.proofs.Common.{◌≡◌, ◌∙◌, ◌<◌, ◌==◌, ℕ, List, length, set, ap, ap₂, sym, arith, length-set}
use Rattle.std.specs.List.{IsDistinct}
use Rattle.rm_market.specs.Market.{Market, IsList, IsMarket, listed_contracts, replaced, wishes_of}
use Rattle.rm_market_laws.proofs.Wishes.{are_wishes, listed_long, IsListOf-contracts, IsMarket-replaced, wishes-replaced}
use Rattle.rm_case.specs.Case.{CaseData, IsCase, market}
use Rattle.rm_case.specs.Solving.{AreListed}

pub listed-is : (m : Market) (d : ℕ) (hospitals : List ℕ) (own : List ℕ) (listed after : List (List ℕ)) → listed ≡ (wishes_of m).listed → own ≡ listed_contracts m.board.ranks d hospitals
    → after ≡ set listed d own → after ≡ (wishes_of (replaced m d hospitals)).listed
listed-is m d hospitals own listed after so is e =
    e ∙ ap₂ (λ (L : List (List ℕ)) (x : List ℕ). set L d x) so is ∙ sym (ap (λ w. w.listed) (wishes-replaced m d hospitals))

module _ (c : CaseData) (ok : IsCase c) (d : ℕ) where
  pub doctor-low : d < length c.roster.doctors → d < length (wishes_of (market c)).listed
  doctor-low lt = omega (arith, lt, listed_long (market c) ok.market, ok.roster.list_each)

  pub distinct-own : (hospitals : List ℕ) → IsList (market c).board hospitals → IsDistinct ◌==◌ (listed_contracts (market c).board.ranks d hospitals)
  distinct-own hospitals l = (IsListOf-contracts (market c) ok.market d hospitals l).distinct

  pub replaced-own : (hospitals : List ℕ) → IsList (market c).board hospitals → AreListed c (wishes_of (replaced (market c) d hospitals)).listed
  replaced-own hospitals l =
      let after : Market = replaced (market c) d hospitals in
      let made : IsMarket after = IsMarket-replaced (market c) ok.market d hospitals l in
      record {
        doctors = listed_long after made ∙ length-set (market c).lists d hospitals ∙ ok.roster.list_each;
        lists = (are_wishes after made).lists;
      }
