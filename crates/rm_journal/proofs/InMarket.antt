-- What is said of a journal, in a market.
use Rattle.std.proofs.Common.{◌≡◌, ◌↔◌, ◌∙◌, ℕ, List, ap₂, subst, subst₂, sym}
use Rattle.rm_sets.specs.Sets.{IsSetBelow}
use Rattle.rm_market.specs.Best.{IsBest, best_of, values_of}
use Rattle.rm_market.specs.Board.{Board, contract_count, owners_of}
use Rattle.rm_market.specs.Market.{Market, IsMarket, IsPlacementOf, wishes_of}
use Rattle.rm_market.specs.Stable.{Wishes}
use Rattle.rm_rounds.specs.Desk.{wishes}
use Rattle.rm_journal_laws.specs.declared.Entry.{Entry}
use Rattle.rm_journal_laws.specs.declared.Check.{Check}
use Rattle.rm_journal_laws.specs.declared.Check.TheVariants as checks
use Rattle.rm_journal_laws.specs.Journal.{IsAccepted, IsOwnJournal, Says, left_by}
use Rattle.rm_journal_laws.proofs.Checks.{check_is}
use Rattle.rm_journal_laws.proofs.Results.{ends_in_placement, laws}

module _ (m : Market) (C : List ℕ → List ℕ) (b : Board) (own : List ℕ) (listed : List (List ℕ)) (board : b ≡ m.board) (chosen : C ≡ best_of (values_of b)) (owners : own ≡ owners_of b) (lists : listed ≡ (wishes_of m).listed) (entries : List Entry) (check : Check) where
  -- the same by the market's best subsets and wishes
  in_market : (P : (List ℕ → List ℕ) → Wishes → Type 0) → P C (wishes own listed) → P (best_of (values_of m.board)) (wishes_of m)
  in_market P so =
      let by_board = subst₂ P chosen (ap₂ wishes owners lists) so in
      subst (λ a. P (best_of (values_of a)) (wishes (owners_of a) (wishes_of m).listed)) board by_board

  pub says_in : Says C (wishes own listed) entries check → Says (best_of (values_of m.board)) (wishes_of m) entries check
  says_in says = in_market (λ D w. Says D w entries check) says

  pub own_in : IsOwnJournal C (wishes own listed) entries → IsOwnJournal (best_of (values_of m.board)) (wishes_of m) entries
  own_in is = in_market (λ D w. IsOwnJournal D w entries) is

  module _ (ok : IsMarket m) (best : (X : List ℕ) → IsSetBelow (contract_count b) X → IsBest (values_of b) X (C X)) where
    chooses : (X : List ℕ) → IsSetBelow (contract_count m.board) X → IsBest (values_of m.board) X (best_of (values_of m.board) X)
    chooses =
        let by_board = subst (λ D. (X : List ℕ) → IsSetBelow (contract_count b) X → IsBest (values_of b) X (D X)) chosen best in
        subst (λ a. (X : List ℕ) → IsSetBelow (contract_count a) X → IsBest (values_of a) X (best_of (values_of a) X)) board by_board

    pub placed_in : Says C (wishes own listed) entries check → check ≡ checks.Accepted → IsPlacementOf m (left_by (best_of (values_of m.board)) (wishes_of m) entries).held
    placed_in says accepted =
        ends_in_placement m ok (best_of (values_of m.board)) chooses entries
        (subst (Says (best_of (values_of m.board)) (wishes_of m) entries) accepted (says_in says))

    -- no other verdict says what is so of an accepted journal
    pub accepted_in : Says C (wishes own listed) entries check → (check ≡ checks.Accepted) ↔ IsAccepted (best_of (values_of m.board)) (wishes_of m) entries
    accepted_in says = (
      λ is. subst (Says (best_of (values_of m.board)) (wishes_of m) entries) is (says_in says),
      λ accepted.
          let one = check_is (best_of (values_of m.board)) (wishes_of m) (laws m ok (best_of (values_of m.board)) chooses) entries in
          one check (says_in says) ∙ sym (one checks.Accepted accepted),
    )
