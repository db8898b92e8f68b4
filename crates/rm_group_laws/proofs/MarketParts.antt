-- All stable sets of a market have equally many contracts in each part that no node divides.
use Rattle.std.proofs.Common.{◌≡◌, ℕ, ◌<◌, List, true, Bool, not, length, filter, eqb, eqb-true, eq-eqb, sym, ap, ◌∙◌, subst}
use Rattle.rm_sets.specs.Sets.{IsSetBelow}
use Rattle.rm_sets.proofs.Sets.{same_tests}
use Rattle.rm_sets.proofs.Members.{IsSetBelow-filter}
use Rattle.rm_market.specs.Board.{contract_count, hospital_of, hospital_of_number}
use Rattle.rm_board_laws.specs.HospitalBoards.{plain_market}
use Rattle.rm_board_laws.proofs.HospitalBoards.{plain_markets}
use Rattle.rm_market.specs.Best.{values_of}
use Rattle.rm_market.specs.Market.{Market, IsMarket, wishes_of, IsStableIn}
use Rattle.rm_valuation_laws.specs.Changes.{test_at}
use Rattle.rm_valuation_laws.specs.Order.{IsRoot}
use Rattle.rm_valuation_laws.proofs.Best.{best_unique}
use Rattle.rm_valuation_laws.proofs.Order.{root_of_walk}
use Rattle.rm_valuation_laws.proofs.Market.{concave_board}
use Rattle.rm_plain_laws.proofs.Stability.{nodes_long, test_is}
use Rattle.rm_market_laws.proofs.Wishes.{are_wishes}
use Rattle.rm_market_laws.proofs.Market.{plain_best, stable_takes}
use Rattle.rm_group_laws.specs.Parts.{ChoosesAlone}
use Rattle.rm_group_laws.specs.Markets.{NodesAgree, HaveAsMany, FillsTheSame, PlainHospitalsFillTheSame}
use Rattle.rm_group_laws.proofs.Parts.{same_count_apart}
use Rattle.rm_group_laws.proofs.Apart.{best_part}
use Rattle.rm_group_laws.proofs.MarketGroups.{plain, plain_choice}

module _ (m : Market) (ok : IsMarket m) where
  -- a part that no node divides chooses alone
  part_alone : (test : ℕ → Bool) → NodesAgree m.board test → ChoosesAlone (contract_count m.board) (plain m) test
  part_alone test agree X set =
      let f : IsSetBelow (contract_count m.board) (filter test X) = IsSetBelow-filter (contract_count m.board) test X set in
      best_unique (contract_count m.board) (values_of m.board) (filter test X) (filter test (plain m X)) (plain m (filter test X)) f
      (best_part (length m.lists) m.board ok.board test agree X (plain m X) set (plain_best m ok X set))
      (plain_best m ok (filter test X) f)

  -- an outermost node divides none
  pub root_divides_none : (a : ℕ) → a < length m.board.nodes → IsRoot m.board a → NodesAgree m.board (test_at m.board a)
  root_divides_none a la root k x y lt lx ly i j =
      same_tests (test_at m.board a x) (test_at m.board a y)
      (λ h. root_of_walk m.board (concave_board (length m.lists) m.board ok.board) a x k la lt root h i y j)
      (λ h. root_of_walk m.board (concave_board (length m.lists) m.board ok.board) a y k la lt root h j x i)

  module _ (S : List ℕ) (s : IsStableIn m S) where
    same_apart : (test : ℕ → Bool) → NodesAgree m.board test → HaveAsMany m S test
    same_apart test agree T t =
        same_count_apart (contract_count m.board) (plain m) (wishes_of m) test (plain_choice m ok) (are_wishes m ok)
        (record {
          passing = part_alone test agree;
          others = part_alone (λ x. not (test x)) (λ k x y lt lx ly i j. ap not (agree k x y lt lx ly i j));
        })
        T S (stable_takes m ok (plain m) (plain_best m ok) T t) (stable_takes m ok (plain m) (plain_best m ok) S s)

    pub fills_the_same : FillsTheSame m S
    fills_the_same = record {
      apart = same_apart;
      roots = λ a la root. same_apart (test_at m.board a) (root_divides_none a la root);
      hospitals = λ h alone. same_apart (λ x. eqb (hospital_of m.board x) h) (λ k x y lt lx ly i j.
          same_tests (eqb (hospital_of m.board x) h) (eqb (hospital_of m.board y) h)
          (λ e. eq-eqb (hospital_of m.board y) h (alone k x y lt lx ly i j (eqb-true (hospital_of m.board x) h e)))
          (λ e. eq-eqb (hospital_of m.board x) h (alone k y x lt ly lx j i (eqb-true (hospital_of m.board y) h e))));
    }

-- ---- without a policy

pub plain_fills_the_same : PlainHospitalsFillTheSame
plain_fills_the_same ranks capacities lists S h r l s =
    (fills_the_same (plain_market ranks capacities lists) (plain_markets ranks capacities lists r l) S s).hospitals h
    (λ k x y lt lx ly i j e.
    let low = subst (λ n. k < n) (nodes_long ranks capacities lists) lt in
    own k y low j ∙ sym (own k x low i) ∙ e)
  where
    own : (k x : ℕ) → k < length ranks → test_at (plain_market ranks capacities lists).board k x ≡ true → hospital_of_number ranks x ≡ k
    own k x lt t = eqb-true (hospital_of_number ranks x) k (sym (test_is ranks capacities lists k x lt) ∙ t)
