-- The board of a case can be walked, and its contracts are as the walks ask.
use Rattle.std.proofs.Common.{◌≡◌, ◌∙◌, ◌<◌, ℕ, List, [], All, length, get_or, Option, Some, None, sym, ap, subst, ⊎_elim, arith}
use Rattle.std.proofs.lemmas.Bool.{cases_lt}
use Rattle.std.proofs.lemmas.List.{get_or-map, get_or_past}
use Rattle.std.proofs.lemmas.List.Elements.{All-from_get_or}
use Rattle.rm_sets.specs.Sets.{IsIn}
use Rattle.rm_sets.proofs.Members.{All-from_members}
use Rattle.rm_market.specs.Board.{Board, IsBoard, contract_count, contract_of, leaf_of, pairs_of, sets_of}
use Rattle.rm_market.specs.Market.{wishes_of}
use Rattle.rm_market.specs.Stable.{list_of}
use Rattle.rm_market.specs.Tree.{TreeOf, sets_of_tree}
use Rattle.rm_board_laws.proofs.Contracts.{hospital_ranked}
use Rattle.rm_board.proofs.ListedContracts.{found-at}
use Rattle.rm_exchange.proofs.Opening.{has_hospitals, own_nodes, nodes_of}
use Rattle.rm_market_laws.proofs.Wishes.{are_wishes, listed_long}
use Rattle.rm_case.specs.Case.{CaseData, IsCase, market}
use Rattle.rm_case.specs.Compiled.{compiled_board}
use Rattle.rm_audit.specs.Placed.{IsWalkable}
use Rattle.rm_audit.specs.Placement.{AreListedPlaces}

pub walkable : (doctors : ℕ) (b : Board) (t : TreeOf) (n : ℕ) → IsBoard doctors b → t.hospitals ≡ length b.ranks → sets_of_tree t ≡ sets_of b → n ≡ length (sets_of_tree t) → n < 4294967296 → ((x : ℕ) → x < contract_count b → leaf_of b x < length b.ranks) → IsWalkable b
walkable doctors b t n ok hospitals same e few leaf =
    let p = nodes_of b t n hospitals same e in
    record {
      hospitals = has_hospitals doctors b ok p.0 (own_nodes b t hospitals same) leaf;
      small = let all = p.1 in omega arith;
    }

-- each contract's leaf is its hospital's
pub leaves_low : (c : CaseData) (x : ℕ) → x < contract_count (market c).board → leaf_of (market c).board x < length (market c).board.ranks
unfolding compiled_board
leaves_low c x lx =
    let is = get_or-map (λ p. p.1) (pairs_of c.roster.ranks) x (0, 0) 0 lx in
    let low = hospital_ranked (market c).board x lx in
    subst (λ h. h < length c.roster.ranks) (sym is) low

-- the listed contracts are contracts
pub listed_low : (c : CaseData) → IsCase c → All (All (λ x. x < contract_count (market c).board)) (wishes_of (market c)).listed
listed_low c ok =
    let w = wishes_of (market c) in
    let laws = are_wishes (market c) ok.market in
    All-from_get_or (All (λ x. x < contract_count (market c).board)) w.listed [] (λ d lt.
    All-from_members (λ x. x < contract_count (market c).board) (list_of w d) (λ x i. let low = (laws.lists d lt).below x i in let all = laws.contracts in omega arith))

-- a doctor's place is a hospital that ranks him
pub place_low : (c : CaseData) (places : List (Option ℕ)) (d h : ℕ) → IsCase c → AreListedPlaces c places → get_or places d None ≡ Some h → (h < length (market c).board.ranks) × ((x : ℕ) → contract_of (market c).board d h ≡ Some x → x < contract_count (market c).board)
place_low c places d h ok l place =
    let own = l.listed d h place in
    let x = own.0 in
    let w = wishes_of (market c) in
    let laws = are_wishes (market c) ok.market in
    let low : d < length w.listed = ⊎_elim
    (λ lt. let long = listed_long (market c) ok.market in let each = ok.roster.list_each in let all = l.doctors in omega arith)
    (λ ge. absurd (let none = get_or_past places d None ge in cc))
    (cases_lt d (length places)) in
    let lx : x < contract_count (market c).board = let below = (laws.lists d low).below x own.2 in let all = laws.contracts in omega arith in
    let at = found-at (market c).board.ranks d h x own.1 in
    let ranked = hospital_ranked (market c).board x lx in (
      subst (λ g. g < length (market c).board.ranks) at ranked,
      λ y is. subst (λ z. z < contract_count (market c).board) (some_same x y (sym own.1 ∙ is)) lx,
    )
  where
    some_same : (x y : ℕ) → Some x ≡ Some y → x ≡ y
    some_same x y e = cc
