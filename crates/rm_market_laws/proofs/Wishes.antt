-- The wishes of a market are wishes over its contracts.
use Rattle.std.proofs.Common.{◌≡◌, ℕ, zero, suc, ◌+◌, ◌<◌, List, [], ◌∷◌, map, Bool, true, false, cond, ◌&&◌, length, get_or, set, eqb, refl, sym, ap, ◌∙◌, subst, ⊎_elim, arith, Option, Some, None, eqb-true, ne_eqb, length-set}
use Rattle.std.proofs.lemmas.Bool.{and_parts}
use Rattle.std.proofs.lemmas.List.{get_or-map, length-map}
use Rattle.std.proofs.lemmas.List.FromFn.{length-enumerate_from, get_or-enumerate_from}
use Rattle.std.proofs.lemmas.List.Elements.{All-nil, All-head, All-tail, All-append, All-map, All-get_or, All-set, recursion_from_All}
use Rattle.std.specs.List.{IsDistinct, filter_map, position_from, enumerate_from, cons_option}
use Rattle.std.specs.Prelude.{All}
use Rattle.rm_sets.specs.Sets.{IsIn}
use Rattle.rm_sets.proofs.Sets.{IsIn-here, IsIn-later, IsIn-cases}
use Rattle.rm_sets.proofs.Members.{not_in_nil, All-from_members}
use Rattle.rm_market.specs.Board.{Board, IsBoard, pairs_from, contracts, contract_count, contract_of, owners_of}
use Rattle.rm_market.specs.Stable.{owner, list_of}
use Rattle.rm_market.specs.Market.{Market, IsMarket, IsList, listed_contracts, wishes_of, replaced}
use Rattle.rm_market.specs.Laws.{IsListOf, AreWishes}
use Rattle.rm_matching_laws.proofs.Stable.{distinct_head}

-- ---- the contract of a pair

position_some : {K : Type 0} (t : K → Bool) (i : ℕ) (xs : List K) (k : ℕ) (d : K) → position_from t i xs ≡ Some k → (j : ℕ) × (k ≡ i + j) × (j < length xs) × (t (get_or xs j d) ≡ true)
position_some t i [] k d e = cc
position_some t i (x ∷ xs) k d e = by (position_some t (i + 1) xs k d) (t x) refl e
  where
    next : (j : ℕ) → t (get_or xs j d) ≡ true → t (get_or (x ∷ xs) (j + 1) d) ≡ true
    next j q = let e : suc j ≡ j + 1 = omega arith in subst (λ n. t (get_or (x ∷ xs) n d) ≡ true) e q

    by :
        (position_from t (i + 1) xs ≡ Some k → (j : ℕ) × (k ≡ i + 1 + j) × (j < length xs) × (t (get_or xs j d) ≡ true)) →
        (b : Bool) → t x ≡ b → cond b (Some i) (position_from t (i + 1) xs) ≡ Some k → (j : ℕ) × (k ≡ i + j) × (j < length (x ∷ xs)) × (t (get_or (x ∷ xs) j d) ≡ true)
    by rest true f h = let same : i ≡ k = cc in (0, omega arith, omega arith, f)
    by rest false f h =
        let r = rest h in
        let e : k ≡ i + 1 + r.0 = r.1 in
        let lt : r.0 < length xs = r.2 in
        (r.0 + 1, omega arith, omega arith, next r.0 r.3)

abbrev pair : Board → ℕ → ℕ × ℕ
pair b x = get_or (contracts b) x (0, 0)

module _ (b : Board) where
  -- the contract of d and h is below the count, and its pair is d and h
  contract_pair : (d h x : ℕ) → contract_of b d h ≡ Some x → (x < contract_count b) × ((pair b x).0 ≡ d) × ((pair b x).1 ≡ h)
  contract_pair d h x e =
      let r = position_some (λ p. eqb p.0 d && eqb p.1 h) 0 (contracts b) x (0, 0) e in
      let same : x ≡ r.0 = let f : x ≡ 0 + r.0 = r.1 in omega arith in
      let t : (eqb (get_or (contracts b) x (0, 0)).0 d && eqb (get_or (contracts b) x (0, 0)).1 h) ≡ true =
      subst (λ n. (eqb (get_or (contracts b) n (0, 0)).0 d && eqb (get_or (contracts b) n (0, 0)).1 h) ≡ true) (sym same) r.3 in
      let both = and_parts (eqb (get_or (contracts b) x (0, 0)).0 d) (eqb (get_or (contracts b) x (0, 0)).1 h) t in
      let lt : r.0 < length (contracts b) = r.2 in
      (omega arith, eqb-true (get_or (contracts b) x (0, 0)).0 d both.0, eqb-true (get_or (contracts b) x (0, 0)).1 h both.1)

  owner_pair : (x : ℕ) → x < contract_count b → get_or (owners_of b) x 0 ≡ (pair b x).0
  owner_pair x lt = get_or-map (λ p. p.0) (contracts b) x (0, 0) 0 lt

-- ---- a list that is passed through a partial function

from_filter_map : (f : ℕ → Option ℕ) (L : List ℕ) (x : ℕ) → IsIn x (filter_map f L) → (h : ℕ) × IsIn h L × (f h ≡ Some x)
from_filter_map f [] x i = absurd (not_in_nil x i)
from_filter_map f (h ∷ L) x i = by (f h) refl (from_filter_map f L x) i
  where
    by : (o : Option ℕ) → f h ≡ o → (IsIn x (filter_map f L) → (k : ℕ) × IsIn k L × (f k ≡ Some x)) → IsIn x (cons_option o (filter_map f L)) → (k : ℕ) × IsIn k (h ∷ L) × (f k ≡ Some x)
    by None e rest j = let r = rest j in (r.0, IsIn-later r.0 h L r.1, r.2)
    by (Some y) e rest j =
        ⊎_elim
        (λ same. (h, IsIn-here h L, e ∙ ap Some (sym same)))
        (λ later. let r = rest later in (r.0, IsIn-later r.0 h L r.1, r.2))
        (IsIn-cases x y (filter_map f L) j)

distinct_filter_map : (f : ℕ → Option ℕ) → ((h k x : ℕ) → f h ≡ Some x → f k ≡ Some x → h ≡ k) → (L : List ℕ) → IsDistinct eqb L → IsDistinct eqb (filter_map f L)
unfolding IsDistinct
distinct_filter_map f once [] d = tt
distinct_filter_map f once (h ∷ L) d = by (f h) refl (distinct_filter_map f once L d.1)
  where
    by : (o : Option ℕ) → f h ≡ o → IsDistinct eqb (filter_map f L) → IsDistinct eqb (cons_option o (filter_map f L))
    by None e rest = rest
    by (Some x) e rest = (
      recursion_from_All (λ z. eqb x z ≡ false) (filter_map f L)
          (All-from_members (λ z. eqb x z ≡ false) (filter_map f L) (λ z i. ne_eqb x z (λ same.
          let r = from_filter_map f L z i in
          distinct_head h L d (subst (λ a. IsIn a L) (once r.0 h x (r.2 ∙ ap Some (sym same)) e) r.1)))),
      rest,
    )

-- ---- pairs of ranked doctors

owners_below : (n h : ℕ) (ranks : List (List ℕ)) → All (λ rank. IsDistinct eqb rank × All (λ d. d < n) rank) ranks → All (λ p. p.0 < n) (pairs_from h ranks)
owners_below n h [] a = All-nil (λ p. p.0 < n)
owners_below n h (rank ∷ ranks) a =
    All-append (λ p. p.0 < n) (map (λ d. (d, h)) rank) (pairs_from (h + 1) ranks)
    (All-map (λ p. p.0 < n) (λ d. (d, h)) rank (All-head (λ rank. IsDistinct eqb rank × All (λ d. d < n) rank) rank ranks a).1)
    (owners_below n (h + 1) ranks (All-tail (λ rank. IsDistinct eqb rank × All (λ d. d < n) rank) rank ranks a))

-- ---- the wishes

module _ (m : Market) (ok : IsMarket m) where
  listed_is : (d : ℕ) → d < length m.lists → list_of (wishes_of m) d ≡ listed_contracts m.board.ranks d (get_or m.lists d [])
  listed_is d lt =
      let long : length (enumerate_from 0 m.lists) ≡ length m.lists = length-enumerate_from 0 m.lists in
      get_or-map (λ e. listed_contracts m.board.ranks e.0 e.1) (enumerate_from 0 m.lists) d (0, []) [] (omega arith)
      ∙ ap (λ e. listed_contracts m.board.ranks e.0 e.1) (get_or-enumerate_from 0 m.lists d (0, []) lt)
      ∙ ap (λ k. listed_contracts m.board.ranks k (get_or m.lists d [])) (let z : 0 + d ≡ d = omega arith in z)

  pub listed_long : length (wishes_of m).listed ≡ length m.lists
  listed_long = length-map (enumerate_from 0 m.lists) (λ e. listed_contracts m.board.ranks e.0 e.1) ∙ length-enumerate_from 0 m.lists

  pub IsListOf-contracts : (d : ℕ) (list : List ℕ) → IsList m.board list → IsListOf (wishes_of m) d (listed_contracts m.board.ranks d list)
  IsListOf-contracts d list l = record {
    distinct = distinct_filter_map (contract_of m.board d) (λ h k x e f. sym (contract_pair m.board d h x e).2 ∙ (contract_pair m.board d k x f).2) list l.0;
    below = λ x i. let r = from_filter_map (contract_of m.board d) list x i in
        let lt : x < contract_count m.board = (contract_pair m.board d r.0 x r.2).0 in
        let n : length (owners_of m.board) ≡ contract_count m.board = length-map (contracts m.board) (λ p. p.0) in
        omega arith;
    owned = λ x i. let r = from_filter_map (contract_of m.board d) list x i in
        let q = contract_pair m.board d r.0 x r.2 in
        owner_pair m.board x q.0 ∙ q.1;
  }

  pub are_wishes : AreWishes (contract_count m.board) (wishes_of m)
  are_wishes = record {
    contracts = length-map (contracts m.board) (λ p. p.0);
    owners = λ x lt.
        let low : (pair m.board x).0 < length m.lists = low_owner x lt in
        let own : owner (wishes_of m) x ≡ (pair m.board x).0 = owner_pair m.board x lt in
        let long : length (wishes_of m).listed ≡ length m.lists = listed_long in
        omega arith;
    lists = λ d lt.
        let low : d < length m.lists = let long : length (wishes_of m).listed ≡ length m.lists = listed_long in omega arith in
        subst (IsListOf (wishes_of m) d) (sym (listed_is d low)) (IsListOf-contracts d (get_or m.lists d []) (All-get_or (IsList m.board) m.lists d [] low ok.lists));
  }
    where
      low_owner : (x : ℕ) → x < contract_count m.board → (pair m.board x).0 < length m.lists
      low_owner x lt = All-get_or (λ p. p.0 < length m.lists) (contracts m.board) x (0, 0) lt (owners_below (length m.lists) 0 m.board.ranks ok.board.ranked)

-- ---- a replaced list

set_listed : (f : ℕ → List ℕ → List ℕ) (n d : ℕ) (L : List (List ℕ)) (l : List ℕ) → map (λ e. f e.0 e.1) (enumerate_from n (set L d l)) ≡ set (map (λ e. f e.0 e.1) (enumerate_from n L)) d (f (n + d) l)
set_listed f n d [] l = refl
set_listed f n zero (x ∷ L) l = ap (λ k. f k l ∷ map (λ e. f e.0 e.1) (enumerate_from (n + 1) L)) (let e : n ≡ n + 0 = omega arith in e)
set_listed f n (suc d) (x ∷ L) l =
    ap (λ R. f n x ∷ R)
    (set_listed f (n + 1) d L l ∙ ap (λ k. set (map (λ e. f e.0 e.1) (enumerate_from (n + 1) L)) d (f k l)) (let e : n + 1 + d ≡ n + suc d = omega arith in e))

-- the wishes of a market with the list of d replaced
pub wishes-replaced : (m : Market) (d : ℕ) (list : List ℕ) → wishes_of (replaced m d list) ≡ (record (wishes_of m) { listed = set (wishes_of m).listed d (listed_contracts m.board.ranks d list) })
wishes-replaced m d list =
    ap (λ (L : List (List ℕ)). record (wishes_of m) { listed = L })
    (set_listed (listed_contracts m.board.ranks) 0 d m.lists list
    ∙ ap (λ k. set (wishes_of m).listed d (listed_contracts m.board.ranks k list)) (let e : 0 + d ≡ d = omega arith in e))

pub IsMarket-replaced : (m : Market) → IsMarket m → (d : ℕ) (list : List ℕ) → IsList m.board list → IsMarket (replaced m d list)
IsMarket-replaced m ok d list l = record {
  board = subst (λ n. IsBoard n m.board) (sym (length-set m.lists d list)) ok.board;
  lists = All-set (IsList m.board) m.lists d list l ok.lists;
}
