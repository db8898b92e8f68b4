-- A roster and a policy that fits it make a market, where the board's checks find no fault.
use Rattle.std.proofs.Common.{◌≡◌, ◌+◌, ◌-◌, ◌≤◌, ◌==◌, ℕ, Bool, true, false, cond, List, [], ◌∷◌, length, get_or, ℤ, Option, Some, None, IfSome, refl, sym, subst, arith}
use Rattle.std.specs.Prelude.{find, option_map, unwrap_or}
use Rattle.std.specs.List.{enumerate_from}
use Rattle.std.specs.Option.{option_map_or}
use Rattle.rm_base.specs.Checks.{first_of}
use Rattle.rm_market.specs.Board.{IsFalling, IsTieOrder}
use Rattle.rm_market.specs.Flexible.{Region, Seat, seat_steps}
use Rattle.rm_market.specs.Market.{IsMarket}
use Rattle.rm_market.specs.Tree.{tree_fault}
use Rattle.rm_board_laws.proofs.HospitalBoards.{accepted_markets, zeros_fall}
use Rattle.rm_board_laws.specs.HospitalBoards.{AreListsBelow}
use Rattle.rm_board_laws.proofs.Searches.{none_cons, option_map_none}
use Rattle.rm_board_laws.proofs.TieOrders.{hospital_ties, rank_ties}
use Rattle.rm_board_laws.proofs.ListedOrder.{listed_ties}
use Rattle.rm_flexible_laws.proofs.Falling.{seat_steps_fall}
use Rattle.rm_policy.specs.Policy.{PolicyData}
use Rattle.rm_policy.specs.Steps.{flat}
use Rattle.rm_policy.specs.Top.{is_flexible}
use Rattle.rm_policy.specs.declared.Ties.{Ties}
use Rattle.rm_policy.specs.declared.Ties.TheVariants as ties
use Rattle.rm_roster.specs.Roster.{RosterData, IsRoster}
use Rattle.rm_case.specs.Case.{board_checks, market, ties_fault, tree_refusal, ties_refusal}
use Rattle.rm_case.specs.Compiled.{compiled_board, compiled_steps, flexible_steps, own_steps, region_of, steps_in_region, tie_order_of}
use Rattle.rm_case.specs.Suits.{SuitsRoster}

-- what is found among elements that are counted from n has at least that number
found_from : (q : ℕ × Seat → Bool) (n : ℕ) (L : List Seat) (e : ℕ × Seat) → find q (enumerate_from n L) ≡ Some e → n ≤ e.0
found_from q n [] e f = absurd (cc f)
found_from q n (s ∷ L) e f = by (λ g. found_from q (n + 1) L e g) (q (n, s)) f
  where
    by : (find q (enumerate_from (n + 1) L) ≡ Some e → n + 1 ≤ e.0) → (c : Bool) → cond c (Some (n, s)) (find q (enumerate_from (n + 1) L)) ≡ Some e → n ≤ e.0
    by rest true g = let same : (n, s) ≡ e = cc in subst (λ (x : ℕ × Seat). n ≤ x.0) same (omega arith)
    by rest false g = let up = rest g in omega arith

no_steps_fall : IsFalling []
no_steps_fall k d lt = absurd (omega arith)

place_steps_fall : (g : Region) (place : ℕ) (s : Seat) → 1 ≤ place → IsFalling (seat_steps g place s)
place_steps_fall g place s le =
    let same : (place - 1) + 1 ≡ place = omega arith in
    subst (λ k. IsFalling (seat_steps g k s)) same (seat_steps_fall g (place - 1) s)

steps_in_region_fall : (g : Region) (h : ℕ) → IsFalling (steps_in_region g h)
steps_in_region_fall g h = by (find (λ e. e.1.hospital == h) (enumerate_from 1 g.seats)) refl
  where
    by : (o : Option (ℕ × Seat)) → find (λ e. e.1.hospital == h) (enumerate_from 1 g.seats) ≡ o → IsFalling (option_map_or (λ e. seat_steps g e.0 e.1) o [])
    by None e = no_steps_fall
    by (Some x) e = place_steps_fall g x.0 x.1 (found_from (λ e. e.1.hospital == h) 1 g.seats x e)

own_steps_fall : (r : RosterData) (p : PolicyData) (h : ℕ) → SuitsRoster r p → IsFalling (own_steps r p h)
own_steps_fall r p h fits = by (get_or p.hospital_steps h None) (fits.hospital_steps h)
  where
    by : (o : Option (List ℤ)) → IfSome o IsFalling → IsFalling (unwrap_or o (flat (get_or r.capacities h 0)))
    by None none = zeros_fall (get_or r.capacities h 0)
    by (Some steps) fall = fall

hospital_steps_fall : (r : RosterData) (p : PolicyData) (h : ℕ) → SuitsRoster r p → IsFalling (compiled_steps r p h)
hospital_steps_fall r p h fits = by (is_flexible p.kind)
  where
    by : (c : Bool) → IsFalling (cond c (flexible_steps r p h) (own_steps r p h))
    by true = steps_in_region_fall (region_of r p (get_or r.prefecture_of h 0)) h
    by false = own_steps_fall r p h fits

ties_stand : (r : RosterData) (p : PolicyData) (t : Ties) → ties_fault r p t ≡ None → IsTieOrder r.ranks (tie_order_of r p t)
unfolding tie_order_of
ties_stand r p ties.ByRank e = rank_ties r.ranks
ties_stand r p ties.ByHospital e = hospital_ties r.ranks
ties_stand r p ties.Listed e = listed_ties r.ranks p.listed e

-- lists of the roster's numbers, told by how many lists of the other kind there are
lists_below : (n m : ℕ) (lists : List (List ℕ)) → m ≡ n → AreListsBelow n lists → AreListsBelow m lists
lists_below n m lists same all = subst (λ k. AreListsBelow k lists) (sym same) all

pub market_made : (r : RosterData) (p : PolicyData) → IsRoster r → SuitsRoster r p → first_of (board_checks r p) ≡ None → IsMarket (market (record { roster = r; policy = p }))
unfolding compiled_board
market_made r p roster fits quiet =
    let parts = none_cons (option_map tree_refusal (tree_fault p.groups.members)) (option_map ties_refusal (ties_fault r p p.ties) ∷ []) quiet in
    let tree = option_map_none tree_refusal (tree_fault p.groups.members) parts.0 in
    let ties = option_map_none ties_refusal (ties_fault r p p.ties) (none_cons (option_map ties_refusal (ties_fault r p p.ties)) [] parts.1).0 in
    accepted_markets r.ranks (compiled_steps r p) p.groups.members p.groups.steps (tie_order_of r p p.ties) r.lists
    (lists_below (length r.doctors) (length r.lists) r.ranks roster.list_each roster.ranks)
    (lists_below (length r.hospitals) (length r.ranks) r.lists roster.rank_each roster.lists)
    (λ h lt. hospital_steps_fall r p h fits)
    (λ k d lt. (fits.groups k d lt).ascending)
    tree fits.group_steps (ties_stand r p p.ties ties)
