-- The regions of a flexible policy hold each hospital once, and make the board.
use Rattle.std.proofs.Common.{◌≡◌, ◌≢◌, ◌⊎◌, ◌∙◌, ◌+◌, ◌-◌, ◌<◌, ◌≤◌, ◌||◌, ◌==◌, ℕ, Bool, true, cond, List, [], ◌∷◌, length, get_or, map, Option, Some, None, inl, inr, refl, sym, ap, ap₂, subst, arith, All, AllPairs}
use Rattle.std.specs.Prelude.{sum_by}
use Rattle.std.specs.List.{list_any}
use Rattle.std.specs.Option.{option_map_or}
use Rattle.std.proofs.lemmas.Bool.{cases_lt}
use Rattle.std.proofs.lemmas.Bool.Decides.{Decides-eqb}
use Rattle.std.proofs.lemmas.List.{get_or-map, length-map}
use Rattle.std.proofs.lemmas.List.Elements.{All-map, AllZip-get_or}
use Rattle.std.proofs.lemmas.Map.Made.{AllPairs-from_IsDistinct}
use Rattle.rm_flexible_laws.specs.Compiled.{IsCapNode, IsCompiled, IsSeatNode}
use Rattle.rm_flexible_laws.specs.Region.{no_region, no_seat, region_at, seat_at, IsPlace, IsRegion, IsRegions}
use Rattle.rm_flexible_laws.specs.Results.{InMarketsOfRegions}
use Rattle.rm_flexible_laws.proofs.Counts.{eqb-sym}
use Rattle.rm_flexible_laws.proofs.Hospitals.{regions_from_hospitals}
use Rattle.rm_flexible_laws.proofs.Tests.{sums_le}
use Rattle.rm_market.specs.Board.{Board, Node, contract_count, hospital_of, node_at}
use Rattle.rm_market.specs.Flexible.{seat_steps, Region, Seat}
use Rattle.rm_market.specs.Market.{Market}
use Rattle.rm_policy.specs.Policy.{PolicyData, IsPolicy}
use Rattle.rm_policy.specs.Top.{is_flexible}
use Rattle.rm_roster.specs.Roster.{RosterData, IsRoster, hospitals_in}
use Rattle.rm_sets.specs.Sets.{below, has, IsIn}
use Rattle.rm_sets.proofs.Members.{All-from_members, IsIn-get_or, place_from_IsIn}
use Rattle.rm_sets.proofs.Once.{get_or-below, length-below}
use Rattle.rm_sets.proofs.Sets.{below-all_below, IsSetBelow-all_below}
use Rattle.rm_case.specs.Case.{CaseData, IsCase, market, regions}
use Rattle.rm_case.specs.Compiled.{capacities_in, cap_of_prefecture, compiled_board, compiled_steps, entry_of_prefecture, order_of_prefecture, region_of, regions_of, seat_of}
use Rattle.rm_case.specs.Regions.{AreRegionsOf, RegionsAreCompiled}
use Rattle.rm_case.specs.Suits.{IsEntryOf, SuitsRoster}
use Rattle.rm_case.proofs.OrderLemmas.{entry_named, names_prefecture, some_same}
use Rattle.rm_case.proofs.RegionsNodes.{group_node_at, hospital_node_at, in_hospital_node, leaf_is, nodes_long, opened_board}
use Rattle.rm_case.proofs.RegionsSums.{sum_alike, sum_by_map}
use Rattle.rm_case.proofs.TurnLemmas.{find_seat, has_turn, in_order}

-- a hospital has a seat exactly where it stands in the order
any_seat : (r : RosterData) (h : ℕ) (order : List ℕ) → list_any (λ s. s.hospital == h) (map (seat_of r) order) ≡ has h order
any_seat r h [] = refl
any_seat r h (x ∷ order) = ap₂ (λ a b. a || b) (eqb-sym x h) (any_seat r h order)

module _ (r : RosterData) (p : PolicyData) (roster : IsRoster r) (policy : IsPolicy p) (fits : SuitsRoster r p) where
  abbrev order : ℕ → List ℕ
  order q = order_of_prefecture r p q

  abbrev prefectures : ℕ
  prefectures = length r.prefectures

  abbrev rs : List Region
  rs = map (region_of r p) (below prefectures)

  -- ---- each region

  seat_is : (q j : ℕ) → j < length (order q) → seat_at (region_of r p q) j ≡ seat_of r (get_or (order q) j 0)
  seat_is q j lt = get_or-map (seat_of r) (order q) j 0 no_seat lt

  -- a sum over the seats is one over the prefecture's hospitals
  seats_sum : (f : Seat → ℕ) (q : ℕ) → q < prefectures → sum_by f (region_of r p q).seats ≡ sum_by (λ h. f (seat_of r h)) (hospitals_in r q)
  seats_sum f q lt =
      sum_by_map f (seat_of r) (order q)
      ∙ sum_alike (λ h. f (seat_of r h)) (length r.hospitals) (order q) (hospitals_in r q) (fits.orders q lt).once (IsSetBelow-all_below (length r.hospitals) (λ h. get_or r.prefecture_of h 0 == q)) (fits.orders q lt).hospitals

  target_within : (h : ℕ) → h < length r.hospitals → get_or r.targets h 0 ≤ get_or r.capacities h 0
  target_within h lt = AllZip-get_or (λ target capacity. target ≤ capacity) r.targets r.capacities h 0 0 roster.targets (omega (arith, lt, roster.target_each))

  seat_targets : (q : ℕ) → q < prefectures → All (λ s. s.target ≤ s.capacity) (region_of r p q).seats
  seat_targets q lt =
      All-map (λ s. s.target ≤ s.capacity) (seat_of r) (order q)
      (All-from_members (λ h. get_or r.targets h 0 ≤ get_or r.capacities h 0) (order q) (λ h i. target_within h (in_order r p q h fits lt i).0))

  -- without an entry the cap is the sum of the capacities
  free_cap : (q : ℕ) → q < prefectures → entry_of_prefecture r p q ≡ None → cap_of_prefecture r p q ≡ sum_by (λ s. s.capacity) (region_of r p q).seats
  free_cap q lt none = ap (λ (o : Option ℕ). option_map_or (λ g. length (get_or p.groups.steps g [])) o (capacities_in r q)) none ∙ sym (seats_sum (λ s. s.capacity) q lt)

  free_targets : (q : ℕ) → q < prefectures → entry_of_prefecture r p q ≡ None → sum_by (λ s. s.target) (region_of r p q).seats ≤ cap_of_prefecture r p q
  free_targets q lt none =
      let seats = (region_of r p q).seats in
      let all = seat_targets q lt in
      omega (arith, free_cap q lt none, sums_le (λ (s : Seat). s.target) (λ (s : Seat). s.capacity) seats no_seat (λ k lk. all k no_seat lk))

  hospitals_apart : (q : ℕ) → q < prefectures → AllPairs (λ s t. s.hospital ≢ t.hospital) (region_of r p q).seats
  hospitals_apart q lt i j d less lj e =
      let long = length-map (order q) (seat_of r) in
      let hospital = λ (s : Seat). s.hospital in
      let first = ap hospital (get_or-map (seat_of r) (order q) i 0 d (omega (arith, less, lj, long))) in
      let second = ap hospital (get_or-map (seat_of r) (order q) j 0 d (omega (arith, lj, long))) in
      AllPairs-from_IsDistinct Decides-eqb (order q) (fits.orders q lt).once i j 0 less (omega (arith, lj, long)) (sym first ∙ e ∙ second)

  -- ---- the places of hospitals

  rs_long : length rs ≡ prefectures
  rs_long = length-map (below prefectures) (region_of r p) ∙ length-below prefectures

  region_is : (q : ℕ) → q < prefectures → region_at rs q ≡ region_of r p q
  region_is q lt = get_or-map (region_of r p) (below prefectures) q 0 no_region (omega (arith, lt, length-below prefectures)) ∙ ap (region_of r p) (get_or-below prefectures q 0 lt)

  place_at : (q j : ℕ) → q < prefectures → j < length (order q) → IsPlace rs (get_or (order q) j 0) q j
  place_at q j lq lj = record {
    region = omega (arith, lq, rs_long);
    seat = subst (λ g. j < length g.seats) (sym (region_is q lq)) (omega (arith, lj, length-map (order q) (seat_of r)));
    hospital = subst (λ g. (seat_at g j).hospital ≡ get_or (order q) j 0) (sym (region_is q lq)) (ap (λ (s : Seat). s.hospital) (seat_is q j lj));
  }

  -- a place is one in an order
  place_is : (h q j : ℕ) → IsPlace rs h q j → (q < prefectures) × (j < length (order q)) × (get_or (order q) j 0 ≡ h)
  place_is h q j at =
      let lq : q < prefectures = omega (arith, at.region, rs_long) in
      let inside : j < length (region_of r p q).seats = subst (λ g. j < length g.seats) (region_is q lq) at.seat in
      let lj : j < length (order q) = omega (arith, inside, length-map (order q) (seat_of r)) in
      (lq, lj, sym (ap (λ (s : Seat). s.hospital) (seat_is q j lj)) ∙ subst (λ g. (seat_at g j).hospital ≡ h) (region_is q lq) at.hospital)

  its_prefecture : (h q j : ℕ) → IsPlace rs h q j → (h < length r.hospitals) × (get_or r.prefecture_of h 0 ≡ q)
  its_prefecture h q j at =
      let is = place_is h q j at in
      in_order r p q h fits is.0 (subst (λ (k : ℕ). IsIn k (order q)) is.2 (IsIn-get_or (order q) j 0 is.1))

  placed : (h : ℕ) → h < length r.hospitals → (q : ℕ) × (j : ℕ) × IsPlace rs h q j
  placed h lt =
      let q = get_or r.prefecture_of h 0 in
      let lq : q < prefectures = roster.prefecture_of h 0 (omega (arith, lt, roster.prefecture_each)) in
      let at = place_from_IsIn (order q) h 0 (has_turn r p h fits lq lt) in
      (q, at.0, subst (λ (k : ℕ). IsPlace rs k q at.0) at.2 (place_at q at.0 lq at.1))

  -- ---- with a flexible policy

  module _ (flexible : is_flexible p.kind ≡ true) where
    -- the entry of a prefecture
    entry_at : (q g : ℕ) → q < prefectures → entry_of_prefecture r p q ≡ Some g → (g < length p.groups.members) × IsEntryOf r p q g
    entry_at q g lt is =
        let lg : g < length p.groups.members = omega (arith, (entry_named r p q g is).0, policy.few_orders) in
        let entry = fits.flexible flexible g lg in
        let same : entry.0 ≡ q = some_same entry.0 q (sym (names_prefecture r p entry.0 g roster entry.1.prefecture entry.1.entry) ∙ names_prefecture r p q g roster lt is) in
        (lg, subst (λ (k : ℕ). IsEntryOf r p k g) same entry.1)

    pub region_good : (q : ℕ) → q < prefectures → IsRegion (region_of r p q)
    region_good q lt = record { targets = seat_targets q lt; cap = by (entry_of_prefecture r p q) refl; apart = hospitals_apart q lt }
      where
        by : (o : Option ℕ) → entry_of_prefecture r p q ≡ o → sum_by (λ s. s.target) (region_of r p q).seats ≤ cap_of_prefecture r p q
        by None is = free_targets q lt is
        by (Some g) is = omega (arith, seats_sum (λ s. s.target) q lt, (entry_at q g lt is).1.targets)

    regions_good : All IsRegion rs
    regions_good = All-map IsRegion (region_of r p) (below prefectures) (All-from_members (λ q. IsRegion (region_of r p q)) (below prefectures) (λ q i. region_good q (below-all_below prefectures (λ k. true) q i).0))

    abbrev b : Board
    b = opened_board r p

    abbrev hospitals : ℕ
    hospitals = length r.ranks

    are_regions : IsRegions (contract_count b) (hospital_of b) rs
    are_regions =
        regions_from_hospitals b rs regions_good (λ h i j k l one two. sym (its_prefecture h i j one).1 ∙ (its_prefecture h k l two).1)
        (λ h lt. placed h (omega (arith, lt, roster.rank_each)))

    -- ---- the nodes

    board_long : length b.nodes ≡ hospitals + length p.groups.members
    board_long = nodes_long r p policy

    seat_steps_are : (q j : ℕ) → q < prefectures → j < length (order q) → compiled_steps r p (get_or (order q) j 0) ≡ seat_steps (region_of r p q) (j + 1) (seat_at (region_of r p q) j)
    seat_steps_are q j lq lj =
        let h = get_or (order q) j 0 in
        let own : get_or r.prefecture_of h 0 ≡ q = (in_order r p q h fits lq (IsIn-get_or (order q) j 0 lj)).1 in
        let place : 1 + j ≡ j + 1 = omega arith in
        rw (flexible, own, find_seat r (order q) 1 j (fits.orders q lq).once lj, seat_is q j lj, place) refl

    seat_node : (q j : ℕ) → q < prefectures → j < length (order q) → IsSeatNode b (region_of r p q) j (node_at b (get_or (order q) j 0))
    seat_node q j lq lj =
        let h = get_or (order q) j 0 in
        let low : h < hospitals = omega (arith, (in_order r p q h fits lq (IsIn-get_or (order q) j 0 lj)).0, roster.rank_each) in
        let node = hospital_node_at r p h low in
        record {
          contracts = λ x lt.
              in_hospital_node r p (node_at b h) h x (ap (λ (n : Node). n.leaves) node) lt
              ∙ ap (λ (s : Seat). hospital_of b x == s.hospital) (sym (seat_is q j lj));
          steps = ap (λ (n : Node). n.steps) node ∙ seat_steps_are q j lq lj;
        }

    cap_node : (q k : ℕ) → hospitals ≤ k → k - hospitals < length p.groups.members → IsEntryOf r p q (k - hospitals) → IsCapNode b (region_of r p q) (node_at b k)
    cap_node q k le lt entry =
        let node = group_node_at r p k policy le lt in
        record {
          contracts = λ x lx.
              ap₂ has (leaf_is r p x lx) (ap (λ (n : Node). n.leaves) node ∙ entry.hospitals)
              ∙ (sym ((fits.orders q entry.prefecture).hospitals (hospital_of b x)) ∙ sym (any_seat r (hospital_of b x) (order q)));
          steps = ap (λ (n : Node). n.steps) node ∙ entry.steps;
        }

    region_cap : (q k : ℕ) → q < prefectures → IsCapNode b (region_of r p q) (node_at b k) → IsCapNode b (region_at rs q) (node_at b k)
    region_cap q k lt node = subst (λ g. IsCapNode b g (node_at b k)) (sym (region_is q lt)) node

    are_compiled : IsCompiled b rs
    are_compiled = record { hospitals = of_hospitals; others = others; caps = caps }
      where
        of_hospitals : (h i j : ℕ) → IsPlace rs h i j → (h < length b.nodes) × IsSeatNode b (region_at rs i) j (node_at b h)
        of_hospitals h i j at =
            let is = place_is h i j at in
            let node = subst (λ (k : ℕ). IsSeatNode b (region_of r p i) j (node_at b k)) is.2 (seat_node i j is.0 is.1) in
            (omega (arith, (its_prefecture h i j at).0, roster.rank_each, board_long), subst (λ g. IsSeatNode b g j (node_at b h)) (sym (region_is i is.0)) node)

        others : (k : ℕ) → k < length b.nodes → ((i : ℕ) × (j : ℕ) × IsPlace rs k i j) ⊎ ((i : ℕ) × (i < length rs) × IsCapNode b (region_at rs i) (node_at b k))
        others k lt = elim (cases_lt k hospitals) [
          | inl low ↦ inl (placed k (omega (arith, low, roster.rank_each)))
          | inr high ↦
              let lg : k - hospitals < length p.groups.members = omega (arith, lt, high, board_long) in
              let entry = fits.flexible flexible (k - hospitals) lg in
              inr (entry.0, omega (arith, entry.1.prefecture, rs_long), region_cap entry.0 k entry.1.prefecture (cap_node entry.0 k high lg entry.1))
        ]

        caps : (i : ℕ) → i < length rs → ((k : ℕ) × (k < length b.nodes) × IsCapNode b (region_at rs i) (node_at b k)) ⊎ ((region_at rs i).cap ≡ sum_by (λ s. s.capacity) (region_at rs i).seats)
        caps i lt = by (entry_of_prefecture r p i) refl
          where
            low : i < prefectures
            low = omega (arith, lt, rs_long)

            by : (o : Option ℕ) → entry_of_prefecture r p i ≡ o → ((k : ℕ) × (k < length b.nodes) × IsCapNode b (region_at rs i) (node_at b k)) ⊎ ((region_at rs i).cap ≡ sum_by (λ s. s.capacity) (region_at rs i).seats)
            by None is = inr (subst (λ g. g.cap ≡ sum_by (λ s. s.capacity) g.seats) (sym (region_is i low)) (free_cap i low is))
            by (Some g) is =
                let entry = entry_at i g low is in
                let same : g ≡ (hospitals + g) - hospitals = omega arith in
                let here = subst (IsEntryOf r p i) same entry.1 in
                let lg : (hospitals + g) - hospitals < length p.groups.members = omega (arith, entry.0) in
                inl (hospitals + g, omega (arith, entry.0, board_long), region_cap i (hospitals + g) low (cap_node i (hospitals + g) (omega arith) lg here))

pub regions_are : (r : RosterData) (p : PolicyData) → is_flexible p.kind ≡ true → regions_of r p ≡ map (region_of r p) (below (length r.prefectures))
unfolding regions_of
regions_are r p flexible = ap (λ (c : Bool). cond c (map (region_of r p) (below (length r.prefectures))) []) flexible

-- a flexible policy's regions make its board
pub regions_are_compiled : (r : RosterData) (p : PolicyData) → IsRoster r → IsPolicy p → SuitsRoster r p → RegionsAreCompiled r p
unfolding compiled_board
regions_are_compiled r p roster policy fits flexible =
    subst (AreRegionsOf (compiled_board r p)) (sym (regions_are r p flexible)) (record { lawful = are_regions r p roster policy fits flexible; compiled = are_compiled r p roster policy fits flexible })

-- what holds in each market on the board of its regions holds in each case of a flexible policy
pub in_flexible_cases : (Holds : Market → List Region → Type 0) → InMarketsOfRegions Holds → (c : CaseData) → IsCase c → is_flexible c.policy.kind ≡ true → Holds (market c) (regions c)
in_flexible_cases Holds all c is flexible = let own = is.regions flexible in all (market c) (regions c) is.market own.lawful own.compiled
