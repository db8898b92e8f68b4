-- The board that the tree, the steps with a raised cap and the tie rule make is that of the case with the raised cap.
use Rattle.std.proofs.Common.{◌≡◌, ◌∙◌, ◌+◌, ◌-◌, ◌<◌, ◌≤◌, ℕ, zero, suc, true, false, List, [], ◌∷◌, ◌++◌, length, get_or, set, drop, replicate, map, ℤ, pos, All, refl, sym, ap, ap₂, subst, arith, get_or-set_other}
use Rattle.std.proofs.lemmas.List.{set-append_right, drop-set-add}
use Rattle.std.proofs.lemmas.Option.{get_or_from_slice_get}
use Rattle.rm_board.specs.Boards.{board_of as built_board}
use Rattle.rm_board.specs.Rules.{order_of}
use Rattle.rm_board.specs.declared.ties.TieRule.{TieRule}
use Rattle.rm_board_laws.specs.HospitalBoards.{group_nodes, hospital_nodes}
use Rattle.rm_market.specs.Board.{Board, Node, node_at, pairs_of}
use Rattle.rm_market.specs.Market.{IsMarket}
use Rattle.rm_market.specs.Tree.{TreeOf}
use Rattle.rm_relax_laws.specs.Raised.{IsRaisedCap}
use Rattle.rm_relax_laws.proofs.Results.{stays_market_with_cap}
use Rattle.rm_relax_laws.proofs.Roots.{roots_have_no_parent}
use Rattle.rm_policy.specs.Policy.{PolicyData, IsPolicy}
use Rattle.rm_roster.specs.Roster.{RosterData, IsRoster}
use Rattle.rm_case.specs.Case.{CaseData, IsCase, market}
use Rattle.rm_case.specs.Compiled.{compiled_board, compiled_steps}
use Rattle.rm_case.specs.NodeSteps.{node_steps}
use Rattle.rm_case.specs.Raised.{MayRaise, node_of_group, raised}
use Rattle.rm_case.specs.Suits.{IsRuleOf}
use Rattle.rm_case.proofs.BoardLemmas.{groups_after, map_below, own_at, rule_order}
use Rattle.rm_case.proofs.RegionsNodes.{group_node_at, nodes_long, opened_board, own_long}

-- the groups where one of them has other steps
set_group : (sets : List (List ℕ)) (steps : List (List ℤ)) (g : ℕ) (s : List ℤ) → length steps ≡ length sets → g < length sets
    → group_nodes sets (set steps g s) ≡ set (group_nodes sets steps) g (record { leaves = get_or sets g []; steps = s })
set_group [] steps g s e lt = absurd (omega (arith, lt))
set_group (m ∷ sets) [] g s e lt = absurd (omega (arith, e))
set_group (m ∷ sets) (t ∷ steps) zero s e lt = refl
set_group (m ∷ sets) (t ∷ steps) (suc g) s e lt = ap (λ (L : List Node). record { leaves = m; steps = t } ∷ L) (set_group sets steps g s (omega (arith, e)) (omega (arith, lt)))

module _ (r : RosterData) (p : PolicyData) (roster : IsRoster r) (policy : IsPolicy p) (g : ℕ) (lt : g < length p.groups.members) where
  abbrev n : ℕ
  n = length r.hospitals

  abbrev own : List Node
  own = hospital_nodes (length r.ranks) (compiled_steps r p)

  abbrev groups : List Node
  groups = group_nodes p.groups.members p.groups.steps

  -- the node of the group, told by the policy
  pub raised_node : node_at (opened_board r p) (n + g) ≡ record { leaves = get_or p.groups.members g []; steps = get_or p.groups.steps g [] }
  raised_node =
      let same : (n + g) - length r.ranks ≡ g = omega (arith, roster.rank_each) in
      group_node_at r p (n + g) policy (omega (arith, roster.rank_each)) (omega (arith, lt, same))
      ∙ ap (λ (k : ℕ). record { leaves = get_or p.groups.members k []; steps = get_or p.groups.steps k [] }) same

  module _ (s : List ℤ) where
    abbrev steps : List (List ℤ)
    steps = set (node_steps r p) (n + g) s

    own_same : hospital_nodes (length r.ranks) (λ h. get_or steps h []) ≡ own
    own_same =
        map_below (λ h. record { leaves = h ∷ []; steps = get_or steps h [] }) (λ h. record { leaves = h ∷ []; steps = compiled_steps r p h }) (length r.ranks)
        (λ h low. ap (λ (t : List ℤ). record { leaves = h ∷ []; steps = t })
        (get_or-set_other (node_steps r p) (n + g) h s [] (λ e. absurd (omega (arith, e, low, roster.rank_each))) ∙ own_at r p h (omega (arith, low, roster.rank_each))))

    group_raised : group_nodes p.groups.members (drop n steps) ≡ set groups g (record { leaves = get_or p.groups.members g []; steps = s })
    group_raised =
        ap (group_nodes p.groups.members) (drop-set-add n (node_steps r p) g s ∙ ap (λ (L : List (List ℤ)). set L g s) (groups_after r p))
        ∙ set_group p.groups.members p.groups.steps g s policy.steps_each lt

    pub raised_nodes : hospital_nodes (length r.ranks) (λ h. get_or steps h []) ++ group_nodes p.groups.members (drop n steps)
        ≡ set (own ++ groups) (n + g) (record { leaves = (node_at (opened_board r p) (n + g)).leaves; steps = s })
    raised_nodes =
        let long : length own ≡ n = own_long r p ∙ roster.rank_each in
        let same : (n + g) - n ≡ g = omega arith in
        let node : Node = record { leaves = get_or p.groups.members g []; steps = s } in
        ap₂ (λ (L M : List Node). L ++ M) own_same group_raised
        ∙ (ap (λ (k : ℕ). own ++ set groups k node) (sym same)
        ∙ (sym (set-append_right own groups n (n + g) node long (omega arith))
        ∙ ap (λ (m : Node). set (own ++ groups) (n + g) (record { leaves = m.leaves; steps = s })) (sym raised_node)))

pub raised_made : (r : RosterData) (p : PolicyData) (tree : TreeOf) (steps : List (List ℤ)) (t : TieRule) (board : Board) (g cap : ℕ) → IsRoster r → IsPolicy p → IsRuleOf p t → g < length p.groups.members
    → tree ≡ record { hospitals = length r.hospitals; groups = p.groups.members } → steps ≡ set (node_steps r p) (length r.hospitals + g) (replicate cap (pos 0)) → board ≡ built_board r.ranks tree steps (order_of r.ranks t)
    → board ≡ (raised (record { roster = r; policy = p }) g cap).board
unfolding compiled_board
raised_made r p tree steps t board g cap roster policy e lt tree_is steps_are made =
    made
    ∙ (ap₂ (λ (T : TreeOf) (L : List (List ℤ)). built_board r.ranks T L (order_of r.ranks t)) tree_is steps_are
    ∙ ap₂ (λ (nodes : List Node) (ties : List ℕ). record { ranks = r.ranks; leaves = map (λ x. x.1) (pairs_of r.ranks); nodes = nodes; ties = ties })
    (raised_nodes r p roster policy g lt (replicate cap (pos 0))) (rule_order r p t e))

-- the group's cap is an outermost one that is raised
pub is_raised : (c : CaseData) (g cap : ℕ) → IsCase c → MayRaise c g cap → IsRaisedCap (market c).board (node_of_group c g) cap
unfolding compiled_board
is_raised c g cap ok may =
    let node = raised_node c.roster c.policy ok.roster ok.policy g may.group in
    record {
      node = record {
        outermost = record {
          node = omega (arith, may.group, nodes_long c.roster c.policy ok.policy, ok.roster.rank_each);
          root = (roots_have_no_parent (market c).board (node_of_group c g)).1 may.outermost;
        };
        flat = subst (λ (m : Node). All (λ z. z ≡ pos 0) m.steps) (sym node) (ok.policy.caps_flat g (get_or_from_slice_get c.policy.groups.by_cap g true false may.by_cap));
      };
      wide = subst (λ (m : Node). length m.steps ≤ cap) (sym node) may.wide;
    }

pub market_raised : (c : CaseData) (g cap : ℕ) → IsCase c → MayRaise c g cap → IsMarket (raised c g cap)
market_raised c g cap ok may = stays_market_with_cap (market c) ok.market (node_of_group c g) cap (is_raised c g cap ok may)
