-- Texts of one small case, computed: a hospital in two groups, of which the inner one is its prefecture's entry, and four doctors.
use Rattle.std.proofs.Common.{◌≡◌, length, [], ◌∷◌, Some, None, refl, codes, true, false, pos, negsuc}
use Rattle.rm_sets.specs.Sets as sets
use Rattle.rm_market.specs.Board.{contract_count}
use Rattle.rm_market.specs.Tree.{depth, chain}
use Rattle.rm_policy.specs.declared.Kind.TheVariants.{Steps}
use Rattle.rm_policy.specs.declared.Ties.TheVariants.{ByRank}
use Rattle.rm_case.specs.Compiled.{compiled_board}
use Rattle.rm_case.specs.Case.{CaseData, market}
use Rattle.rm_report.specs.Report.{prefecture_text}
use Rattle.rm_report.specs.Texts.{csv_text, pair_text, placement_text, listed_count, tree_depth, number_line, certificate_row}
use Rattle.csv.specs.Writing.{escaped, fields_text, is_blank}
use Rattle.std.specs.Fmt.{digits}

abbrev small : CaseData
small =
    record {
      roster = record {
        hospitals = codes "H,1" ∷ [];
        prefectures = codes "P" ∷ [];
        doctors = codes "A" ∷ codes "B" ∷ codes "C" ∷ codes "D" ∷ [];
        prefecture_of = 0 ∷ [];
        capacities = 2 ∷ [];
        targets = 0 ∷ [];
        lists = (0 ∷ []) ∷ (0 ∷ []) ∷ (0 ∷ []) ∷ (0 ∷ []) ∷ [];
        ranks = (0 ∷ 1 ∷ 2 ∷ 3 ∷ []) ∷ [];
      };
      policy = record {
        kind = Steps;
        ties = ByRank;
        listed = [];
        groups = record { names = codes "P" ∷ codes "all" ∷ []; members = (0 ∷ []) ∷ (0 ∷ []) ∷ []; steps = (pos 0 ∷ []) ∷ (pos 0 ∷ []) ∷ []; by_cap = true ∷ true ∷ [] };
        orders = None ∷ [];
        hospital_steps = [];
      };
    }

placed : placement_text small (Some 0 ∷ None ∷ None ∷ None ∷ []) ≡ codes "doctor,hospital\nA,\"H,1\"\nB,\nC,\nD,\n"
unfolding placement_text csv_text escaped fields_text is_blank
placed = refl

paired : pair_text small (Some 0 ∷ None ∷ None ∷ None ∷ []) (None ∷ Some 0 ∷ None ∷ None ∷ []) ≡ codes "doctor,declared,replaced\nA,\"H,1\",\nB,,\"H,1\"\nC,,\nD,,\n"
unfolding pair_text csv_text escaped fields_text is_blank
paired = refl

contracts-counted : contract_count (market small).board ≡ 4
unfolding compiled_board
contracts-counted = refl

listed-counted : listed_count small ≡ 4
unfolding compiled_board
listed-counted = refl

nodes-counted : length (market small).board.nodes ≡ 3
unfolding compiled_board
nodes-counted = refl

depth-counted : tree_depth (market small).board ≡ 3
unfolding compiled_board depth chain sets.minus
depth-counted = refl

line-written : number_line (codes "depth") 3 ≡ codes "depth 3\n"
unfolding digits
line-written = refl

certified :
    certificate_row small (record { contract = 2; kept = false; change = Some (negsuc 4); full = Some 1; swap = Some (record { out = 0; change = pos 7 }) })
    ≡ codes "C" ∷ codes "H,1" ∷ codes "refused" ∷ codes "-5" ∷ codes "prefecture P" ∷ codes "A" ∷ codes "H,1" ∷ codes "7" ∷ []
unfolding compiled_board digits
certified = refl

-- two prefectures, and three doctors of whom two apply at both hospitals of the first or at one of them
abbrev two : CaseData
two =
    record {
      roster = record {
        hospitals = codes "H1" ∷ codes "H2" ∷ codes "H3" ∷ [];
        prefectures = codes "P" ∷ codes "Q" ∷ [];
        doctors = codes "A" ∷ codes "B" ∷ codes "C" ∷ [];
        prefecture_of = 0 ∷ 1 ∷ 0 ∷ [];
        capacities = 1 ∷ 2 ∷ 1 ∷ [];
        targets = 0 ∷ 2 ∷ 1 ∷ [];
        lists = (0 ∷ 2 ∷ []) ∷ (2 ∷ 0 ∷ []) ∷ (1 ∷ 0 ∷ []) ∷ [];
        ranks = (0 ∷ 1 ∷ []) ∷ (2 ∷ []) ∷ (0 ∷ []) ∷ [];
      };
      policy = record {
        kind = Steps;
        ties = ByRank;
        listed = [];
        groups = record { names = codes "P" ∷ []; members = (0 ∷ 2 ∷ []) ∷ []; steps = (pos 0 ∷ pos 0 ∷ []) ∷ []; by_cap = true ∷ [] };
        orders = None ∷ [];
        hospital_steps = [];
      };
    }

-- C's first hospital, and B's, is the first that ranks him; a hospital that doesn't rank B counts him nowhere
reported : prefecture_text two (Some 2 ∷ Some 0 ∷ Some 1 ∷ [])
    ≡ codes "prefecture,hospital,capacity,target,cap,placed,applicants,first\nP,H1,1,0,,1,2,1\nP,H3,1,1,,1,1,0\nP,,2,1,2,2,2,1\nQ,H2,2,2,,1,1,1\nQ,,2,2,,1,1,1\n,,4,3,,3,3,2\n"
unfolding prefecture_text csv_text escaped fields_text is_blank compiled_board digits
reported = refl
