-- Groups pass all checks exactly where they make a tree.
use Rattle.std.proofs.Common.{◌≡◌, ℕ, ◌+◌, ◌<◌, Bool, false, List, [], ◌∷◌, ◌++◌, length, get_or, count_by, option_map, nat_le, Option, Some, None, refl, sym, ◌∙◌, subst, subst₂, cond, ⊎_elim, arith, All, AllPairs, append_assoc}
use Rattle.std.specs.Prelude.{position}
use Rattle.std.specs.List.{list_any}
use Rattle.std.proofs.Math.ListN.{get_or-append}
use Rattle.std.proofs.lemmas.Bool.{leb-false, lt-leb}
use Rattle.std.proofs.lemmas.List.{append-nil, length-append}
use Rattle.std.proofs.lemmas.List.Elements.{All-nil, All-cons, All-head, All-tail, All-from_get_or}
use Rattle.std.proofs.lemmas.List.Quantifiers.{all_pairs_push, position-Some}
use Rattle.std.proofs.lemmas.List.Sums.{sum_by-append}
use Rattle.rm_sets.specs.Sets.{has, IsIn}
use Rattle.rm_sets.proofs.Sets.{not_both, cases_has}
use Rattle.rm_sets.proofs.Search.{any_none, none_any}
use Rattle.rm_base.specs.Checks.{check, first_of, checks_from}
use Rattle.rm_base.proofs.CheckLemmas.{first-none}
use Rattle.rm_market.specs.Board.{is_empty, crosses}
use Rattle.rm_market.specs.Tree.{set_of, most_nodes, crossing, group_checks, tree_fault}
use Rattle.rm_market.specs.declared.TreeFault.TheVariants.{Empty, Deep}
use Rattle.rm_board_laws.specs.Groups.{AcceptedGroups}
use Rattle.rm_board_laws.proofs.Searches.{none_cons, none_append, check_none, option_map_none, position_nowhere}

-- ---- one group, after those before it

-- the group isn't empty, none before it crosses it, and none of its hospitals is now in too many
record Fits (before : List (List ℕ)) (group : List ℕ) : Type 0 where
  filled : is_empty group ≡ false
  uncrossed : All (λ earlier. crosses earlier group ≡ false) before
  shallow : (h : ℕ) → IsIn h group → count_by (has h) (before ++ group ∷ []) < most_nodes

abbrev Fit : List (List ℕ) → List (List ℕ) → Type 0
Fit before [] = Unit {0}
Fit before (g ∷ groups) = Fits before g × Fit (before ++ g ∷ []) groups

position_none : (p : List ℕ → Bool) (L : List (List ℕ)) → All (λ x. p x ≡ false) L → position p L ≡ None
position_none p L none = by (position p L) refl
  where
    by : (o : Option ℕ) → position p L ≡ o → position p L ≡ None
    by None e = e
    by (Some i) e = let at = position-Some p L i [] e in absurd (not_both (p (get_or L i [])) at.1 (none i [] at.0))

abbrev is_deep : List (List ℕ) → List ℕ → ℕ → Bool
is_deep before group h = nat_le most_nodes (count_by (has h) (before ++ group ∷ []))

fits_from_checks : (before : List (List ℕ)) (group : List ℕ) → first_of (group_checks before group) ≡ None → Fits before group
fits_from_checks before group e =
    let one = none_cons (check (is_empty group) (Empty (length before))) _ e in
    let two = none_cons (option_map (λ a. crossing a (set_of before a) (length before) group) (position (λ earlier. crosses earlier group) before)) _ one.1 in
    let three = none_cons (check (list_any (is_deep before group) group) (Deep (length before))) [] two.1 in
    let none = position_nowhere (λ earlier. crosses earlier group) before [] (option_map_none (λ a. crossing a (set_of before a) (length before) group) (position (λ earlier. crosses earlier group) before) two.0) in
    let quiet = check_none (list_any (is_deep before group) group) (Deep (length before)) three.0 in
    record {
      filled = check_none (is_empty group) (Empty (length before)) one.0;
      uncrossed = All-from_get_or (λ earlier. crosses earlier group ≡ false) before [] none;
      shallow = λ h i. leb-false most_nodes (count_by (has h) (before ++ group ∷ [])) (any_none (is_deep before group) group quiet h i);
    }

checks_from_fits : (before : List (List ℕ)) (group : List ℕ) → Fits before group → first_of (group_checks before group) ≡ None
checks_from_fits before group f =
    let none = position_none (λ earlier. crosses earlier group) before f.uncrossed in
    let quiet = none_any (is_deep before group) group (λ h i. lt-leb most_nodes (count_by (has h) (before ++ group ∷ [])) (f.shallow h i)) in
    rw (f.filled, none, quiet) refl

-- ---- all groups, each after those before it

fit_from_checks : (before groups : List (List ℕ)) → first_of (checks_from group_checks before groups) ≡ None → Fit before groups
unfolding checks_from
fit_from_checks before [] e = tt
fit_from_checks before (g ∷ groups) e =
    let parts = none_append (group_checks before g) (checks_from group_checks (before ++ g ∷ []) groups) e in
    (fits_from_checks before g parts.0, fit_from_checks (before ++ g ∷ []) groups parts.1)

checks_from_fit : (before groups : List (List ℕ)) → Fit before groups → first_of (checks_from group_checks before groups) ≡ None
unfolding checks_from
checks_from_fit before [] f = refl
checks_from_fit before (g ∷ groups) f =
    first-none (group_checks before g) (checks_from group_checks (before ++ g ∷ []) groups) (checks_from_fits before g f.0) ∙ checks_from_fit (before ++ g ∷ []) groups f.1

-- ---- what this says of the whole list

abbrev Apart : List ℕ → List ℕ → Type 0
Apart g h = crosses g h ≡ false

-- one more group on the left
shift : (P : List (List ℕ) → Type 0) (before groups : List (List ℕ)) (g : List ℕ) → P ((before ++ g ∷ []) ++ groups) → P (before ++ g ∷ groups)
shift P before groups g h = subst P (append_assoc before (g ∷ []) groups) h

unshift : (P : List (List ℕ) → Type 0) (before groups : List (List ℕ)) (g : List ℕ) → P (before ++ g ∷ groups) → P ((before ++ g ∷ []) ++ groups)
unshift P before groups g h = subst P (sym (append_assoc before (g ∷ []) groups)) h

count_joined : (h : ℕ) (A B : List (List ℕ)) → count_by (has h) (A ++ B) ≡ count_by (has h) A + count_by (has h) B
count_joined h A B = sum_by-append (λ g. cond (has h g) 1 0) A B

all_filled : (before groups : List (List ℕ)) → Fit before groups → All (λ g. is_empty g ≡ false) groups
all_filled before [] f = All-nil (λ g. is_empty g ≡ false)
all_filled before (g ∷ groups) f = All-cons (λ g. is_empty g ≡ false) g groups f.0.filled (all_filled (before ++ g ∷ []) groups f.1)

all_apart : (before groups : List (List ℕ)) → Fit before groups → AllPairs Apart before → AllPairs Apart (before ++ groups)
all_apart before [] f h = subst (AllPairs Apart) (sym (append-nil before)) h
all_apart before (g ∷ groups) f h =
    shift (AllPairs Apart) before groups g (all_apart (before ++ g ∷ []) groups f.1 (all_pairs_push Apart before g h f.0.uncrossed))

abbrev AllShallow : List (List ℕ) → Type 0
AllShallow groups = (h : ℕ) → count_by (has h) groups < most_nodes

one_more : (before : List (List ℕ)) (g : List ℕ) → Fits before g → AllShallow before → AllShallow (before ++ g ∷ [])
one_more before g f low h =
    ⊎_elim
    (λ i. f.shallow h i)
    (λ out.
    let e = count_joined h before (g ∷ []) in
    let none : count_by (has h) (g ∷ []) ≡ 0 = rw out refl in
    let l = low h in
    omega arith)
    (cases_has h g)

all_shallow : (before groups : List (List ℕ)) → Fit before groups → AllShallow before → AllShallow (before ++ groups)
all_shallow before [] f low = subst AllShallow (sym (append-nil before)) low
all_shallow before (g ∷ groups) f low =
    shift AllShallow before groups g (all_shallow (before ++ g ∷ []) groups f.1 (one_more before g f.0 low))

at_seam : (before groups : List (List ℕ)) (g d : List ℕ) → get_or (before ++ g ∷ groups) (length before) d ≡ g
at_seam [] groups g d = refl
at_seam (x ∷ before) groups g d = at_seam before groups g d

fit_from_whole : (before groups : List (List ℕ)) → All (λ g. is_empty g ≡ false) groups → AllPairs Apart (before ++ groups) → AllShallow (before ++ groups) → Fit before groups
fit_from_whole before [] filled apart low = tt
fit_from_whole before (g ∷ groups) filled apart low = (
  record {
    filled = All-head (λ g. is_empty g ≡ false) g groups filled;
    uncrossed = λ k d lt.
        let long = length-append before (g ∷ groups) in
        subst₂ Apart (get_or-append before (g ∷ groups) d k lt) (at_seam before groups g d) (apart k (length before) d lt (omega arith));
    shallow = λ h i.
        let whole = low h in
        let e = count_joined h before (g ∷ groups) in
        let s = count_joined h before (g ∷ []) in
        let t = count_joined h (g ∷ []) groups in
        omega arith;
  },
  fit_from_whole (before ++ g ∷ []) groups (All-tail (λ g. is_empty g ≡ false) g groups filled) (unshift (AllPairs Apart) before groups g apart) (unshift AllShallow before groups g low),
)

-- ---- the law

no_pairs : AllPairs Apart []
no_pairs i j d lt ll = absurd (omega arith)

none_deep : AllShallow []
none_deep h = omega arith

pub accepted_groups : (groups : List (List ℕ)) → AcceptedGroups groups
unfolding tree_fault
accepted_groups groups = (
  λ e.
      let f = fit_from_checks [] groups e in
      record { filled = all_filled [] groups f; laminar = all_apart [] groups f no_pairs; shallow = all_shallow [] groups f none_deep },
  λ t. checks_from_fit [] groups (fit_from_whole [] groups t.filled t.laminar t.shallow),
)
