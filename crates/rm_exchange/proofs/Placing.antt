-- Places given one after another, and a holder that holds nothing.
use Rattle.std.proofs.Common.{◌≡◌, ◌∙◌, ℕ, ◌+◌, ◌<◌, ◌≤◌, List, [], ◌∷◌, ◌++◌, length, get_or, set, Option, Some, None, refl, sym, ap, subst, ⊎_elim, arith}
use Rattle.std.proofs.lemmas.Bool.{cases_eq, cases_lt}
use Rattle.std.proofs.lemmas.List.{get_or-set_same, get_or-set_other, length-set, length-append, length-map, get_or_append_left}
use Rattle.std.proofs.Math.Seq.{get_or-append_seam}
use Rattle.rm_market.specs.Board.{Board, leaf_of, sets_of}
use Rattle.std.specs.Prelude.{◌^◌, IfSome}
use Rattle.rm_market.specs.Tree.{parent}
use Rattle.rm_exchange.proofs.Homes.{parent_below}
use Rattle.rm_exchange.specs.Holding.{ArePlacedSo, IsEntered}

some_same : (s t : ℕ) → Some s ≡ Some t → s ≡ t
some_same s t e = cc

old_place : (places : List ℕ) (j e p : ℕ) → length places ≡ j → e < j → get_or (places ++ p ∷ []) e 0 ≡ get_or places e 0
old_place places j e p l lt = get_or_append_left places (p ∷ []) 0 e (omega arith)

new_place : (places : List ℕ) (j p : ℕ) → length places ≡ j → get_or (places ++ p ∷ []) j 0 ≡ p
new_place places j p l = ap (λ k. get_or (places ++ p ∷ []) k 0) (sym l) ∙ get_or-append_seam places p [] 0

pub none_placed : (b : Board) (widths : List ℕ) → ((a : ℕ) → get_or widths a 0 ≡ 0) → ArePlacedSo b 0 widths []
none_placed b widths zeros = record {
  all = refl;
  few = λ a. let z = zeros a in omega arith;
  placed = record {
    within = λ e a lt h. absurd (omega arith);
    once = λ e f a le lf h g s. absurd (omega arith);
    filled = λ a i la lt. absurd (let z = zeros a in omega arith);
  };
}

-- a node that lies inside no other
pub skip_placed : (b : Board) (j : ℕ) (widths places : List ℕ) (p : ℕ) → parent (sets_of b) j ≡ None → ArePlacedSo b j widths places → ArePlacedSo b (j + 1) widths (places ++ p ∷ [])
skip_placed b j widths places p none s = record {
  all = length-append places (p ∷ []) ∙ ap (λ k. k + 1) s.all;
  few = λ a. let f = s.few a in omega arith;
  placed = record {
    within = λ e a lt h. ⊎_elim
        (λ old. subst (λ q. q < get_or widths a 0) (sym (old_place places j e p s.all old)) (s.placed.within e a old h))
        (λ ge. absurd (nowhere e a lt ge h))
        (cases_lt e j);
    once = λ e f a le lf h g same.
        ⊎_elim
        (λ olde. ⊎_elim
        (λ oldf. s.placed.once e f a olde oldf h g (sym (old_place places j e p s.all olde) ∙ (same ∙ old_place places j f p s.all oldf)))
        (λ ge. absurd (nowhere f a lf ge g))
        (cases_lt f j))
        (λ ge. absurd (nowhere e a le ge h))
        (cases_lt e j);
    filled = λ a i la lt. let f = s.placed.filled a i la lt in (f.0, omega (arith, f.1), f.2, old_place places j f.0 p s.all f.1 ∙ f.3);
  };
}
  where
    nowhere : (e a : ℕ) → e < j + 1 → j ≤ e → parent (sets_of b) e ≡ Some a → ⊥
    nowhere e a lt ge h = let is : e ≡ j = omega arith in let g = sym (ap (parent (sets_of b)) is) ∙ h in let k = none in cc

-- a node just inside another
pub one_placed : (b : Board) (j c : ℕ) (widths places : List ℕ) → parent (sets_of b) j ≡ Some c → c < length widths → ArePlacedSo b j widths places → ArePlacedSo b (j + 1) (set widths c (get_or widths c 0 + 1)) (places ++ get_or widths c 0 ∷ [])
one_placed b j c widths places here lc s = record {
  all = length-append places (w ∷ []) ∙ ap (λ k. k + 1) s.all;
  few = λ a. ⊎_elim (λ e. let f = s.few c in let g = wider a e in omega arith) (λ ne. let f = s.few a in let g = same_width a ne in omega arith) (cases_eq a c);
  placed = record {
    within = λ e a lt h. ⊎_elim
        (λ old. let q = old_place places j e w s.all old in let p = s.placed.within e a old h in ⊎_elim (λ same. let g = wider a same in let f = ap (λ k. get_or widths k 0) same in omega arith) (λ ne. let g = same_width a ne in omega arith) (cases_eq a c))
        (λ ge. let is : e ≡ j = omega arith in let same = at_home e a is h in let g = wider a same in let q = ap (λ k. get_or (places ++ w ∷ []) k 0) is ∙ new_place places j w s.all in omega arith)
        (cases_lt e j);
    once = λ e f a le lf h g same.
        ⊎_elim
        (λ olde. ⊎_elim
        (λ oldf. s.placed.once e f a olde oldf h g (sym (old_place places j e w s.all olde) ∙ (same ∙ old_place places j f w s.all oldf)))
        (λ ge. absurd (clash e f a olde (omega arith) h g same))
        (cases_lt f j))
        (λ ge. ⊎_elim
        (λ oldf. absurd (clash f e a oldf (omega arith) g h (sym same)))
        (λ gf. omega arith)
        (cases_lt f j))
        (cases_lt e j);
    filled = λ a i la lt. ⊎_elim
        (λ old. let f = s.placed.filled a i la old in (f.0, omega (arith, f.1), f.2, old_place places j f.0 w s.all f.1 ∙ f.3))
        (λ ge. let same = only a i lt ge in (j, omega arith, here ∙ ap (λ k. Some k) (sym same), new_place places j w s.all ∙ last a i same lt ge))
        (cases_lt i (get_or widths a 0));
  };
}
  where
    w : ℕ
    w = get_or widths c 0

    next : List ℕ
    next = set widths c (get_or widths c 0 + 1)

    wider : (a : ℕ) → a ≡ c → get_or (set widths c (get_or widths c 0 + 1)) a 0 ≡ get_or widths c 0 + 1
    wider a e = ap (λ k. get_or (set widths c (get_or widths c 0 + 1)) k 0) e ∙ get_or-set_same widths c (get_or widths c 0 + 1) 0 lc

    same_width : (a : ℕ) → (a ≡ c → ⊥) → get_or (set widths c (get_or widths c 0 + 1)) a 0 ≡ get_or widths a 0
    same_width a ne = get_or-set_other widths c a (get_or widths c 0 + 1) 0 ne

    at_home : (e a : ℕ) → e ≡ j → parent (sets_of b) e ≡ Some a → a ≡ c
    at_home e a is h = some_same a c (sym h ∙ (ap (parent (sets_of b)) is ∙ here))

    clash : (e f a : ℕ) → e < j → f ≡ j → parent (sets_of b) e ≡ Some a → parent (sets_of b) f ≡ Some a → get_or (places ++ get_or widths c 0 ∷ []) e 0 ≡ get_or (places ++ get_or widths c 0 ∷ []) f 0 → ⊥
    clash e f a le is h g same =
        let home_is = at_home f a is g in
        let below = s.placed.within e a le h in
        let width = ap (λ k. get_or widths k 0) home_is in
        let old = old_place places j e (get_or widths c 0) s.all le in
        let new = ap (λ k. get_or (places ++ get_or widths c 0 ∷ []) k 0) is ∙ new_place places j (get_or widths c 0) s.all in
        omega arith

    only : (a i : ℕ) → i < get_or (set widths c (get_or widths c 0 + 1)) a 0 → get_or widths a 0 ≤ i → a ≡ c
    only a i lt ge = ⊎_elim (λ e. e) (λ ne. absurd (let g = same_width a ne in omega arith)) (cases_eq a c)

    last : (a i : ℕ) → a ≡ c → i < get_or (set widths c (get_or widths c 0 + 1)) a 0 → get_or widths a 0 ≤ i → get_or widths c 0 ≡ i
    last a i same lt ge = let g = wider a same in let f = ap (λ k. get_or widths k 0) same in omega arith

-- one node more, wherever it lies
pub entered : (b : Board) (j : ℕ) (node : Option ℕ) (widths new places : List ℕ) (place : ℕ) → parent (sets_of b) j ≡ node → IfSome node (λ k. k < length widths) → IsEntered node widths new place → ArePlacedSo b j widths places → ArePlacedSo b (j + 1) new (places ++ place ∷ []) × (length new ≡ length widths)
entered b j None widths new places place h lt e s = (subst (λ w. ArePlacedSo b (j + 1) w (places ++ place ∷ [])) (sym e) (skip_placed b j widths places place h s), ap length e)
entered b j (Some c) widths new places place h lt e s = (
  subst (λ w. ArePlacedSo b (j + 1) w (places ++ place ∷ [])) (sym e.1) (subst (λ p. ArePlacedSo b (j + 1) (set widths c (get_or widths c 0 + 1)) (places ++ p ∷ [])) (sym e.0) (one_placed b j c widths places h lt s)),
  ap length e.1 ∙ length-set widths c (get_or widths c 0 + 1),
)

pub entered_node : (b : Board) (k : ℕ) (sets : List (List ℕ)) (node : Option ℕ) (widths : List ℕ) → sets ≡ sets_of b → length widths ≡ length b.nodes → k < 2 ^ 39 → node ≡ parent sets k → ((a : ℕ) → get_or widths a 0 ≤ k) → (parent (sets_of b) k ≡ node) × IfSome node (λ a. a < length widths) × IfSome node (λ a. get_or widths a 0 < 2 ^ 40)
entered_node b k sets node widths e wide lk is few = (ap (λ s. parent s k) (sym e) ∙ sym is, within node (sym is), below node)
  where
    within : (n : Option ℕ) → parent sets k ≡ n → IfSome n (λ a. a < length widths)
    within None f = tt
    within (Some a) f = let lt = parent_below sets k a f in let l = ap length e ∙ length-map b.nodes (λ n. n.leaves) in omega arith

    below : (n : Option ℕ) → IfSome n (λ a. get_or widths a 0 < 2 ^ 40)
    below None = tt
    below (Some a) = let f = few a in omega arith

pub one_more : (b : Board) (n hospitals : ℕ) → ((x : ℕ) → x < n → leaf_of b x < hospitals) → leaf_of b n < hospitals → (x : ℕ) → x < n + 1 → leaf_of b x < hospitals
one_more b n hospitals old new x lt = ⊎_elim (λ e. subst (λ w. leaf_of b w < hospitals) (sym e) new) (λ ne. old x (omega arith)) (cases_eq x n)
