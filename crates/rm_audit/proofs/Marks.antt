-- The contracts at the places of doctors, marked one after another.
use Rattle.std.proofs.Common.{◌≡◌, ◌∙◌, ◌+◌, ◌<◌, ◌≤◌, ◌⊎◌, ℕ, zero, suc, List, [], ◌∷◌, Bool, true, false, length, get_or, set, replicate, Option, Some, None, refl, sym, ap, subst, ⊎_elim, arith, length-set, add-one}
use Rattle.std.proofs.lemmas.Bool.{cases_lt, cases_eq, cases_Bool}
use Rattle.std.proofs.lemmas.List.{get_or_past, get_or-set_same, get_or-set_other, get_or-replicate, length-replicate}
use Rattle.std.specs.List.{filter_map, cons_option, enumerate_from}
use Rattle.rm_sets.specs.Sets.{has, IsIn, IsSetBelow, all_below}
use Rattle.rm_sets.proofs.Sets.{IsIn-here, IsIn-later, not_both, same_tests, below-all_below}
use Rattle.rm_sets.proofs.Members.{IsIn-all_below, all_below_has}
use Rattle.rm_market.specs.Board.{Board, contract_count, contract_of}
use Rattle.rm_market.specs.Market.{Market, contract_at, set_of_places}
use Rattle.rm_audit.specs.Blocking.{AreMarks}
use Rattle.rm_audit.proofs.Listed.{placed_at}

-- x is the contract of a doctor at his place
abbrev IsPlacedIn : Board → List (Option ℕ) → ℕ → Type 0
IsPlacedIn b places x = (d : ℕ) × (h : ℕ) × (get_or places d None ≡ Some h) × (contract_of b d h ≡ Some x)

-- the contracts of the first so many doctors are marked
pub record IsMarking (b : Board) (places : List (Option ℕ)) (n : ℕ) (marks : List Bool) : Type 0 where
  pub all : length marks ≡ contract_count b
  pub sound : (x : ℕ) → get_or marks x false ≡ true → IsPlacedIn b places x
  pub complete : (d h x : ℕ) → d < n → get_or places d None ≡ Some h → contract_of b d h ≡ Some x → x < contract_count b → get_or marks x false ≡ true

pub none_marked : (b : Board) (places : List (Option ℕ)) (marks : List Bool) → marks ≡ replicate (contract_count b) false → IsMarking b places 0 marks
none_marked b places marks e = record {
  all = ap length e ∙ length-replicate (contract_count b) false;
  sound = λ x t. absurd (not_both (get_or marks x false) t (ap (λ l. get_or l x false) e ∙ none x));
  complete = λ d h x lt. absurd (omega arith);
}
  where
    none : (x : ℕ) → get_or (replicate (contract_count b) false) x false ≡ false
    none x = ⊎_elim (λ lt. get_or-replicate (contract_count b) x false false lt) (λ ge. get_or_past (replicate (contract_count b) false) x false (let l = length-replicate (contract_count b) false in omega arith)) (cases_lt x (contract_count b))

some_same : {A : Type 0} (x y : A) → Some x ≡ Some y → x ≡ y
some_same x y e = cc

-- a doctor without a place, or whose hospital doesn't rank him
pub marks_stay : (b : Board) (places : List (Option ℕ)) (n : ℕ) (marks : List Bool) → ((h x : ℕ) → get_or places n None ≡ Some h → contract_of b n h ≡ Some x → ⊥) → IsMarking b places n marks → IsMarking b places (n + 1) marks
marks_stay b places n marks none m = record {
  all = m.all;
  sound = m.sound;
  complete = λ d h x lt place is lx. ⊎_elim
      (λ same. absurd (none h x (subst (λ e. get_or places e None ≡ Some h) same place) (subst (λ e. contract_of b e h ≡ Some x) same is)))
      (λ other. m.complete d h x (omega (arith, other, lt)) place is lx)
      (cases_eq d n);
}

pub unranked_place : (b : Board) (places : List (Option ℕ)) (n g : ℕ) → get_or places n None ≡ Some g → contract_of b n g ≡ None → (h x : ℕ) → get_or places n None ≡ Some h → contract_of b n h ≡ Some x → ⊥
unranked_place b places n g place none h x same is =
    let e : h ≡ g = some_same h g (sym same ∙ place) in
    let gone : contract_of b n h ≡ None = ap (contract_of b n) e ∙ none in
    cc

pub marked_more : (b : Board) (places : List (Option ℕ)) (n : ℕ) (marks : List Bool) (h x : ℕ) → get_or places n None ≡ Some h → contract_of b n h ≡ Some x → x < length marks → IsMarking b places n marks → IsMarking b places (n + 1) (set marks x true)
marked_more b places n marks h x place is lx m = record {
  all = length-set marks x true ∙ m.all;
  sound = λ y t. ⊎_elim
      (λ same. (n, h, place, is ∙ ap Some (sym same)))
      (λ other. m.sound y (sym (get_or-set_other marks x y true false other) ∙ t))
      (cases_eq y x);
  complete = λ d g y lt place_d is_d ly. ⊎_elim
      (λ same. ap (λ z. get_or (set marks x true) z false) same ∙ get_or-set_same marks x true false lx)
      (λ other. get_or-set_other marks x y true false other ∙ ⊎_elim
      (λ same_d. absurd (other (one d g y same_d place_d is_d)))
      (λ later. m.complete d g y (omega (arith, later, lt)) place_d is_d ly)
      (cases_eq d n))
      (cases_eq y x);
}
  where
    one : (d g y : ℕ) → d ≡ n → get_or places d None ≡ Some g → contract_of b d g ≡ Some y → y ≡ x
    one d g y e q r =
        let same : g ≡ h = some_same g h (sym q ∙ (ap (λ k. get_or places k None) e ∙ place)) in
        some_same y x (sym r ∙ (ap (λ k. contract_of b k g) e ∙ (ap (λ k. contract_of b n k) same ∙ is)))

-- the contract of a doctor at his place is one of those of the places
in_places : (b : Board) (n : ℕ) (places : List (Option ℕ)) (d h x : ℕ) → get_or places d None ≡ Some h → contract_of b (n + d) h ≡ Some x → IsIn x (filter_map (λ e. contract_at b e.0 e.1) (enumerate_from n places))
in_places b n [] d h x place is = absurd (cc)
in_places b n (p ∷ places) zero h x place is =
    let zero_more : n + 0 ≡ n = omega arith in
    let here : contract_at b n p ≡ Some x = ap (contract_at b n) place ∙ subst (λ k. contract_of b k h ≡ Some x) zero_more is in
    subst (λ o. IsIn x (cons_option o (filter_map (λ e. contract_at b e.0 e.1) (enumerate_from (n + 1) places)))) (sym here) (IsIn-here x (filter_map (λ e. contract_at b e.0 e.1) (enumerate_from (n + 1) places)))
in_places b n (p ∷ places) (suc d) h x place is =
    let e : n + suc d ≡ n + 1 + d = omega arith in
    behind (contract_at b n p) (in_places b (n + 1) places d h x place (subst (λ k. contract_of b k h ≡ Some x) e is))
  where
    behind : (o : Option ℕ) → IsIn x (filter_map (λ e. contract_at b e.0 e.1) (enumerate_from (n + 1) places)) → IsIn x (cons_option o (filter_map (λ e. contract_at b e.0 e.1) (enumerate_from (n + 1) places)))
    behind None i = i
    behind (Some y) i = IsIn-later x y (filter_map (λ e. contract_at b e.0 e.1) (enumerate_from (n + 1) places)) i

-- all doctors
pub all_marked : (m : Market) (b : Board) (places : List (Option ℕ)) (n : ℕ) (marks : List Bool) → b ≡ m.board → length places ≤ n → IsMarking b places n marks → AreMarks (contract_count m.board) (set_of_places m places) marks
unfolding set_of_places
all_marked m b places n marks same past k = told (subst (λ c. IsMarking c places n marks) same k)
  where
    told : IsMarking m.board places n marks → AreMarks (contract_count m.board) (all_below (contract_count m.board) (λ x. has x (filter_map (λ e. contract_at m.board e.0 e.1) (enumerate_from 0 places)))) marks
    told k = record {
      all = k.all;
      each = λ x lx. same_tests (get_or marks x false) (has x (all_below (contract_count m.board) (λ y. has y (filter_map (λ e. contract_at m.board e.0 e.1) (enumerate_from 0 places)))))
          (λ t.
          let p = k.sound x t in
          IsIn-all_below (contract_count m.board) (λ y. has y (filter_map (λ e. contract_at m.board e.0 e.1) (enumerate_from 0 places))) x lx
          (in_places m.board 0 places p.0 p.1 x p.2 (let z : 0 + p.0 ≡ p.0 = omega arith in subst (λ e. contract_of m.board e p.1 ≡ Some x) (sym z) p.3)))
          (λ i.
          let p = placed_at m.board 0 places x (below-all_below (contract_count m.board) (λ y. has y (filter_map (λ e. contract_at m.board e.0 e.1) (enumerate_from 0 places))) x i).1 in
          let z : 0 + p.0 ≡ p.0 = omega arith in
          let low : p.0 < n = ⊎_elim (λ lt. omega arith) (λ ge. absurd (let none = get_or_past places p.0 None ge in let place = p.2 in cc)) (cases_lt p.0 (length places)) in
          k.complete p.0 p.1 x low p.2 (subst (λ e. contract_of m.board e p.1 ≡ Some x) z p.3) lx);
    }

-- the marked ones are the set
pub marked_set : (n : ℕ) (S : List ℕ) (marks : List Bool) → IsSetBelow n S → AreMarks n S marks → all_below n (λ x. get_or marks x false) ≡ S
marked_set n S marks sS m = alike n (λ x. get_or marks x false) (λ x. has x S) m.each ∙ all_below_has n S sS
  where
    alike : (n : ℕ) (p q : ℕ → Bool) → ((x : ℕ) → x < n → p x ≡ q x) → all_below n p ≡ all_below n q
    alike zero p q same = refl
    alike (suc n) p q same = rw (alike n p q (λ x lt. same x (omega arith)), same n (omega arith)) refl
