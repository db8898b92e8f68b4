-- The contracts that stand before a doctor's place in his list are those that he wants.
use Rattle.std.proofs.Common.{◌≡◌, ◌∙◌, ◌⊎◌, ℕ, ◌+◌, ◌<◌, ◌≤◌, List, [], Bool, true, false, length, get_or, refl, sym, ap, subst, inl, inr, ⊎_elim, arith}
use Rattle.std.specs.Prelude.{IsTrue}
use Rattle.std.proofs.lemmas.Bool.{cases_lt}
use Rattle.rm_sets.specs.Sets.{has, IsIn}
use Rattle.rm_sets.proofs.Sets.{not_both}
use Rattle.rm_sets.proofs.Members.{not_in_from, IsIn-get_or}
use Rattle.rm_market.specs.Board.{Board, contract_count}
use Rattle.rm_market.specs.Laws.{AreWishes}
use Rattle.rm_market.specs.Stable.{Wishes, IsPlacement, wants, owner, list_of}
use Rattle.rm_matching_laws.proofs.Places.{Wants, place, place-lt, place_read, place-get_or, wants_from, wants_earlier}
use Rattle.rm_matching_laws.proofs.Stable.{wants_test, from_wants}
use Rattle.rm_audit.specs.Blocking.{IsUnmoved, IsLeastOfThem, IsFirstBlocking, IsReachedAt, IsReachedBy, IsReachedIn}
use Rattle.std.proofs.Common.{All, Option, Some, None}
use Rattle.std.proofs.lemmas.List.Elements.{All-get_or}

-- ---- wanted contracts

module _ (n : ℕ) (w : Wishes) (ok : AreWishes n w) (S : List ℕ) (p : IsPlacement w S) where
  pub wants_reached : (x : ℕ) → IsReachedIn S w.listed (length w.listed) x → (x < n) × IsTrue (wants w S x)
  wants_reached x r =
      let d = r.0 in
      let L = list_of w d in
      let i = r.2.0 in
      let at = r.2.3 in
      let l = ok.lists d r.1 in
      let inL : IsIn x L = subst (λ y. IsIn y L) (sym r.2.2) (IsIn-get_or L i 0 at.0) in
      let own : owner w x ≡ d = l.owned x inL in
      let out : has x S ≡ false = ap (λ y. has y S) r.2.2 ∙ at.1 i (omega arith) in
      let lx = l.below x inL in
      let all = ok.contracts in
      let here : place x L ≡ i = ap (λ y. place y L) r.2.2 ∙ place-get_or L l.distinct i at.0 in (
        omega arith,
        wants_test w S x (wants_from w S p.listed x (subst (λ e. IsIn x (list_of w e)) (sym own) inL) out
            (λ y inS same.
            let own_y : owner w y ≡ d = same ∙ own in
            let inLy : IsIn y L = subst (λ e. IsIn y (list_of w e)) own_y (p.listed y inS) in
            subst (λ e. place x (list_of w e) < place y (list_of w e)) (sym own)
            (⊎_elim
            (λ lt. lt)
            (λ ge. absurd (not_both (has y S) inS (ap (λ z. has z S) (sym (place_read y L 0 inLy)) ∙ at.1 (place y L) (omega arith))))
            (cases_lt (place x L) (place y L))))),
      )

  pub reached_wants : (x : ℕ) → x < n → IsTrue (wants w S x) → IsReachedIn S w.listed (length w.listed) x
  reached_wants x lx t =
      let d = owner w x in
      let ld = ok.owners x lx in
      let L = list_of w d in
      let l = ok.lists d ld in
      let want = from_wants w S x l.distinct t in
      let i = place x L in
      let lt = place-lt x L want.listed in (
        d,
        ld,
        (
          i,
          lt,
          sym (place_read x L 0 want.listed),
          (
            lt,
            λ j le. not_in_from (get_or L j 0) S (λ inS.
                let y = get_or L j 0 in
                let lj : j < length L = omega arith in
                let before = wants_earlier w S x p.once want y inS (l.owned y (IsIn-get_or L j 0 lj)) in
                let there = place-get_or L l.distinct j lj in
                absurd (omega arith)),
          ),
        ),
      )

-- ---- the least of some contracts

module _ (b : Board) (S : List ℕ) where
  pub least_of_none : (P : ℕ → Type 0) (first : ℕ) → ((x : ℕ) → P x → ⊥) → IsLeastOfThem b S P first first
  least_of_none P first none = record { from = inl refl; low = omega arith; all = λ x p. absurd (none x p) }

  -- one set of them and then another one
  pub least_of_more : (P Q R : ℕ → Type 0) (first mid least : ℕ) → ((x : ℕ) → P x → R x) → ((x : ℕ) → Q x → R x) → ((x : ℕ) → R x → P x ⊎ Q x) → IsLeastOfThem b S P first mid → IsLeastOfThem b S Q mid least → IsLeastOfThem b S R first least
  least_of_more P Q R first mid least pr qr parts f g = record {
    from = ⊎_elim
        (λ same. ⊎_elim
        (λ start. inl (same ∙ start))
        (λ found. inr (subst (λ y. R y × ¬ IsUnmoved b S y) (sym same) (pr mid found.0, found.1)))
        f.from)
        (λ found. inr (qr least found.0, found.1))
        g.from;
    low = let u = f.low in let v = g.low in omega arith;
    all = λ x r. ⊎_elim
        (λ p. ⊎_elim (λ le. inl (let v = g.low in omega arith)) (λ stays. inr stays) (f.all x p))
        (λ q. g.all x q)
        (parts x r);
  }

  pub least_same : (P Q : ℕ → Type 0) (first least : ℕ) → ((x : ℕ) → P x → Q x) → ((x : ℕ) → Q x → P x) → IsLeastOfThem b S P first least → IsLeastOfThem b S Q first least
  least_same P Q first least to back f = record {
    from = ⊎_elim (λ e. inl e) (λ found. inr (to least found.0, found.1)) f.from;
    low = f.low;
    all = λ x q. f.all x (back x q);
  }

  -- the next contract of a list
  pub next_reached : (list : List ℕ) (i first mid least : ℕ) → i < length list → ((j : ℕ) → j ≤ i → has (get_or list j 0) S ≡ false) → IsLeastOfThem b S (IsReachedBy S list i) first mid → IsLeastOfThem b S (λ y. y ≡ get_or list i 0) mid least → IsLeastOfThem b S (IsReachedBy S list (i + 1)) first least
  next_reached list i first mid least lt out f g =
      least_of_more (IsReachedBy S list i) (λ y. y ≡ get_or list i 0) (IsReachedBy S list (i + 1)) first mid least
      (λ x r. (r.0, (let l = r.1 in omega arith), r.2, r.3))
      (λ x e. (i, omega arith, e, (lt, out)))
      (λ x r. ⊎_elim
      (λ less. inl (r.0, less, r.2, r.3))
      (λ more. let l = r.1 in let same : r.0 ≡ i = omega arith in inr (r.2 ∙ ap (λ j. get_or list j 0) same))
      (cases_lt r.0 i))
      f g

  -- past a contract that S has, none is reached
  pub stop_reached : (list : List ℕ) (i first least : ℕ) → has (get_or list i 0) S ≡ true → IsLeastOfThem b S (IsReachedBy S list i) first least → i < length list → IsLeastOfThem b S (IsReachedBy S list (length list)) first least
  stop_reached list i first least t f lt =
      least_same (IsReachedBy S list i) (IsReachedBy S list (length list)) first least
      (λ x r. (r.0, (let l = r.1 in omega arith), r.2, r.3))
      (λ x r. ⊎_elim
      (λ less. (r.0, less, r.2, r.3))
      (λ more. absurd (not_both (has (get_or list i 0) S) t (r.3.1 i more)))
      (cases_lt r.0 i))
      f

  -- the next list
  pub next_list : (lists : List (List ℕ)) (d first mid least : ℕ) → IsLeastOfThem b S (IsReachedIn S lists d) first mid → IsLeastOfThem b S (IsReachedBy S (get_or lists d []) (length (get_or lists d []))) mid least → IsLeastOfThem b S (IsReachedIn S lists (d + 1)) first least
  next_list lists d first mid least f g =
      least_of_more (IsReachedIn S lists d) (IsReachedBy S (get_or lists d []) (length (get_or lists d []))) (IsReachedIn S lists (d + 1)) first mid least
      (λ x r. (r.0, (let l = r.1 in omega arith), r.2))
      (λ x r. (d, omega arith, r))
      (λ x r. ⊎_elim
      (λ less. inl (r.0, less, r.2))
      (λ more. let l = r.1 in let same : r.0 ≡ d = omega arith in inr (subst (λ e. IsReachedBy S (get_or lists e []) (length (get_or lists e [])) x) same r.2))
      (cases_lt r.0 d))
      f g

  -- all lists are looked at
  pub none_found : (lists : List (List ℕ)) (d end least : ℕ) → d ≡ length lists → All (All (λ x. x < end)) lists → least ≡ end → IsLeastOfThem b S (IsReachedIn S lists d) end least → IsFirstBlocking b lists S None
  none_found lists d end least all below same f y r =
      let q = f.all y (subst (λ k. IsReachedIn S lists k y) (sym all) r) in
      ⊎_elim (λ le. absurd (let lt = low lists end below y r in omega arith)) (λ stays. stays) q
    where
      low : (lists : List (List ℕ)) (end : ℕ) → All (All (λ x. x < end)) lists → (y : ℕ) → IsReachedIn S lists (length lists) y → y < end
      low lists end below y r =
          let list = get_or lists r.0 [] in
          subst (λ x. x < end) (sym r.2.2) (All-get_or (λ x. x < end) list r.2.0 0 r.2.1 (All-get_or (All (λ x. x < end)) lists r.0 [] r.1 below))

  pub some_found : (lists : List (List ℕ)) (d end least : ℕ) → d ≡ length lists → (least ≡ end → ⊥) → IsLeastOfThem b S (IsReachedIn S lists d) end least → IsFirstBlocking b lists S (Some least)
  some_found lists d end least all other f =
      let found = ⊎_elim (λ same. absurd (other same)) (λ found. found) f.from in
      (subst (λ k. IsReachedIn S lists k least) all found.0, found.1, λ y r. f.all y (subst (λ k. IsReachedIn S lists k y) (sym all) r))
