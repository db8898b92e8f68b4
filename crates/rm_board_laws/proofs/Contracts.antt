-- The contracts of rank lists: the hospital of each is one that has a rank list.
use Rattle.std.proofs.Common.{◌≡◌, ℕ, zero, suc, ◌+◌, ◌-◌, ◌<◌, ◌≤◌, List, [], ◌∷◌, length, get_or, map, refl, ap, ◌∙◌, ⊎_elim, arith}
use Rattle.std.proofs.Math.ListN.{get_or-append}
use Rattle.std.proofs.Math.Seq.{get_or-append_right}
use Rattle.std.proofs.lemmas.Bool.{cases_lt}
use Rattle.std.proofs.lemmas.List.{length-append}
use Rattle.rm_market.specs.Board.{Board, contract_count, hospital_of, pairs_from}

-- the contracts of one rank list
abbrev own : ℕ → List ℕ → List (ℕ × ℕ)
own h rank = map (λ d. (d, h)) rank

own_at : (h : ℕ) (rank : List ℕ) (x : ℕ) → x < length (own h rank) → (get_or (own h rank) x (0, 0)).1 ≡ h
own_at h [] x lt = absurd (omega arith)
own_at h (d ∷ rank) zero lt = refl
own_at h (d ∷ rank) (suc x) lt = own_at h rank x (omega arith)

pub pair_in : (h : ℕ) (ranks : List (List ℕ)) (x : ℕ) → x < length (pairs_from h ranks) → (h ≤ (get_or (pairs_from h ranks) x (0, 0)).1) × ((get_or (pairs_from h ranks) x (0, 0)).1 < h + length ranks)
pair_in h [] x lt = absurd (omega arith)
pair_in h (rank ∷ ranks) x lt =
    let l = length-append (own h rank) (pairs_from (h + 1) ranks) in
    ⊎_elim
    (λ less.
    let e : (get_or (pairs_from h (rank ∷ ranks)) x (0, 0)).1 ≡ h = ap (λ p. p.1) (get_or-append (own h rank) (pairs_from (h + 1) ranks) (0, 0) x less) ∙ own_at h rank x less in
    (omega arith, omega arith))
    (λ le.
    let e : (get_or (pairs_from h (rank ∷ ranks)) x (0, 0)).1 ≡ (get_or (pairs_from (h + 1) ranks) (x - length (own h rank)) (0, 0)).1 =
    ap (λ p. p.1) (get_or-append_right (own h rank) (pairs_from (h + 1) ranks) x (0, 0) le) in
    let rest = pair_in (h + 1) ranks (x - length (own h rank)) (omega arith) in
    let a = rest.0 in
    let b = rest.1 in
    (omega arith, omega arith))
    (cases_lt x (length (own h rank)))

pub hospital_ranked : (b : Board) (x : ℕ) → x < contract_count b → hospital_of b x < length b.ranks
hospital_ranked b x lt = let two = pair_in 0 b.ranks x lt in let a = two.1 in omega arith
