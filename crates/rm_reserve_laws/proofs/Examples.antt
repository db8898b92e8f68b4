-- A small board of a plan: all that is asked holds of it.
use Rattle.std.proofs.Common.{◌≡◌, ◌⊎◌, ℕ, zero, suc, ◌<◌, ◌≤◌, [], ◌∷◌, sum_by, true, refl, cond, ap, ne_eqb, inl, inr, arith, eqb}
use Rattle.std.proofs.lemmas.List.Elements.{All-cons, All-nil}
use Rattle.rm_market.specs.Board.{Board, contract_count, hospital_of, leaf_of, node_at}
use Rattle.rm_valuation_laws.specs.Changes.{in_node}
use Rattle.rm_reserve_laws.specs.Reserved.{Quota, Plan, IsPlan, capacity_at, quotas_at}
use Rattle.rm_reserve_laws.specs.Compiled.{quota_at, IsHospitalNode, IsQuotaNode, IsInnerNode, IsCompiled}
use Rattle.rm_reserve_laws.proofs.Computed.{reserving, plan}

abbrev board : Board
board = (reserving (0 ∷ 0 ∷ 1 ∷ []) 1).board

abbrev one_seat : Plan
one_seat = plan 1

three : (P : ℕ → Type 0) → P 0 → P 1 → P 2 → (x : ℕ) → x < 3 → P x
three P a b c zero lt = a
three P a b c (suc zero) lt = b
three P a b c (suc (suc zero)) lt = c
three P a b c (suc (suc (suc x))) lt = absurd (omega arith)

abbrev IsOwn : Quota → Type 0
IsOwn q = (x : ℕ) → x < contract_count board → leaf_of board x ≡ q.leaf → hospital_of board x ≡ q.hospital

small_plan : IsPlan board one_seat
small_plan = record {
  apart = λ i j d lt le. absurd (omega arith);
  own = All-cons IsOwn (record { leaf = 1; hospital = 0; seats = 1 }) [] (three (λ x. leaf_of board x ≡ 1 → hospital_of board x ≡ 0) (λ e. refl) (λ e. refl) (λ e. refl)) (All-nil IsOwn);
  fits = fits;
}
  where
    fits : (h : ℕ) → sum_by (λ q. q.seats) (quotas_at one_seat h) ≤ capacity_at one_seat h
    fits zero = omega arith
    fits (suc h) =
        let none : sum_by (λ q. q.seats) (quotas_at one_seat (suc h)) ≡ 0 = ap (λ c. sum_by (λ (q : Quota). q.seats) (cond c one_seat.quotas [])) (ne_eqb 0 (suc h) (λ e. omega arith)) in
        omega arith

hospital_node : IsHospitalNode board one_seat 0 (node_at board 3)
hospital_node = record { contracts = three (λ x. in_node board (node_at board 3) x ≡ eqb (hospital_of board x) 0) refl refl refl; steps = refl }

quota_node : IsQuotaNode board one_seat (quota_at one_seat 0) (node_at board 2)
quota_node = record { contracts = three (λ x. in_node board (node_at board 2) x ≡ eqb (leaf_of board x) 1) refl refl refl; steps = refl }

small_compiled : IsCompiled board one_seat
small_compiled = record { hospitals = hospitals; quotas = quotas; others = others }
  where
    hospitals : (h : ℕ) → h < 1 → (k : ℕ) × (k < 4) × IsHospitalNode board one_seat h (node_at board k)
    hospitals zero lt = (3, omega arith, hospital_node)
    hospitals (suc h) lt = absurd (omega arith)

    quotas : (i : ℕ) → i < 1 → (k : ℕ) × (k < 4) × IsQuotaNode board one_seat (quota_at one_seat i) (node_at board k)
    quotas zero lt = (2, omega arith, quota_node)
    quotas (suc i) lt = absurd (omega arith)

    inside : (k x : ℕ) → x < 3 → in_node board (node_at board k) x ≡ true → hospital_of board x ≡ 0
    inside k = three (λ x. in_node board (node_at board k) x ≡ true → hospital_of board x ≡ 0) (λ e. refl) (λ e. refl) (λ e. refl)

    others : (k : ℕ) → k < 4 → ((i : ℕ) × (i < 1) × IsQuotaNode board one_seat (quota_at one_seat i) (node_at board k)) ⊎ ((h : ℕ) × IsInnerNode board one_seat h (node_at board k))
    others zero lt = inr (0, record { contracts = inside 0; steps = refl })
    others (suc zero) lt = inr (0, record { contracts = inside 1; steps = refl })
    others (suc (suc zero)) lt = inl (0, omega arith, quota_node)
    others (suc (suc (suc zero))) lt = inr (0, record { contracts = inside 3; steps = refl })
    others (suc (suc (suc (suc k)))) lt = absurd (omega arith)
