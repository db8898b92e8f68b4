-- Turn numbers: they rise with the seat, and two hospitals never share one.
use Rattle.std.proofs.Common.{◌≡◌, ℕ, suc, ◌+◌, ◌-◌, ◌*◌, ◌<◌, ◌≤◌, cond, sym, ap, ◌∙◌, ⊎_elim, arith}
use Rattle.std.proofs.Math.Nat.{mul-le-mul_right, suc-mul}
use Rattle.std.proofs.lemmas.Bool.{le-leb, lt-leb, cases_lt}
use Rattle.rm_flexible_laws.proofs.ByCounts.{turn_number}

-- up to the target
pub turn_low : (m j t k : ℕ) → k ≤ t → turn_number m j t k ≡ 0
turn_low m j t k le = ap (λ b. cond b 0 ((k - t - 1) * m + (j + 1))) (le-leb k t le)

-- past the target
pub turn_high : (m j t k e : ℕ) → k ≡ t + (e + 1) → turn_number m j t k ≡ e * m + (j + 1)
turn_high m j t k e s =
    ap (λ b. cond b 0 ((k - t - 1) * m + (j + 1))) (lt-leb k t (omega arith))
    ∙ ap (λ a. a * m + (j + 1)) (rest s)
  where
    rest : k ≡ t + (e + 1) → k - t - 1 ≡ e
    rest h = omega arith

-- a later row stands a whole row further
pub rows : (m a b : ℕ) → a < b → a * m + m ≤ b * m
rows m a b lt =
    let le : suc a * m ≤ b * m = mul-le-mul_right m lt in
    let e = suc-mul a m in
    omega arith

-- the seats past the target, told by how far
pub past : (t k : ℕ) → t < k → (e : ℕ) × (k ≡ t + (e + 1))
past t k lt = (k - t - 1, omega arith)

pub turn_rises : (m j t k l : ℕ) → k ≤ l → turn_number m j t k ≤ turn_number m j t l
turn_rises m j t k l le =
    ⊎_elim
    (λ high.
    let p = past t k high in
    let q = past t l (omega arith) in
    let a = turn_high m j t k p.0 p.1 in
    let b = turn_high m j t l q.0 q.1 in
    let ep : k ≡ t + (p.0 + 1) = p.1 in
    let eq : l ≡ t + (q.0 + 1) = q.1 in
    let step : p.0 * m ≤ q.0 * m = mul-le-mul_right m (omega arith) in
    omega arith)
    (λ low. let a = turn_low m j t k low in omega arith)
    (cases_lt t k)

pub turn_grows : (m j t k l : ℕ) → j < m → k < l → t < l → turn_number m j t k < turn_number m j t l
turn_grows m j t k l jm lt high =
    let q = past t l high in
    let b = turn_high m j t l q.0 q.1 in
    let eq : l ≡ t + (q.0 + 1) = q.1 in
    ⊎_elim
    (λ high'.
    let p = past t k high' in
    let a = turn_high m j t k p.0 p.1 in
    let ep : k ≡ t + (p.0 + 1) = p.1 in
    let step = rows m p.0 q.0 (omega arith) in
    omega arith)
    (λ low. let a = turn_low m j t k low in omega arith)
    (cases_lt t k)

pub rows_apart : (m a b j l : ℕ) → j < m → l < m → a * m + (j + 1) ≡ b * m + (l + 1) → (a ≡ b) × (j ≡ l)
rows_apart m a b j l jm lm e =
    ⊎_elim
    (λ lt. let s = rows m a b lt in absurd (omega arith))
    (λ le. ⊎_elim
    (λ lt. let s = rows m b a lt in absurd (omega arith))
    (λ le'. let same : a ≡ b = omega arith in let m' = ap (λ z. z * m) same in (same, omega arith))
    (cases_lt b a))
    (cases_lt a b)

-- two hospitals share no turn
pub turns_apart : (m j l t u k n : ℕ) → j < m → l < m → t < k → u < n → turn_number m j t k ≡ turn_number m l u n → j ≡ l
turns_apart m j l t u k n jm lm tk un e =
    let p = past t k tk in
    let q = past u n un in
    (rows_apart m p.0 q.0 j l jm lm (sym (turn_high m j t k p.0 p.1) ∙ (e ∙ turn_high m l u n q.0 q.1))).1

-- a turn past the target has a number
pub turn_positive : (m j t k : ℕ) → t < k → 0 < turn_number m j t k
turn_positive m j t k tk = let p = past t k tk in let e = turn_high m j t k p.0 p.1 in omega arith

-- only seats past the target have one
pub past_from_turn : (m j t k i : ℕ) → i < turn_number m j t k → t < k
past_from_turn m j t k i lt = ⊎_elim (λ h. h) (λ low. let e = turn_low m j t k low in absurd (omega arith)) (cases_lt t k)

-- with at most c seats there are c rows
pub turn_bound : (m j t k c : ℕ) → j < m → k ≤ c → turn_number m j t k ≤ c * m
turn_bound m j t k c jm le =
    ⊎_elim
    (λ high.
    let p = past t k high in
    let e = turn_high m j t k p.0 p.1 in
    let ep : k ≡ t + (p.0 + 1) = p.1 in
    let s = rows m p.0 c (omega arith) in
    omega arith)
    (λ low. let e = turn_low m j t k low in omega arith)
    (cases_lt t k)
