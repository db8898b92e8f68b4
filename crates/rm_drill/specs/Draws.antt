-- The numbers that a seed draws: the generator splitmix64 (Steele, Lea and Flood 2014). All of them have 64 bits.
use Rattle.std.specs.Prelude.{ℕ, zero, suc, ◌+◌, ◌*◌, ◌/◌, ◌%◌, ◌^◌, bit_xor}

-- the state at the next draw
abbrev pub next_state : ℕ → ℕ
next_state state = (state + 0x9E3779B97F4A7C15) % 2 ^ 64

-- a number and itself shifted right, bit by bit, times a factor
abbrev pub stirred : ℕ → ℕ → ℕ → ℕ
stirred z bits factor = (bit_xor z (z / 2 ^ bits) * factor) % 2 ^ 64

-- what is drawn in a state
unfoldable pub drawn : ℕ → ℕ
drawn state =
    let z = stirred (stirred state 30 0xBF58476D1CE4E5B9) 27 0x94D049BB133111EB in
    bit_xor z (z / 2 ^ 31)

-- the state after so many draws of a seed
abbrev pub state_after : ℕ → ℕ → ℕ
state_after seed zero = seed
state_after seed (suc k) = next_state (state_after seed k)

-- the k-th draw of a seed, counted from 0
abbrev pub draw : ℕ → ℕ → ℕ
draw seed k = drawn (state_after seed (suc k))
