-- What a run of 64-bit numbers comes to within 128 bits.
use Rattle.std.proofs.Common.{◌+◌, ◌*◌, ◌^◌, ◌≤◌, ℤ, pos, negsuc, ◌-ℤ◌, ◌*ℤ◌, ◌≤ℤ◌, FitsSigned, w64, arith}
use Rattle.std.proofs.lemmas.Int.{ints, unsigned_abs-mul, fits_signed_mul}
use Rattle.std.proofs.Math.Nat.{mul-le-mul}
use Rattle.std.specs.Int.RustNames.{unsigned_abs}
use Rattle.std.specs.Int.{w128}

abs-bound : (z : ℤ) → FitsSigned w64 z → unsigned_abs z ≤ 2 ^ 63
abs-bound (pos n) f = omega (arith, ints)
abs-bound (negsuc n) f = omega (arith, ints)

abs-between : (z : ℤ) → (pos 0 -ℤ pos (2 ^ 63 + 1)) ≤ℤ z → z ≤ℤ pos (2 ^ 63) → unsigned_abs z ≤ 2 ^ 63 + 1
abs-between (pos n) low high = omega (arith, ints)
abs-between (negsuc n) low high = omega (arith, ints)

pub fits-product : (f k : ℤ) → FitsSigned w64 f → (pos 0 -ℤ pos (2 ^ 63 + 1)) ≤ℤ k → k ≤ℤ pos (2 ^ 63) → FitsSigned w128 (f *ℤ k)
fits-product f k ff low high = fits_signed_mul w128 f k (2 ^ 63) (2 ^ 63 + 1) (abs-bound f ff) (abs-between k low high) (omega arith)

less : (v p : ℤ) → FitsSigned w64 v → unsigned_abs p ≤ 2 ^ 63 * (2 ^ 63 + 1) → FitsSigned w128 (v -ℤ p)
less v (pos n) f h = omega (arith, ints)
less v (negsuc n) f h = omega (arith, ints)

pub fits-step : (v f k : ℤ) → FitsSigned w64 v → FitsSigned w64 f → (pos 0 -ℤ pos (2 ^ 63 + 1)) ≤ℤ k → k ≤ℤ pos (2 ^ 63) → FitsSigned w128 (v -ℤ (f *ℤ k))
fits-step v f k fv ff low high = less v (f *ℤ k) fv (rw (unsigned_abs-mul f k) (mul-le-mul (abs-bound f ff) (abs-between k low high)))

pub wider : (z : ℤ) → FitsSigned w64 z → FitsSigned w128 z
wider z f = omega (arith, ints)
