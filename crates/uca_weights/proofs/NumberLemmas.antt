-- Facts on numbers that more than one crate needs.
use Rattle.std.proofs.Common.{ℕ, suc, ◌+◌, ◌*◌, ◌^◌, ◌<◌, ◌≤◌, arith, add-one}
use Rattle.std.proofs.Math.Nat.{pow-suc, mul-le-mul_right}

-- one more digit makes a number at most radix times as large
pub grows : (radix n d i : ℕ) → n < radix ^ i → d < radix → n * radix + d < radix ^ (i + 1)
grows radix n d i h k = rw (add-one, pow-suc) (let m : suc n * radix ≤ radix ^ i * radix = mul-le-mul_right radix h in omega (arith, m))
