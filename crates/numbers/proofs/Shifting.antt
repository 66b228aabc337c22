-- A byte has no bit above 7.
use Rattle.std.proofs.Common.{◌≡◌, ℕ, ◌/◌, ◌^◌, ◌<◌, ◌≤◌, pow_mono, lt_of_lt_of_le}
use native.Mathlib.Nat.{div-eq_of_lt}

pub shifted_out : (n k : ℕ) → n < 256 → 8 ≤ k → n / 2 ^ k ≡ 0
shifted_out n k small above = div-eq_of_lt (lt_of_lt_of_le small (pow_mono above))
