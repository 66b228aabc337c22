-- Signed values: what V is about. The theorems are in proofs/Overflow.antt.
use Rattle.std.specs.Prelude.{ℕ, ◌-◌, ◌^◌, Bool, cond, ◌&&◌, ℤ, pos, neg_ℤ, int_le, int_lt}
use Rattle.std.proofs.Math.IntN.{sub_ℕ}
use Rattle.arithmetic.specs.Bits.{is_set}

-- the signed value of a number of width w: 2^w less where its top bit is set
abbrev pub signed : ℕ → ℕ → ℤ
signed w n = sub_ℕ n (cond (is_set (w - 1) n) (2 ^ w) 0)

-- from -2^(w-1) to 2^(w-1) - 1
abbrev pub fits_signed : ℕ → ℤ → Bool
fits_signed w z = int_le (neg_ℤ (pos (2 ^ (w - 1)))) z && int_lt z (pos (2 ^ (w - 1)))
