-- Bit 6, I1 and I0 of CC never change: none of them is a flag that is put in.
use Rattle.std.proofs.Common.{◌≡◌, ℕ, ◌<◌, Bool, arith}
use Rattle.arithmetic.specs.Bits.{with_bit}
use Rattle.arithmetic.specs.Flags.{with_v, with_h, with_n, with_z, with_c, with_nz, rest}
use Rattle.arithmetic.specs.Sums.{after_sum, after_difference, after_increment, after_decrement}
use Rattle.arithmetic.proofs.BitLaws.{other_bit}

module _ (b : Bool) (cc : ℕ) where
  kept : (k : ℕ) → k < 8 → (6 ≡ k → ⊥) → (5 ≡ k → ⊥) → (3 ≡ k → ⊥) → rest (with_bit k b cc) ≡ rest cc
  unfolding rest
  kept k small p q r = rw (other_bit k cc b 6 small p, other_bit k cc b 5 small q, other_bit k cc b 3 small r)

  pub rest_v : rest (with_v b cc) ≡ rest cc
  rest_v = kept 7 (omega arith) (λ e. omega arith) (λ e. omega arith) (λ e. omega arith)

  pub rest_h : rest (with_h b cc) ≡ rest cc
  rest_h = kept 4 (omega arith) (λ e. omega arith) (λ e. omega arith) (λ e. omega arith)

  pub rest_n : rest (with_n b cc) ≡ rest cc
  rest_n = kept 2 (omega arith) (λ e. omega arith) (λ e. omega arith) (λ e. omega arith)

  pub rest_z : rest (with_z b cc) ≡ rest cc
  rest_z = kept 1 (omega arith) (λ e. omega arith) (λ e. omega arith) (λ e. omega arith)

  pub rest_c : rest (with_c b cc) ≡ rest cc
  rest_c = kept 0 (omega arith) (λ e. omega arith) (λ e. omega arith) (λ e. omega arith)

-- N and Z of a result, and CC after a sum and a difference
pub rest_nz : (w r cc : ℕ) → rest (with_nz w r cc) ≡ rest cc
unfolding with_nz
rest_nz w r cc = simp (rest_n, rest_z)

ruleset puts = (rest_v, rest_c, rest_nz)

module _ (w a m : ℕ) (c : Bool) (cc : ℕ) where
  pub rest_sum : rest (after_sum w a m c cc) ≡ rest cc
  unfolding after_sum
  rest_sum = simp puts

  pub rest_difference : rest (after_difference w a m c cc) ≡ rest cc
  unfolding after_difference
  rest_difference = simp puts

module _ (w m cc : ℕ) where
  pub rest_increment : rest (after_increment w m cc) ≡ rest cc
  unfolding after_increment
  rest_increment = simp puts

  pub rest_decrement : rest (after_decrement w m cc) ≡ rest cc
  unfolding after_decrement
  rest_decrement = simp puts

-- all of them, for what is made of these
pub ruleset kept-bits = (rest_v, rest_h, rest_n, rest_z, rest_c, rest_nz, rest_sum, rest_difference, rest_increment, rest_decrement)
