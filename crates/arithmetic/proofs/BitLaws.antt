-- A byte with a bit put in: the code's way to it, and what its bits are.
use Rattle.std.proofs.Common.{◌≡◌, ℕ, suc, ◌+◌, ◌-◌, ◌*◌, ◌/◌, ◌%◌, ◌^◌, ◌<◌, ◌≤◌, Bool, true, false, sym, ap, ◌∙◌, lt_of_le_of_lt, mul-le-mul_right, mod-lt, mod-eq_of_lt, mul_assoc, add_comm, div-add-mod', mul_right_comm, arith, pow_pos, pow-add, shr-shr, shr_lt, lt-ltb}
use lib.Arith.{digits_div, digits_mod}
use lib.Pow.{pow-lt, mod-pow-add, field, mod-mod-pow}
use Rattle.numbers.specs.Bits.{flag, bit}
use Rattle.arithmetic.specs.Bits.{with_bit}
use Rattle.arithmetic.proofs.Orders.{by_order}

pub flag_le : (b : Bool) → flag b ≤ 1
flag_le true = omega arith
flag_le false = omega arith

-- a number by its bits above k, bit k and the bits below
parts : (k n : ℕ) → n / 2 ^ (k + 1) * 2 ^ (k + 1) + (bit k n * 2 ^ k + n % 2 ^ k) ≡ n
unfolding bit
parts k n =
    let low : n % 2 ^ (k + 1) ≡ n / 2 ^ k % 2 * 2 ^ k + n % 2 ^ k = ap (λ j. n % 2 ^ j) (add_comm k 1) ∙ mod-pow-add n 1 k in
    ap (λ x. n / 2 ^ (k + 1) * 2 ^ (k + 1) + x) (sym low) ∙ div-add-mod' n (2 ^ (k + 1))

-- the bits from k on leave room below them
room : (j k n : ℕ) → n < 2 ^ (j + k) → n / 2 ^ k * 2 ^ k + 2 ^ k ≤ 2 ^ (j + k)
room j k n h =
    let q : suc (n / 2 ^ k) * 2 ^ k ≤ 2 ^ j * 2 ^ k = mul-le-mul_right (2 ^ k) (shr_lt j k h) in
    rw (pow-add 2 j k) (omega (arith, q))

flag_bit : (b : Bool) (p : ℕ) → flag b * p ≤ p
flag_bit true p = omega arith
flag_bit false p = omega arith

-- the code's way: the old bit, shifted to its place, is taken away, and the new one added
module _ (k n : ℕ) (b : Bool) (small : k < 8) (byte : n < 256) where
  -- neither leaves the byte
  old_bit : bit k n * 2 ^ k % 256 ≡ bit k n * 2 ^ k
  old_bit = mod-eq_of_lt (omega (arith, parts k n))

  new_bit : flag b * 2 ^ k % 256 ≡ flag b * 2 ^ k
  new_bit = mod-eq_of_lt (lt_of_le_of_lt (flag_bit b (2 ^ k)) (pow-lt small))

  pub old_bit_le : bit k n * 2 ^ k % 256 ≤ n
  old_bit_le = rw old_bit (omega (arith, parts k n))

  pub exchanged : n - bit k n * 2 ^ k % 256 + flag b * 2 ^ k % 256 ≡ with_bit k b n
  unfolding with_bit
  exchanged = rw (old_bit, new_bit, lt-ltb k 8 small) (omega (arith, parts k n))

  pub exchanged_fits : n - bit k n * 2 ^ k % 256 + flag b * 2 ^ k % 256 < 256
  exchanged_fits =
      let up : 7 - k + (k + 1) ≡ 8 = omega arith in
      let q = rw up at (room (7 - k) (k + 1) n (rw up byte)) in
      let p : 2 ^ (k + 1) ≡ 2 ^ k * 2 = pow-add 2 k 1 in
      rw (old_bit, new_bit) (omega (arith, parts k n, flag_bit b (2 ^ k), q, p, mod-lt n (pow_pos k)))

-- a bit goes by the bits up to it, and by the bits from a lower one on
pub bit_low : (i j n : ℕ) → bit j (n % 2 ^ (i + 1 + j)) ≡ bit j n
unfolding bit
bit_low i j n = rw (field n (i + 1) j, mod-mod-pow (n / 2 ^ j) i 1)

bit_high : (k i n : ℕ) → bit (k + i) n ≡ bit i (n / 2 ^ k)
unfolding bit
bit_high k i n = rw (shr-shr n k i)

module _ (k n : ℕ) (b : Bool) where
  apart : k < 8 → with_bit k b n ≡ (n / 2 ^ (k + 1) * 2 + flag b) * 2 ^ k + n % 2 ^ k
  unfolding with_bit
  apart small =
      rw (lt-ltb k 8 small, pow-add 2 k 1)
      (omega (arith, mul_right_comm (n / (2 ^ k * 2)) (2 ^ k) 2, mul_assoc (n / (2 ^ k * 2)) (2 ^ k) 2))

  -- what stands from bit k on
  from_bit : k < 8 → with_bit k b n / 2 ^ k ≡ n / 2 ^ (k + 1) * 2 + flag b
  from_bit small = rw (apart small) (digits_div (n / 2 ^ (k + 1) * 2 + flag b) (mod-lt n (pow_pos k)))

  -- the bits below it stay
  bits_below : (j : ℕ) → k < 8 → j < k → bit j (with_bit k b n) ≡ bit j n
  bits_below j small lower =
      let same : with_bit k b n % 2 ^ k ≡ n % 2 ^ k = rw (apart small) (digits_mod (n / 2 ^ (k + 1) * 2 + flag b) (mod-lt n (pow_pos k))) in
      let up : k - (j + 1) + 1 + j ≡ k = omega arith in
      sym (rw up at (bit_low (k - (j + 1)) j (with_bit k b n))) ∙ ap (bit j) same ∙ rw up at (bit_low (k - (j + 1)) j n)

  -- the bits above it stay
  bits_above : (j : ℕ) → k < 8 → k < j → bit j (with_bit k b n) ≡ bit j n
  bits_above j small higher =
      let half : (n / 2 ^ (k + 1) * 2 + flag b) / 2 ≡ n / 2 ^ (k + 1) = omega (arith, flag_le b) in
      let same : with_bit k b n / 2 ^ (k + 1) ≡ n / 2 ^ (k + 1) = sym (shr-shr (with_bit k b n) k 1) ∙ ap (λ x. x / 2) (from_bit small) ∙ half in
      let up : k + 1 + (j - (k + 1)) ≡ j = omega arith in
      rw up at (bit_high (k + 1) (j - (k + 1)) (with_bit k b n)) ∙ ap (bit (j - (k + 1))) same ∙ sym (rw up at (bit_high (k + 1) (j - (k + 1)) n))

  -- every other bit stays
  pub other_bit : (j : ℕ) → k < 8 → (j ≡ k → ⊥) → bit j (with_bit k b n) ≡ bit j n
  other_bit j small differs = by_order j k (bits_below j small) (λ h. bits_above j small (omega arith))
