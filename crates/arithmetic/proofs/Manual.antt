-- The formulas of the manual's pages for C and H, and for the two sides of V, are the carries and the borrows.
use Rattle.std.proofs.Common.{◌≡◌, ℕ, ◌+◌, ◌-◌, ◌%◌, ◌^◌, ◌<◌, ◌≤◌, Bool, true, false, not, eqb, leb, sym, refl, ap, ◌∙◌, mod-lt, mod-eq_of_lt, arith, pow_pos, le-ltb, lt-ltb, le-leb}
use mathlib.Core.Bool.{and-false}
use native.Mathlib.Nat.{mod-add-mod, add-mod_right}
use lib.Pow.{mod-mod-pow}
use borrow.Author.Tests.{lt-leb}
use Rattle.numbers.specs.Bits.{flag, bit}
use Rattle.arithmetic.specs.Bits.{is_set}
use Rattle.arithmetic.specs.Formulas.{carry_formula, borrow_formula}
use Rattle.arithmetic.specs.Sums.{sum, carry_out, difference, borrow_out}
use Rattle.arithmetic.proofs.BitLaws.{flag_le, bit_low}
use Rattle.arithmetic.proofs.Orders.{by_order}
use Rattle.arithmetic.proofs.Overflow.{top}
use Rattle.arithmetic.proofs.SumLaws.{twice, less_once}

-- bit n by the number that bits n to 0 make
bit_by_low : (n a : ℕ) → is_set n a ≡ leb (2 ^ n) (a % 2 ^ (n + 1))
bit_by_low n a =
    let up : n + 1 - 1 ≡ n = omega arith in
    let same : bit n (a % 2 ^ (0 + 1 + n)) ≡ bit n a = bit_low 0 n a in
    let flip : 0 + 1 + n ≡ n + 1 = omega arith in
    ap (λ b. eqb b 1) (sym (rw flip at same)) ∙ rw up at (top (n + 1) (omega arith) (a % 2 ^ (n + 1)) (mod-lt a (pow_pos (n + 1))))

-- numbers below twice p: whether their sum carries, by p's place in them and in the sum's remainder
module _ (p a m f : ℕ) (ha : a < p + p) (hm : m < p + p) (hf : f ≤ 1) where
  formula : leb (p + p) (a + m + f) ≡ carry_formula (leb p a) (leb p m) (leb p ((a + m + f) % (p + p)))
  formula =
      by_order a p
      (λ h. by_order m p
      (λ k. rw (lt-leb p a h, lt-leb p m k, lt-leb (p + p) (a + m + f) (omega arith)) (sym (and-false (not (leb p ((a + m + f) % (p + p)))))))
      (λ k. by_order (a + m + f) (p + p)
      (λ l. rw (lt-leb p a h, le-leb p m k, lt-leb (p + p) (a + m + f) l, mod-eq_of_lt l, le-leb p (a + m + f) (omega arith)))
      (λ l. rw (lt-leb p a h, le-leb p m k, le-leb (p + p) (a + m + f) l, less_once l (omega arith), lt-leb p (a + m + f - (p + p)) (omega arith)))))
      (λ h. by_order m p
      (λ k. by_order (a + m + f) (p + p)
      (λ l. rw (le-leb p a h, lt-leb p m k, lt-leb (p + p) (a + m + f) l, mod-eq_of_lt l, le-leb p (a + m + f) (omega arith)))
      (λ l. rw (le-leb p a h, lt-leb p m k, le-leb (p + p) (a + m + f) l, less_once l (omega arith), lt-leb p (a + m + f - (p + p)) (omega arith))))
      (λ k. rw (le-leb p a h, le-leb p m k, le-leb (p + p) (a + m + f) (omega arith))))

-- the remainder of a sum, by its summands' remainders
remainders : (q a m f : ℕ) → (a % q + m % q + f) % q ≡ (a + m + f) % q
remainders q a m f =
    ap (λ x. x % q) {x = a % q + m % q + f} {y = a % q + (m % q + f)} (omega arith) ∙ mod-add-mod a q (m % q + f) ∙
    ap (λ x. x % q) {x = a + (m % q + f)} {y = m % q + (f + a)} (omega arith) ∙ mod-add-mod m q (f + a) ∙
    ap (λ x. x % q) {x = m + (f + a)} {y = a + m + f} (omega arith)

-- a sum of width w, at a bit n of it
module _ (w n a m : ℕ) (c : Bool) (inside : n < w) where
  -- bits n to 0 of the sum
  low_sum : sum w a m c % 2 ^ (n + 1) ≡ (a + m + flag c) % 2 ^ (n + 1)
  unfolding sum
  low_sum =
      let up : w - (n + 1) + (n + 1) ≡ w = omega arith in
      rw up at (mod-mod-pow (a + m + flag c) (w - (n + 1)) (n + 1))

  pub carry_formula_lem : carry_out n a m c ≡ carry_formula (is_set n a) (is_set n m) (is_set n (sum w a m c))
  unfolding carry_out
  carry_formula_lem =
      let q = 2 ^ n + 2 ^ n in
      let small : (x : ℕ) → x % q < q = λ x. mod-lt x (omega (arith, pow_pos n)) in
      rw (bit_by_low n a, bit_by_low n m, bit_by_low n (sum w a m c), low_sum, twice n, ← (remainders q a m (flag c)))
      (formula (2 ^ n) (a % q) (m % q) (flag c) (small a) (small m) (flag_le c))

-- the borrow's formula is the carry's, with destination and result exchanged
exchanged : (a m r : Bool) → carry_formula r m a ≡ borrow_formula a m r
exchanged true true true = refl
exchanged true true false = refl
exchanged true false true = refl
exchanged true false false = refl
exchanged false true true = refl
exchanged false true false = refl
exchanged false false true = refl
exchanged false false false = refl

-- a difference of width w, at a bit n of it
module _ (w n a m : ℕ) (c : Bool) (inside : n < w) (fits-a : a < 2 ^ w) (fits-m : m < 2 ^ w) where
  -- what was taken away, added again
  sum_difference : sum w (difference w a m c) m c ≡ a
  unfolding sum difference borrow_out
  sum_difference =
      let all : w - 1 + 1 ≡ w = omega arith in
      rw (all, mod-eq_of_lt fits-a, mod-eq_of_lt fits-m)
      (by_order a (m + flag c)
      (λ h.
      let back : a + 2 ^ w - (m + flag c) + m + flag c ≡ a + 2 ^ w = omega (arith, flag_le c) in
      rw (lt-ltb a (m + flag c) h, back) (add-mod_right a (2 ^ w) ∙ mod-eq_of_lt fits-a))
      (λ h.
      let back : a - (m + flag c) + m + flag c ≡ a = omega arith in
      rw (le-ltb a (m + flag c) h, back) (mod-eq_of_lt fits-a)))

  -- the borrow is the carry of that sum
  borrow_carry : borrow_out n a m c ≡ carry_out n (difference w a m c) m c
  unfolding borrow_out carry_out
  borrow_carry =
      let q = 2 ^ (n + 1) in
      let r = difference w a m c % q in
      let s = r + m % q + flag c in
      let low : a % q ≡ s % q =
      ap (λ x. x % q) (sym sum_difference) ∙ low_sum w n (difference w a m c) m c inside ∙ sym (remainders q (difference w a m c) m (flag c)) in
      let small : r < q = mod-lt (difference w a m c) (pow_pos (n + 1)) in
      let less : m % q < q = mod-lt m (pow_pos (n + 1)) in
      rw low
      (by_order s q
      (λ h. rw (mod-eq_of_lt h, le-ltb s (m % q + flag c) (omega arith), lt-leb q s h))
      (λ h.
      let rest : s % q ≡ s - q = less_once h (omega (arith, flag_le c)) in
      rw (rest, lt-ltb (s - q) (m % q + flag c) (omega arith), le-leb q s h)))

  pub borrow_formula_lem : borrow_out n a m c ≡ borrow_formula (is_set n a) (is_set n m) (is_set n (difference w a m c))
  borrow_formula_lem =
      let r = difference w a m c in
      borrow_carry ∙ carry_formula_lem w n r m c inside ∙ ap (λ x. carry_formula (is_set n r) (is_set n m) (is_set n x)) sum_difference ∙
      exchanged (is_set n a) (is_set n m) (is_set n r)
