-- V is signed overflow: the carry out of the top bit differs from that out of the bit below it exactly where the sum of the signed values
-- does not fit the width; and so for borrows and the difference.
use Rattle.std.proofs.Common.{◌≡◌, ℕ, zero, suc, ◌+◌, ◌-◌, ◌%◌, ◌^◌, ◌<◌, ◌≤◌, Bool, true, false, cond, not, ◌&&◌, ltb, leb, pos, negsuc, ◌+ℤ◌, ◌-ℤ◌, neg_ℤ, sym, refl, ap, ◌∙◌, add-zero, mod-eq_of_lt, zero-add, arith, pow_pos, le-ltb, lt-ltb, le-leb}
use mathlib.Core.Bool.{xor, and-true}
use native.Mathlib.Nat.{div-eq_of_lt, div-eq_of_lt-le}
use lib.IntN.{sub_ℕ}
use lib.Signed.{le_z, lt_z}
use borrow.Author.Tests.{lt-leb}
use Rattle.numbers.specs.Bits.{flag, bit}
use Rattle.arithmetic.specs.Bits.{is_set}
use Rattle.arithmetic.specs.Signed.{signed, fits_signed}
use Rattle.arithmetic.specs.Sums.{carry_out, borrow_out, sum_overflow, difference_overflow}
use Rattle.arithmetic.proofs.BitLaws.{flag_le}
use Rattle.arithmetic.proofs.Orders.{by_order, same_test, not_ltb, not_leb}
use Rattle.arithmetic.proofs.SumLaws.{twice, less_once}

-- differences of naturals, as integers
sub_less : (a b : ℕ) → a < b → sub_ℕ a b ≡ negsuc (b - suc a)
sub_less a b h = rw (lt-ltb a b h)

sub_more : (a b : ℕ) → b ≤ a → sub_ℕ a b ≡ pos (a - b)
sub_more a b h = rw (le-ltb a b h)

plain : (a : ℕ) → pos a ≡ sub_ℕ a 0
plain a = sym (sub_more a 0 (omega arith) ∙ ap pos (omega arith))

sub_same : (a b c d : ℕ) → a + d ≡ c + b → sub_ℕ a b ≡ sub_ℕ c d
sub_same a b c d e =
    by_order a b
    (λ h. rw (sub_less a b h, sub_less c d (omega arith)) (ap negsuc (omega arith)))
    (λ h. rw (sub_more a b h, sub_more c d (omega arith)) (ap pos (omega arith)))

sub_add : (a b c d : ℕ) → sub_ℕ a b +ℤ sub_ℕ c d ≡ sub_ℕ (a + c) (b + d)
sub_add a b c d =
    by_order a b
    (λ h. by_order c d
    (λ k. rw (sub_less a b h, sub_less c d k, sub_less (a + c) (b + d) (omega arith)) (ap negsuc (omega arith)))
    (λ k. rw (sub_less a b h, sub_more c d k) (sub_same (c - d) (suc (b - suc a)) (a + c) (b + d) (omega arith))))
    (λ h. by_order c d
    (λ k. rw (sub_more a b h, sub_less c d k) (sub_same (a - b) (suc (d - suc c)) (a + c) (b + d) (omega arith)))
    (λ k. rw (sub_more a b h, sub_more c d k, sub_more (a + c) (b + d) (omega arith)) (ap pos (omega arith))))

sub_neg : (a b : ℕ) → neg_ℤ (sub_ℕ a b) ≡ sub_ℕ b a
sub_neg a b =
    by_order a b
    (λ h. rw (sub_less a b h, sub_more b a (omega arith)) (ap pos (omega arith)))
    (λ h. by_order b a
    (λ k. let e : a - b ≡ suc (a - suc b) = omega arith in rw (sub_more a b h, sub_less b a k, e))
    (λ k. let e : a - b ≡ 0 = omega arith in rw (sub_more a b h, e, sub_more b a k) (ap pos (omega arith))))

-- the range of width w, for a difference of naturals
fits_sub : (w x y : ℕ) → fits_signed w (sub_ℕ x y) ≡ (leb y (x + 2 ^ (w - 1)) && ltb x (y + 2 ^ (w - 1)))
fits_sub w x y = go (2 ^ (w - 1)) (pow_pos (w - 1))
  where
    go : (h : ℕ) → 0 < h → (le_z (neg_ℤ (pos h)) (sub_ℕ x y) && lt_z (sub_ℕ x y) (pos h)) ≡ (leb y (x + h) && ltb x (y + h))
    go zero p = let z : ⊥ = omega arith in absurd z
    go (suc h) p =
        by_order x y
        (λ k. rw (sub_less x y k, lt-ltb x (y + suc h) (omega arith))
        (ap (λ t. t && true) (same_test (y - suc x) h y (x + suc h) (λ q. omega arith) (λ q. omega arith))))
        (λ k. rw (sub_more x y k, le-leb y (x + suc h) (omega arith))
        (same_test (suc (x - y)) (suc h) (suc x) (y + suc h) (λ q. omega arith) (λ q. omega arith)))

xor_false : (t : Bool) → xor false t ≡ t
unfolding xor
xor_false true = refl
xor_false false = refl

xor_true : (t : Bool) → xor true t ≡ not t
unfolding xor
xor_true true = refl
xor_true false = refl

xor_same : (t : Bool) → xor t t ≡ false
unfolding xor
xor_same true = refl
xor_same false = refl

-- what is taken from a number of width w, whose half is h, to give its signed value
abbrev over : ℕ → ℕ → ℕ
over h n = cond (leb h n) (h + h) 0

-- the tests on numbers below twice h, by the halves that the operands lie in
module _ (h a m f : ℕ) (ha : a < h + h) (hm : m < h + h) (hf : f ≤ 1) where
  sums : xor (leb (h + h) (a + m + f)) (leb h (a % h + m % h + f)) ≡
      not (leb (over h a + over h m) (a + m + f + h) && ltb (a + m + f) (over h a + over h m + h))
  sums =
      let s = a + m + f in
      let both = h + h in
      by_order a h
      (λ p. by_order m h
      (λ q.
      rw (lt-leb h a p, lt-leb h m q, mod-eq_of_lt p, mod-eq_of_lt q)
      (rw (lt-leb both s (omega arith), xor_false, le-leb 0 (s + h) (omega arith), zero-add h) (sym (not_ltb s h))))
      (λ q.
      let one : leb h (a + (m - h) + f) ≡ leb both s = same_test h (a + (m - h) + f) both s (λ r. omega arith) (λ r. omega arith) in
      rw (lt-leb h a p, le-leb h m q, mod-eq_of_lt p, less_once q hm, one, xor_same (leb both s))
      (rw (le-leb (0 + both) (s + h) (omega arith), lt-ltb s (0 + both + h) (omega arith)))))
      (λ p. by_order m h
      (λ q.
      let one : leb h (a - h + m + f) ≡ leb both s = same_test h (a - h + m + f) both s (λ r. omega arith) (λ r. omega arith) in
      rw (le-leb h a p, lt-leb h m q, less_once p ha, mod-eq_of_lt q, one, xor_same (leb both s))
      (rw (le-leb (both + 0) (s + h) (omega arith), lt-ltb s (both + 0 + h) (omega arith))))
      (λ q.
      rw (le-leb h a p, le-leb h m q, less_once p ha, less_once q hm)
      (rw (le-leb both s (omega arith), xor_true, lt-ltb s (both + both + h) (omega arith), and-true)
      (ap not (same_test h (a - h + (m - h) + f) (both + both) (s + h) (λ r. omega arith) (λ r. omega arith))))))

  differences : xor (ltb a (m + f)) (ltb (a % h) (m % h + f)) ≡
      not (leb (over h a + (m + f)) (a + over h m + h) && ltb (a + over h m) (over h a + (m + f) + h))
  differences =
      let both = h + h in
      by_order a h
      (λ p. by_order m h
      (λ q.
      rw (lt-leb h a p, lt-leb h m q, mod-eq_of_lt p, mod-eq_of_lt q, xor_same (ltb a (m + f)))
      (rw (le-leb (0 + (m + f)) (a + 0 + h) (omega arith), lt-ltb (a + 0) (0 + (m + f) + h) (omega arith))))
      (λ q.
      rw (lt-leb h a p, le-leb h m q, mod-eq_of_lt p, less_once q hm)
      (rw (lt-ltb a (m + f) (omega arith), xor_true, le-leb (0 + (m + f)) (a + both + h) (omega arith))
      (ap not (same_test (suc a) (m - h + f) (suc (a + both)) (0 + (m + f) + h) (λ r. omega arith) (λ r. omega arith))))))
      (λ p. by_order m h
      (λ q.
      rw (le-leb h a p, lt-leb h m q, less_once p ha, mod-eq_of_lt q)
      (rw (le-ltb a (m + f) (omega arith), xor_false, lt-ltb (a + 0) (both + (m + f) + h) (omega arith), and-true)
      (same_test (suc (a - h)) (m + f) (suc (a + 0 + h)) (both + (m + f)) (λ r. omega arith) (λ r. omega arith) ∙ sym (not_leb (both + (m + f)) (a + 0 + h)))))
      (λ q.
      let one : ltb (a - h) (m - h + f) ≡ ltb a (m + f) = same_test (suc (a - h)) (m - h + f) (suc a) (m + f) (λ r. omega arith) (λ r. omega arith) in
      rw (le-leb h a p, le-leb h m q, less_once p ha, less_once q hm, one, xor_same (ltb a (m + f)))
      (rw (le-leb (both + (m + f)) (a + both + h) (omega arith), lt-ltb (a + both) (both + (m + f) + h) (omega arith)))))

-- the width's powers by its half, and the top bit
module _ (w : ℕ) (wide : 1 ≤ w) where
  whole : 2 ^ w ≡ 2 ^ (w - 1) + 2 ^ (w - 1)
  whole =
      let up : w ≡ w - 1 + 1 = omega arith in
      ap (λ n. 2 ^ n) up ∙ twice (w - 1)

  pub top : (n : ℕ) → n < 2 ^ w → is_set (w - 1) n ≡ leb (2 ^ (w - 1)) n
  unfolding bit
  top n h =
      by_order n (2 ^ (w - 1))
      (λ p. rw (div-eq_of_lt p, lt-leb (2 ^ (w - 1)) n p))
      (λ p. rw (div-eq_of_lt-le {k = 1} (2 ^ (w - 1)) {m = n} (omega arith) (omega (arith, whole)), le-leb (2 ^ (w - 1)) n p))

  signed_is : (n : ℕ) → n < 2 ^ w → signed w n ≡ sub_ℕ n (over (2 ^ (w - 1)) n)
  signed_is n h = rw (top n h, whole)

-- V of a sum and of a difference, at every width from 2 bits on
module _ (w a m : ℕ) (c : Bool) (wide : 2 ≤ w) (fits-a : a < 2 ^ w) (fits-m : m < 2 ^ w) where
  pub sum_overflow_lem : sum_overflow w a m c ≡ not (fits_signed w (signed w a +ℤ signed w m +ℤ pos (flag c)))
  unfolding sum_overflow carry_out
  sum_overflow_lem =
      let h = 2 ^ (w - 1) in
      let all : w - 1 + 1 ≡ w = omega arith in
      let below : w - 2 + 1 ≡ w - 1 = omega arith in
      let one : 1 ≤ w = omega arith in
      let value : signed w a +ℤ signed w m +ℤ pos (flag c) ≡ sub_ℕ (a + m + flag c) (over h a + over h m) =
      rw (signed_is w one a fits-a, signed_is w one m fits-m, sub_add a (over h a) m (over h m), plain (flag c))
      (sub_add (a + m) (over h a + over h m) (flag c) 0 ∙ ap (sub_ℕ (a + m + flag c)) (add-zero (over h a + over h m))) in
      rw (all, below, mod-eq_of_lt fits-a, mod-eq_of_lt fits-m, value, fits_sub w (a + m + flag c) (over h a + over h m), whole w one)
      (sums h a m (flag c) (omega (arith, whole w one)) (omega (arith, whole w one)) (flag_le c))

  pub difference_overflow_lem : difference_overflow w a m c ≡ not (fits_signed w (signed w a -ℤ signed w m -ℤ pos (flag c)))
  unfolding difference_overflow borrow_out
  difference_overflow_lem =
      let h = 2 ^ (w - 1) in
      let all : w - 1 + 1 ≡ w = omega arith in
      let below : w - 2 + 1 ≡ w - 1 = omega arith in
      let one : 1 ≤ w = omega arith in
      let value : signed w a -ℤ signed w m -ℤ pos (flag c) ≡ sub_ℕ (a + over h m) (over h a + (m + flag c)) =
      rw (signed_is w one a fits-a, signed_is w one m fits-m, sub_neg m (over h m), sub_add a (over h a) (over h m) m, plain (flag c), sub_neg (flag c) 0)
      (sub_add (a + over h m) (over h a + m) 0 (flag c) ∙
      sub_same (a + over h m + 0) (over h a + m + flag c) (a + over h m) (over h a + (m + flag c)) (omega arith)) in
      rw (all, below, mod-eq_of_lt fits-a, mod-eq_of_lt fits-m, value, fits_sub w (a + over h m) (over h a + (m + flag c)))
      (differences h a m (flag c) (omega (arith, whole w one)) (omega (arith, whole w one)) (flag_le c))
