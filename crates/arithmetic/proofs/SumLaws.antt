-- Powers of two, remainders, and the code's way to a carry and a difference.
use Rattle.std.proofs.Common.{◌≡◌, ℕ, ◌+◌, ◌-◌, ◌*◌, ◌%◌, ◌^◌, ◌<◌, ◌≤◌, Bool, not, cond, ltb, refl, ◌∙◌, lt_of_lt_of_le, mod-eq_of_lt, one-mul, add-one, arith, pow_mono, le-ltb, lt-ltb}
use mathlib.Core.Bool.{beq, xor}
use native.Mathlib.Nat.{two-pow-succ, mod-eq-sub-mod}
use lib.Pow.{pow-lt}
use Rattle.arithmetic.proofs.Orders.{by_order}

pub twice : (n : ℕ) → 2 ^ (n + 1) ≡ 2 ^ n + 2 ^ n
twice n = rw add-one (two-pow-succ n)

-- the remainder of a number that holds the divisor once
pub less_once : {p n : ℕ} → p ≤ n → n < p + p → n % p ≡ n - p
less_once {p} {n} above below = mod-eq-sub-mod above ∙ mod-eq_of_lt (omega arith)

-- 1 shifted by n places
pub shifted : (n : ℕ) → n < 32 → 1 * 2 ^ n % 2 ^ 32 ≡ 2 ^ n
shifted n small = rw (one-mul (2 ^ n)) (mod-eq_of_lt (pow-lt {j = 32} small))

-- where p is lent to a before m + x is taken, the rest modulo p is the difference
pub lent : (p a m x : ℕ) → a < p → m < p → x ≤ 1 → (p + a - m - x) % p ≡ cond (ltb (a % p) (m % p + x)) (a + p) a - (m + x)
lent p a m x ha hm hx =
    rw (mod-eq_of_lt ha, mod-eq_of_lt hm)
    (by_order a (m + x)
    (λ h. rw (lt-ltb a (m + x) h) (mod-eq_of_lt {n = p + a - m - x} (omega arith) ∙ (omega arith)))
    (λ h. rw (le-ltb a (m + x) h) (less_once {n = p + a - m - x} (omega arith) (omega arith) ∙ (omega arith))))

-- 1 is a number of any width
pub one : (w : ℕ) → 1 ≤ w → 1 % 2 ^ w ≡ 1
one w wide = mod-eq_of_lt (lt_of_lt_of_le (omega arith) (pow_mono wide))

-- the code's way to V: one of two carries alone
pub differ : (a b : Bool) → not (beq a b) ≡ xor a b
unfolding xor
differ a b = refl
