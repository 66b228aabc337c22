-- Digits and the bytes that they spell: written bytes, read back, and digits as they are declared.
use Prim.Native.Nat.{ℕ, suc, ◌+◌, ◌-◌, ◌*◌, ◌/◌, ◌%◌, ◌<◌, ◌≤◌}
use mathlib.Core.Path.{◌≡◌, refl, subst}
use mathlib.Core.Logic.{◌⊎◌, inl, inr}
use mathlib.Core.Bool.{true, false}
use mathlib.Core.List.{List, [], ◌∷◌, ◌++◌}
use native.Mathlib.Omega.{arith}
use lib.Dec.{eqb, leb, ltb}
use borrow.Author.Tests.{ltb-true, ltb-false, leb-true, lt-ltb, ne_eqb}
use Rattle.numbers.specs.Folds.{total}
use Rattle.numbers.specs.Lists.{Bytes}
use Rattle.numbers.proofs.Computing.{below}
use Rattle.numbers.proofs.Checking.{by_test}
use Rattle.hexadecimal.specs.Text.{digit, pair}
use Rattle.hex_records.specs.Digits.{Digit, capital, byte_of, pairs, all_bytes, digit_of, spelled}

pub byte_spelled : (b : ℕ) → b < 256 → byte_of (digit_of (b / 16)) (digit_of (b % 16)) ≡ b
unfolding byte_of capital pair digit digit_of
byte_spelled b h = below 255 (λ b. byte_of (digit_of (b / 16)) (digit_of (b % 16))) (λ b. b) refl b h

-- every number of a list is a byte, by the list
pub all_bytes_lem : (s : List ℕ) → Bytes s → all_bytes s ≡ true
unfolding all_bytes
all_bytes_lem [] h = refl
all_bytes_lem (b ∷ s) h = rw (lt-ltb b 256 (h 0)) (all_bytes_lem s (λ k. h (suc k)))

pub pairs_spelled : (s : List ℕ) → Bytes s → pairs (spelled s) ≡ s
unfolding pairs spelled
pairs_spelled [] h = refl
pairs_spelled (b ∷ s) h = rw (byte_spelled b (h 0), pairs_spelled s (λ k. h (suc k)))

-- no digit is LF
pub data NoLf : List ℕ → Type 0 where
  none : NoLf []
  more : {c : ℕ} {s : List ℕ} → eqb c 0x0A ≡ false → NoLf s → NoLf (c ∷ s)

pub digit_not_lf : (n : ℕ) → eqb (digit_of n) 0x0A ≡ false
unfolding digit_of
digit_not_lf n =
    ne_eqb _ 0x0A (by_test (λ (x : ℕ). x ≡ 0x0A → ⊥) (ltb n 10) (λ _ e. omega (arith, e)) (λ _ e. omega (arith, e)))

pub spelled_not_lf : (s : List ℕ) → NoLf (spelled s)
unfolding spelled
spelled_not_lf [] = none
spelled_not_lf (b ∷ s) = more (digit_not_lf (b / 16)) (more (digit_not_lf (b % 16)) (spelled_not_lf s))

pub total_last : (s : List ℕ) (c : ℕ) → total (s ++ c ∷ []) ≡ total s + c
unfolding total
total_last [] c = omega arith
total_last (b ∷ s) c = omega (arith, total_last s c)

-- Digits as they are declared have their value, and are none but those.
value_of : {c v : ℕ} → Digit c v → (v < 16) × (digit (capital c) ≡ v)
unfolding capital digit
value_of (Digit.decimal {n} h) = (omega arith, below 9 (λ n. digit (capital (0x30 + n))) (λ n. n) refl n h)
value_of (Digit.upper {n} h) = (omega arith, below 5 (λ n. digit (capital (0x41 + n))) (λ n. 10 + n) refl n h)
value_of (Digit.lower {n} h) = (omega arith, below 5 (λ n. digit (capital (0x61 + n))) (λ n. 10 + n) refl n h)

pub declared_small : {c v : ℕ} → Digit c v → v < 16
declared_small d = (value_of d).0

pub declared_not_lf : {c v : ℕ} → Digit c v → eqb c 0x0A ≡ false
declared_not_lf (Digit.decimal {n} h) = ne_eqb (0x30 + n) 0x0A (λ e. omega (arith, e))
declared_not_lf (Digit.upper {n} h) = ne_eqb (0x41 + n) 0x0A (λ e. omega (arith, e))
declared_not_lf (Digit.lower {n} h) = ne_eqb (0x61 + n) 0x0A (λ e. omega (arith, e))

pub declared_byte : {c d h l : ℕ} → Digit c h → Digit d l → byte_of c d ≡ h * 16 + l
unfolding byte_of pair
declared_byte p q =
    rw ((value_of p).1, (value_of q).1, lt-ltb _ 16 (value_of p).0, lt-ltb _ 16 (value_of q).0)

-- a character whose value is under 16 lies in a range of digits
Ranged : ℕ → ℕ → Type 0
Ranged c v = ((0x30 ≤ c) × (c ≤ 0x39) × (v ≡ c - 0x30)) ⊎ ((0x41 ≤ c) × (c ≤ 0x46) × (v ≡ c - 0x41 + 10))

ranged : (c : ℕ) → digit c < 16 → Ranged c (digit c)
unfolding digit Ranged
ranged c =
    by_test (λ n. n < 16 → Ranged c n) (ltb c 0x30) (λ a h. absurd (omega arith))
    (λ a. by_test (λ n. n < 16 → Ranged c n) (leb c 0x39) (λ b h. inl (ltb-false c 0x30 a, leb-true c 0x39 b, refl))
    (λ b. by_test (λ n. n < 16 → Ranged c n) (ltb c 0x41) (λ d h. absurd (omega arith))
    (λ d. by_test (λ n. n < 16 → Ranged c n) (leb c 0x46) (λ e h. inr (ltb-false c 0x41 d, leb-true c 0x46 e, refl))
    (λ e h. absurd (omega arith)))))

-- so it is the digit of that value, in either case
as_decimal : (c v : ℕ) → 0x30 ≤ c → c ≤ 0x39 → v ≡ c - 0x30 → Digit c v
as_decimal c v low high is =
    let char : 0x30 + v ≡ c = omega arith in
    subst (λ (d : ℕ). Digit d v) char (Digit.decimal (omega arith))

as_upper : (c v : ℕ) → 0x41 ≤ c → c ≤ 0x46 → v ≡ c - 0x41 + 10 → Digit c v
as_upper c v low high is =
    let char : 0x41 + (c - 0x41) ≡ c = omega arith in
    let value : 10 + (c - 0x41) ≡ v = omega arith in
    subst (λ (d : ℕ). Digit d v) char (subst (Digit (0x41 + (c - 0x41))) value (Digit.upper (omega arith)))

as_lower : (c v : ℕ) → 0x61 ≤ c → c ≤ 0x66 → v ≡ c - 0x20 - 0x41 + 10 → Digit c v
as_lower c v low high is =
    let char : 0x61 + (c - 0x61) ≡ c = omega arith in
    let value : 10 + (c - 0x61) ≡ v = omega arith in
    subst (λ (d : ℕ). Digit d v) char (subst (Digit (0x61 + (c - 0x61))) value (Digit.lower (omega arith)))

unchanged : (c v : ℕ) → Ranged c v → Digit c v
unfolding Ranged
unchanged c v (inl h) = as_decimal c v h.0 h.1 h.2
unchanged c v (inr h) = as_upper c v h.0 h.1 h.2

lowered : (c v : ℕ) → 0x61 ≤ c → c ≤ 0x66 → Ranged (c - 0x20) v → Digit c v
unfolding Ranged
lowered c v low high (inl h) = absurd (omega (arith, h.1))
lowered c v low high (inr h) = as_lower c v low high h.2

digit_declared : (c : ℕ) → digit (capital c) < 16 → Digit c (digit (capital c))
unfolding capital
digit_declared c =
    by_test (λ n. digit n < 16 → Digit c (digit n)) (ltb c 0x61) (λ a h. unchanged c (digit c) (ranged c h))
    (λ a. by_test (λ n. digit n < 16 → Digit c (digit n)) (leb c 0x66)
    (λ b h. lowered c (digit (c - 0x20)) (ltb-false c 0x61 a) (leb-true c 0x66 b) (ranged (c - 0x20) h))
    (λ b h. unchanged c (digit c) (ranged c h)))

-- two characters whose byte is one are digits
pub record TwoDigits (c d v : ℕ) : Type 0 where
  pub h : ℕ
  pub l : ℕ
  pub first : Digit c h
  pub second : Digit d l
  pub is : h * 16 + l ≡ v

pub byte_digits_lem : (c d : ℕ) → byte_of c d < 256 → TwoDigits c d (byte_of c d)
unfolding byte_of pair
byte_digits_lem c d =
    let h = digit (capital c) in
    let l = digit (capital d) in
    by_test (λ n. n < 256 → TwoDigits c d n) (ltb h 16)
    (λ p. by_test (λ n. n < 256 → TwoDigits c d n) (ltb l 16)
    (λ q small.
    record { h = h; l = l; first = digit_declared c (ltb-true h 16 p); second = digit_declared d (ltb-true l 16 q); is = refl })
    (λ q small. absurd (omega arith)))
    (λ p small. absurd (omega arith))
