-- What is held of a number: all of it up to 4,294,967,295, and that it is above where it is.
use Prim.Native.Nat.{ℕ, ◌+◌, ◌<◌, ◌≤◌}
use mathlib.Core.Path.{◌≡◌}
use mathlib.Core.Logic.{by_cases}
use mathlib.Core.List.{List}
use native.Mathlib.Decide.{dec_lt}
use native.Mathlib.Omega.{arith}
use lib.ListN.{get_or}
use borrow.Author.Tests.{lt-ltb}
use Rattle.turns.specs.Turn.{over_or_within}
use Rattle.turns.specs.Internal.{held, HeldIn, Fit}

pub held_low : (n : ℕ) → n < 4294967296 → n ≡ held n
unfolding held
held_low n h = omega arith

pub held_high : (n : ℕ) → 4294967296 ≤ n → 4294967296 ≡ held n
unfolding held
held_high n h = omega arith

pub held_most : (n : ℕ) → held n ≤ 4294967296
unfolding held
held_most n = omega arith

-- so a sum may be held at each step, or once
pub held_sum : (x y a b : ℕ) → a ≡ held x → held b ≡ held y → held (a + b) ≡ held (x + y)
unfolding held
held_sum x y a b p q = omega arith

pub held_more : (n t : ℕ) → t ≡ held n → held (1 + t) ≡ held (1 + n)
unfolding held
held_more n t e = omega arith

pub held_fit : (cells turns : List ℕ) → HeldIn cells turns → Fit cells
held_fit cells turns h k = rw (h k) (held_most (get_or turns k 0))

-- over exactly when the number is above 4,294,967,295, else equal
pub over_held : (n : ℕ) → over_or_within (held n) ≡ over_or_within n
unfolding held
over_held n =
    by_cases (dec_lt 4294967295 n)
    (λ above. let most : held n ≡ 4294967296 = omega arith in rw (most, lt-ltb 4294967295 n above))
    (λ below. let same : held n ≡ n = omega arith in rw same)
