-- By the two cases of an order, and tests of order that agree.
use Rattle.std.proofs.Common.{◌≡◌, ℕ, ◌<◌, ◌≤◌, not, ltb, leb, arith, le-ltb, lt-ltb, le-leb}
use mathlib.Core.Logic.{by_cases}
use native.Mathlib.Decide.{dec_lt}
use borrow.Author.Tests.{lt-leb}

pub by_order : {P : Type 0} (a b : ℕ) → (a < b → P) → (b ≤ a → P) → P
by_order a b f g = by_cases (dec_lt a b) f (λ h. g (omega arith))

-- tests that hold together
pub same_test : (a b c d : ℕ) → (a ≤ b → c ≤ d) → (b < a → d < c) → leb a b ≡ leb c d
same_test a b c d f g = by_order b a (λ h. rw (lt-leb a b h, lt-leb c d (g h))) (λ h. rw (le-leb a b h, le-leb c d (f h)))

pub not_ltb : (a b : ℕ) → not (ltb a b) ≡ leb b a
not_ltb a b = by_order a b (λ h. rw (lt-ltb a b h, lt-leb b a h)) (λ h. rw (le-ltb a b h, le-leb b a h))

pub not_leb : (a b : ℕ) → not (leb a b) ≡ ltb b a
not_leb a b = by_order b a (λ h. rw (lt-leb a b h, lt-ltb b a h)) (λ h. rw (le-leb a b h, le-ltb b a h))
