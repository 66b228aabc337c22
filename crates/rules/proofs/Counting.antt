-- Counting the numbers that pass a test.
use Prim.Native.Nat.{ℕ, zero, suc, ◌+◌, ◌<◌, ◌≤◌}
use mathlib.Core.Path.{◌≡◌, refl}
use mathlib.Core.Logic.{by_cases}
use mathlib.Core.Bool.{Bool, true, false}
use native.Mathlib.Decide.{ℕ_discrete}
use native.Mathlib.Nat.{add-zero, add-suc}
use native.Mathlib.Omega.{arith}
use Rattle.rules.specs.Rules.{count_below}

pub count_same : (f g : ℕ → Bool) (n : ℕ) → ((k : ℕ) → k < n → f k ≡ g k) → count_below f n ≡ count_below g n
unfolding count_below
count_same f g zero h = refl
count_same f g (suc n) h = rw (h n (omega arith), count_same f g n (λ k below. h k (omega arith)))

count_none : (f : ℕ → Bool) (n m : ℕ) → ((k : ℕ) → n ≤ k → k < n + m → f k ≡ false) → count_below f (n + m) ≡ count_below f n
unfolding count_below
count_none f n zero h = rw add-zero
count_none f n (suc m) h =
    rw (add-suc n m, h (n + m) (omega arith) (omega arith), count_none f n m (λ k low high. h k low (omega arith))) (add-zero (count_below f n))

-- one number that passes, and l - 1 after it that do not
pub count_one : (f : ℕ → Bool) (n l : ℕ) → 0 < l → f n ≡ true → ((k : ℕ) → n < k → k < n + l → f k ≡ false) → count_below f (n + l) ≡ count_below f n + 1
unfolding count_below
count_one f n zero some here h = absurd (omega arith)
count_one f n (suc l) some here h =
    let e : n + suc l ≡ suc n + l = omega arith in
    rw (e, count_none f (suc n) l (λ k low high. h k low (omega arith)), here)

pub count_some : (f : ℕ → Bool) (n k : ℕ) → k < n → f k ≡ true → 1 ≤ count_below f n
unfolding count_below
count_some f zero k below here = absurd (omega arith)
count_some f (suc n) k below here =
    by_cases (ℕ_discrete k n) (λ e. rw (← e, here) (omega arith)) (λ ne. omega (arith, count_some f n k (omega arith) here))
