-- What holds at every start below an offset: how a pass over the starts, rising, goes on and ends.
use Prim.Native.Nat.{ℕ, ◌+◌, ◌<◌, ◌≤◌}
use mathlib.Core.Logic.{by_cases}
use native.Mathlib.Decide.{ℕ_discrete}
use native.Mathlib.Omega.{arith}

abbrev pub Below : ℕ → (ℕ → ℕ) → (ℕ → Type 0) → ℕ → Type 0
Below entry starts Holds at = (o : ℕ) → entry ≤ o → o < at → 1 ≤ starts o → Holds o

pub none_below : (entry : ℕ) (starts : ℕ → ℕ) (Holds : ℕ → Type 0) → Below entry starts Holds entry
none_below entry starts Holds o low high is = absurd (omega arith)

pub one_more : (entry : ℕ) (starts : ℕ → ℕ) (Holds : ℕ → Type 0) (at : ℕ) → Below entry starts Holds at → (1 ≤ starts at → Holds at) →
    Below entry starts Holds (at + 1)
one_more entry starts Holds at below here o low high is =
    by_cases (ℕ_discrete o at) (λ e. rw e (here (rw e at is))) (λ e. below o low (omega arith) is)
