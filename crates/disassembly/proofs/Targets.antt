-- The target that a text prints is where the jump goes.
use Prim.Native.Nat.{ℕ, ◌+◌, ◌%◌, ◌≤◌}
use mathlib.Core.Path.{◌≡◌}
use mathlib.Core.Logic.{by_cases}
use native.Mathlib.Decide.{dec_lt}
use native.Mathlib.Omega.{arith}
use borrow.Author.Tests.{lt-ltb, le-ltb}
use Rattle.stm8.specs.Effects.{relative}
use Rattle.disassembly.specs.Text.{target}

-- unless it jumps to below 0, which `relative` counts as 0
pub target_relative : (next n : ℕ) → (128 ≤ n → 256 ≤ next + n) → target next n ≡ relative next n % 0x10000
unfolding target relative
target_relative next n above =
    by_cases (dec_lt n 128)
    (λ h. rw (lt-ltb n 128 h) (omega arith))
    (λ h.
    let back : 128 ≤ n = omega arith in
    let room = above back in
    rw (le-ltb n 128 back) (omega arith))
