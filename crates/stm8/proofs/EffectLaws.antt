-- Bounds of relative targets and of widths, and what has a target of a call.
use Prim.Native.Nat.{ℕ, ◌+◌, ◌≤◌}
use mathlib.Core.Path.{◌≡◌, sym, ◌∙◌}
use mathlib.Core.Option.{Option, some, some-injective, none-ne-some}
use lib.Dec.{ltb}
use native.Mathlib.Omega.{arith}
use Rattle.numbers.proofs.Checking.{by_test}
use Rattle.stm8.specs.Effects.{relative, call_target, bytes_wide}
use Rattle.stm8.specs.declared.Flow.{Flow}
use Rattle.stm8.specs.declared.Flow.TheVariants.{Next, Branch, Jump, Call, CallRelative, Return}
use Rattle.stm8.specs.declared.Width.{Width}
use Rattle.stm8.specs.declared.Width.TheVariants.{Byte, Word}

pub relative_most : (next offset : ℕ) → relative next offset ≤ next + offset
unfolding relative
relative_most next offset = by_test (λ n. n ≤ next + offset) (ltb offset 128) (λ t. omega arith) (λ t. omega arith)

pub wide_some : (w : Width) → 1 ≤ bytes_wide w
wide_some Byte = omega arith
wide_some Word = omega arith

pub wide_most : (w : Width) → bytes_wide w ≤ 2
wide_most Byte = omega arith
wide_most Word = omega arith

-- a jump or a call has one target
pub one_target : {target : Option ℕ} {a b : ℕ} → target ≡ some a → target ≡ some b → a ≡ b
one_target p q = some-injective _ _ (sym p ∙ q)

-- what has a target of a call is a call
pub by_call : (next : ℕ) (flow : Flow) {address : ℕ} → call_target next flow ≡ some address → (P : Flow → Type 0) →
    ((a : ℕ) → P (Call a)) → ((n : ℕ) → P (CallRelative n)) → P flow
unfolding call_target
by_call next Next c P absolute near = absurd (none-ne-some _ c)
by_call next (Branch n) c P absolute near = absurd (none-ne-some _ c)
by_call next (Jump n) c P absolute near = absurd (none-ne-some _ c)
by_call next (Call a) c P absolute near = absolute a
by_call next (CallRelative n) c P absolute near = near n
by_call next Return c P absolute near = absurd (none-ne-some _ c)
