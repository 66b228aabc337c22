-- What stands at an offset is a call to an address, or not: the ways through the test, with each value as a variable.
use Prim.Native.Nat.{ℕ, ◌+◌}
use mathlib.Core.Path.{◌≡◌, refl}
use mathlib.Core.Bool.{Bool, true, false, cond}
use borrow.Author.Tests.{eq-eqb, ne_eqb}
use Rattle.std.specs.Prelude.{Ok, Err}
use Rattle.stm8.specs.Decoding.{Decoded}
use Rattle.stm8.specs.Effects.{call_target, effect}
use Rattle.stm8.specs.declared.DecodeError.{DecodeError}
use Rattle.stm8.specs.declared.Flow.TheVariants.{Branch, Jump}
use Rattle.stm8.specs.declared.Instruction.{Instruction}
use Rattle.resuming.specs.Internal.{calls_to, is_call_to}

-- a jump is no call, whether it falls through or not
pub jump_calls_nobody : (t : Bool) (next n address : ℕ) → false ≡ calls_to (call_target next (cond t (Branch n) (Jump n))) address
unfolding call_target
jump_calls_nobody true next n address = refl
jump_calls_nobody false next n address = refl

module _ (base o next address : ℕ) (x : Decoded) where
  pub call_none : {error : DecodeError} → x ≡ Err error → false ≡ is_call_to base o next address x
  call_none none = rw none

  module _ {i : Instruction} {n : ℕ} (found : x ≡ Ok (i, n)) where
    pub call_elsewhere : (o + n ≡ next → ⊥) → false ≡ is_call_to base o next address x
    call_elsewhere other = rw (found, ne_eqb (o + n) next other)

    pub call_here : {b : ℕ} {r : Bool} → o + n ≡ next → b ≡ base → r ≡ calls_to (call_target (b + next) (effect i).flow) address →
        r ≡ is_call_to base o next address x
    call_here ends base_is is = rw (found, eq-eqb (o + n) next ends) (rw base_is at is)
