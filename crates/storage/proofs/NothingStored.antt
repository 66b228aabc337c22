-- Operands that are no place in memory.
use Prim.Native.Nat.{ℕ}
use mathlib.Core.Path.{◌≡◌, refl}
use mathlib.Core.List.{List}
use Rattle.stm8.specs.Effects.{place_of}
use Rattle.stm8.specs.declared.Width.{Width}
use Rattle.stm8.specs.declared.Operand.{Operand}
use Rattle.stm8.specs.declared.Operand.TheVariants.{Accumulator, Immediate, ImmediateWord, Short, Long, Indexed, Sp}
use Rattle.image.specs.declared.Limits.{Limits}
use Rattle.storage.specs.Storing.{store_trap, stored_at, memory_after, Stored}

-- a store to none of a direct address and an offset from SP
pub nothing_stored : (limits : Limits) (sp value : ℕ) (memory : List ℕ) (x : Operand) (w : Width) →
    ((a : ℕ) → x ≡ Short a → ⊥) → ((a : ℕ) → x ≡ Long a → ⊥) → ((f : ℕ) → x ≡ Sp f → ⊥) → Stored limits sp (place_of x w) value memory 0 memory
unfolding store_trap stored_at memory_after
nothing_stored limits sp value memory (Short a) w short long on_stack = absurd (short a refl)
nothing_stored limits sp value memory (Long a) w short long on_stack = absurd (long a refl)
nothing_stored limits sp value memory (Sp f) w short long on_stack = absurd (on_stack f refl)
nothing_stored limits sp value memory Accumulator w short long on_stack = record { is = refl; after = λ sp'. refl }
nothing_stored limits sp value memory (Immediate n) w short long on_stack = record { is = refl; after = λ sp'. refl }
nothing_stored limits sp value memory (ImmediateWord n) w short long on_stack = record { is = refl; after = λ sp'. refl }
nothing_stored limits sp value memory (Indexed r f) w short long on_stack = record { is = refl; after = λ sp'. refl }
