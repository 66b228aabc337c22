-- Where an instruction may store, what memory holds after it, and the traps of SP, of stores and of calls.
use Rattle.std.specs.Prelude.{ℕ, ◌+◌, ◌≡◌, cond, List, [], ◌∷◌, eqb, ltb, set}
use Rattle.numbers.specs.Checks.{first, under, unless}
use Rattle.numbers.specs.Words.{high, low}
use Rattle.stm8.specs.Effects.{bytes_wide, is_call}
use Rattle.stm8.specs.declared.Width.{Width}
use Rattle.stm8.specs.declared.Width.TheVariants.{Byte, Word}
use Rattle.stm8.specs.declared.Place.{Place}
use Rattle.stm8.specs.declared.Place.TheVariants.{Nowhere, Direct, OnStack, Pushed}
use Rattle.stm8.specs.declared.Flow.{Flow}
use Rattle.stm8.specs.declared.Effect.{Effect}
use Rattle.image.specs.declared.Limits.{Limits}
use Rattle.image.specs.Access.{granted}

-- 21, SP not from stack low - 1 to stack high
unfoldable pub sp_trap : Limits → ℕ → ℕ
sp_trap limits sp = first (under (sp + 1) limits.stack.low 21) (under limits.stack.high sp 21)

-- 24, SP would leave its range
unfoldable pub move_trap : Limits → ℕ → Effect → ℕ
move_trap limits sp e =
    first (under limits.stack.high (sp + e.pops) 24) (under (sp + e.pops + 1) (limits.stack.low + e.pushes) 24)

-- 25, direct store not wholly in one of the two grants, or SP store outside SP + 1 to stack high
unfoldable pub store_trap : Limits → ℕ → Place → ℕ
store_trap limits sp Nowhere = 0
store_trap limits sp (Direct a w) = unless (granted limits a (bytes_wide w)) 25
store_trap limits sp (OnStack f w) = first (under f 1 25) (under (limits.stack.high + 1) (sp + f + bytes_wide w) 25)
store_trap limits sp (Pushed w) = 0

-- 22, a call whose next address is 10000: after 25 was tested
unfoldable pub call_trap : ℕ → Flow → ℕ
call_trap next flow = cond (is_call flow) (unless (ltb next 0x10000) 22) 0

-- the addresses of a byte or a word from one on
abbrev pub bytes_from : ℕ → Width → List ℕ
bytes_from address Byte = address ∷ []
bytes_from address Word = address ∷ (address + 1) ∷ []

-- the addresses of the bytes that a place stores, lower first, by SP before and after: what is pushed lies just above the new SP
unfoldable pub stored_at : ℕ → ℕ → Place → List ℕ
stored_at sp after Nowhere = []
stored_at sp after (Direct a w) = bytes_from a w
stored_at sp after (OnStack f w) = bytes_from (sp + f) w
stored_at sp after (Pushed w) = bytes_from (after + 1) w

-- memory with a value stored at them, two at most: its low byte, or both bytes, the high byte lower
unfoldable pub memory_after : List ℕ → List ℕ → ℕ → List ℕ
memory_after memory [] value = memory
memory_after memory (a ∷ []) value = set memory a (low value)
memory_after memory (a ∷ b ∷ more) value = set (set memory a (high value)) b (low value)

-- a store that was tried, at a place that is not pushed: its trap, and memory, which holds the value where there is none
pub record Stored (limits : Limits) (sp : ℕ) (place : Place) (value : ℕ) (memory : List ℕ) (trap : ℕ) (memory' : List ℕ) : Type 0 where
  pub is : trap ≡ store_trap limits sp place
  pub after : (sp' : ℕ) → memory' ≡ cond (eqb trap 0) (memory_after memory (stored_at sp sp' place) value) memory
