-- The forms of an effect: what an instruction pushes lies in the bytes that it adds to the stack, a call pushes the next address and nothing else,
-- and RET pops it.
use Prim.Native.Nat.{ℕ, ◌%◌, ◌≤◌}
use mathlib.Core.Path.{◌≡◌, refl, sym}
use mathlib.Core.Bool.{Bool, true, false, cond, true≢false}
use mathlib.Core.List.{List}
use native.Mathlib.Omega.{arith}
use Rattle.stm8.specs.Effects.{bytes_wide, effect, is_call, place_of, writes_back, falls_through}
use Rattle.stm8.specs.declared.Operand.{Operand}
use Rattle.stm8.specs.declared.Operand.TheVariants.{Accumulator, Immediate, ImmediateWord, Short, Long, Indexed, Sp}
use Rattle.stm8.specs.declared.Width.{Width}
use Rattle.stm8.specs.declared.Width.TheVariants.{Byte, Word}
use Rattle.stm8.specs.declared.Place.{Place}
use Rattle.stm8.specs.declared.Place.TheVariants.{Nowhere, Direct, OnStack, Pushed}
use Rattle.stm8.specs.declared.Flow.{Flow}
use Rattle.stm8.specs.declared.Flow.TheVariants.{Next, Branch, Jump, Call, CallRelative, Return}
use Rattle.stm8.specs.declared.Instruction.{Instruction}
use Rattle.stm8.specs.declared.Instruction.TheVariants as I
use Rattle.execution.specs.Computing.{computed}
use Rattle.execution.specs.declared.Registers.{Registers}

-- what is pushed lies in the bytes that are added
abbrev pub PushesOwn : Place → ℕ → Type 0
PushesOwn Nowhere pushes = Unit {0}
PushesOwn (Direct a w) pushes = Unit {0}
PushesOwn (OnStack f w) pushes = Unit {0}
PushesOwn (Pushed w) pushes = bytes_wide w ≤ pushes

-- a call pushes the address after it, 16 bits
abbrev pub CallForm : ℕ → ℕ → Place → ℕ → ℕ → Type 0
CallForm pops pushes place stored next = (pops ≡ 0) × (pushes ≡ 2) × (place ≡ Pushed Word) × (stored ≡ next % 0x10000)

abbrev pub Form : Flow → ℕ → ℕ → Place → ℕ → ℕ → Type 0
Form Next pops pushes place stored next = PushesOwn place pushes
Form (Branch n) pops pushes place stored next = PushesOwn place pushes
Form (Jump n) pops pushes place stored next = PushesOwn place pushes
Form (Call a) pops pushes place stored next = CallForm pops pushes place stored next
Form (CallRelative n) pops pushes place stored next = CallForm pops pushes place stored next
Form Return pops pushes place stored next = (pops ≡ 2) × (pushes ≡ 0) × (place ≡ Nowhere)

operand_own : (x : Operand) (w : Width) (pushes : ℕ) → PushesOwn (place_of x w) pushes
operand_own Accumulator w pushes = tt
operand_own (Immediate n) w pushes = tt
operand_own (ImmediateWord n) w pushes = tt
operand_own (Short a) w pushes = tt
operand_own (Long a) w pushes = tt
operand_own (Indexed r f) w pushes = tt
operand_own (Sp f) w pushes = tt

modify_own : (writes : Bool) (x : Operand) → PushesOwn (cond writes (place_of x Byte) Nowhere) 0
modify_own true x = operand_own x Byte 0
modify_own false x = tt

jump_form : (through : Bool) (n stored next : ℕ) → Form (cond through (Branch n) (Jump n)) 0 0 Nowhere stored next
jump_form true n stored next = tt
jump_form false n stored next = tt

pub effect_form : (image memory : List ℕ) (regs : Registers) (next : ℕ) (i : Instruction) →
    Form (effect i).flow (effect i).pops (effect i).pushes (effect i).place (computed image memory regs next i).stored next
unfolding computed
effect_form image memory regs next (I.Alu o x) = tt
effect_form image memory regs next (I.Store x) = operand_own x Byte 0
effect_form image memory regs next (I.LoadHalf r h) = tt
effect_form image memory regs next (I.StoreHalf r h) = tt
effect_form image memory regs next (I.Modify o x) = modify_own (writes_back o) x
effect_form image memory regs next (I.LoadWord r x) = tt
effect_form image memory regs next (I.StoreWord r x) = operand_own x Word 0
effect_form image memory regs next (I.CopyWord r) = tt
effect_form image memory regs next (I.WordAlu o r w) = tt
effect_form image memory regs next (I.WordModify o r) = tt
effect_form image memory regs next (I.Pushw r) = omega arith
effect_form image memory regs next (I.Popw r) = tt
effect_form image memory regs next I.Exgw = tt
effect_form image memory regs next (I.Mul r) = tt
effect_form image memory regs next (I.Bit o n a) = tt
effect_form image memory regs next (I.BitJump o n a j) = tt
effect_form image memory regs next (I.Mov to from) = operand_own to Byte 0
effect_form image memory regs next (I.Push x) = omega arith
effect_form image memory regs next (I.Pop x) = operand_own x Byte 0
effect_form image memory regs next (I.SubSp n) = tt
effect_form image memory regs next (I.AddSp n) = tt
effect_form image memory regs next (I.Jump o n) = jump_form (falls_through o) n _ next
effect_form image memory regs next (I.Call a) = (refl, refl, refl, refl)
effect_form image memory regs next (I.Callr n) = (refl, refl, refl, refl)
effect_form image memory regs next I.Ret = (refl, refl, refl)
effect_form image memory regs next I.Nop = tt
effect_form image memory regs next (I.Flag o) = tt

pub call_form : (pops pushes : ℕ) (place : Place) (stored next : ℕ) (flow : Flow) → is_call flow ≡ true →
    Form flow pops pushes place stored next → CallForm pops pushes place stored next
call_form pops pushes place stored next Next h form = absurd (true≢false (sym h))
call_form pops pushes place stored next (Branch n) h form = absurd (true≢false (sym h))
call_form pops pushes place stored next (Jump n) h form = absurd (true≢false (sym h))
call_form pops pushes place stored next (Call a) h form = form
call_form pops pushes place stored next (CallRelative n) h form = form
call_form pops pushes place stored next Return h form = absurd (true≢false (sym h))
