-- The effect of an instruction: the stack bytes it pops and then pushes, where it stores, and where it goes on. The check and the machine
-- both go by it, so that neither looks into an instruction's arithmetic to know what it may write.
use Rattle.std.specs.Prelude.{ℕ, ◌+◌, ◌-◌, Bool, true, false, cond, ltb}
use Rattle.std.proofs.Math.Option.{Option, none, some}
use Rattle.stm8.specs.declared.Operand.{Operand}
use Rattle.stm8.specs.declared.Operand.TheVariants.{Accumulator, Immediate, ImmediateWord, Short, Long, Indexed, Sp}
use Rattle.stm8.specs.declared.ModifyOp.{ModifyOp}
use Rattle.stm8.specs.declared.ModifyOp.TheVariants.{Clr, Cpl, Dec, Inc, Neg, Rlc, Rrc, Sll, Sra, Srl, Swap, Tnz}
use Rattle.stm8.specs.declared.Condition.{Condition}
use Rattle.stm8.specs.declared.Condition.TheVariants.{Jra, Jrf, Jrugt, Jrule, Jrnc, Jrc, Jrne, Jreq, Jrnv, Jrv, Jrpl, Jrmi, Jrsgt, Jrsle, Jrsge, Jrslt}
use Rattle.stm8.specs.declared.Instruction.{Instruction}
use Rattle.stm8.specs.declared.Instruction.TheVariants as I
use Rattle.stm8.specs.declared.Width.{Width}
use Rattle.stm8.specs.declared.Width.TheVariants.{Byte, Word}
use Rattle.stm8.specs.declared.Place.{Place}
use Rattle.stm8.specs.declared.Place.TheVariants.{Nowhere, Direct, OnStack, Pushed}
use Rattle.stm8.specs.declared.Flow.{Flow}
use Rattle.stm8.specs.declared.Flow.TheVariants.{Next, Branch, Jump, Call, CallRelative, Return}
use Rattle.stm8.specs.declared.Effect.{Effect}

-- where a relative jump or call goes: its offset is signed, -128 to 127, from the next instruction's address; an address below 0, which no code
-- has, counts as 0
unfoldable pub relative : ℕ → ℕ → ℕ
relative next offset = cond (ltb offset 128) (next + offset) (next + offset - 256)

-- where a jump goes, by the address after it; JRF is checked and counts for reach as the others do
unfoldable pub jump_target : ℕ → Flow → Option ℕ
jump_target next Next = none
jump_target next (Branch n) = some (relative next n)
jump_target next (Jump n) = some (relative next n)
jump_target next (Call a) = none
jump_target next (CallRelative n) = none
jump_target next Return = none

-- where a call goes
unfoldable pub call_target : ℕ → Flow → Option ℕ
call_target next Next = none
call_target next (Branch n) = none
call_target next (Jump n) = none
call_target next (Call a) = some a
call_target next (CallRelative n) = some (relative next n)
call_target next Return = none

-- the bytes of a width
abbrev pub bytes_wide : Width → ℕ
bytes_wide Byte = 1
bytes_wide Word = 2

-- where a store to an operand goes; the other forms are no destination of the set
abbrev pub place_of : Operand → Width → Place
place_of Accumulator w = Nowhere
place_of (Immediate n) w = Nowhere
place_of (ImmediateWord n) w = Nowhere
place_of (Short a) w = Direct a w
place_of (Long a) w = Direct a w
place_of (Indexed r f) w = Nowhere
place_of (Sp f) w = OnStack f w

-- TNZ stores nothing
abbrev pub writes_back : ModifyOp → Bool
writes_back Clr = true
writes_back Cpl = true
writes_back Dec = true
writes_back Inc = true
writes_back Neg = true
writes_back Rlc = true
writes_back Rrc = true
writes_back Sll = true
writes_back Sra = true
writes_back Srl = true
writes_back Swap = true
writes_back Tnz = false

abbrev pub modify_place : ModifyOp → Operand → Place
modify_place o x = cond (writes_back o) (place_of x Byte) Nowhere

-- JRA does not fall through; JRF, which never jumps when run, counts as the others do
abbrev pub falls_through : Condition → Bool
falls_through Jra = false
falls_through Jrf = true
falls_through Jrugt = true
falls_through Jrule = true
falls_through Jrnc = true
falls_through Jrc = true
falls_through Jrne = true
falls_through Jreq = true
falls_through Jrnv = true
falls_through Jrv = true
falls_through Jrpl = true
falls_through Jrmi = true
falls_through Jrsgt = true
falls_through Jrsle = true
falls_through Jrsge = true
falls_through Jrslt = true

abbrev pub jump_flow : Condition → ℕ → Flow
jump_flow o n = cond (falls_through o) (Branch n) (Jump n)

-- what goes on at the next instruction: pops, then pushes, and a store
abbrev pub moves : ℕ → ℕ → Place → Effect
moves pops pushes place = record { pops = pops; pushes = pushes; place = place; flow = Next }

abbrev pub computes : Effect
computes = moves 0 0 Nowhere

abbrev pub stores : Place → Effect
stores place = moves 0 0 place

abbrev pub goes : Flow → Effect
goes flow = record { pops = 0; pushes = 0; place = Nowhere; flow = flow }

-- a call pushes the next address
abbrev pub calls : Flow → Effect
calls flow = record { pops = 0; pushes = 2; place = Pushed Word; flow = flow }

abbrev pub effect : Instruction → Effect
effect (I.Alu o x) = computes
effect (I.Store x) = stores (place_of x Byte)
effect (I.LoadHalf r h) = computes
effect (I.StoreHalf r h) = computes
effect (I.Modify o x) = stores (modify_place o x)
effect (I.LoadWord r x) = computes
effect (I.StoreWord r x) = stores (place_of x Word)
effect (I.CopyWord r) = computes
effect (I.WordAlu o r w) = computes
effect (I.WordModify o r) = computes
effect (I.Pushw r) = moves 0 2 (Pushed Word)
effect (I.Popw r) = moves 2 0 Nowhere
effect I.Exgw = computes
effect (I.Mul r) = computes
effect (I.Bit o n a) = stores (Direct a Byte)
effect (I.BitJump o n a j) = goes (Branch j)
effect (I.Mov to from) = stores (place_of to Byte)
effect (I.Push x) = moves 0 1 (Pushed Byte)
effect (I.Pop x) = moves 1 0 (place_of x Byte)
effect (I.SubSp n) = moves 0 n Nowhere
effect (I.AddSp n) = moves n 0 Nowhere
effect (I.Jump o n) = goes (jump_flow o n)
effect (I.Call a) = calls (Call a)
effect (I.Callr n) = calls (CallRelative n)
effect I.Ret = record { pops = 2; pushes = 0; place = Nowhere; flow = Return }
effect I.Nop = computes
effect (I.Flag o) = computes

-- CALL or CALLR
abbrev pub is_call : Flow → Bool
is_call Next = false
is_call (Branch n) = false
is_call (Jump n) = false
is_call (Call a) = true
is_call (CallRelative n) = true
is_call Return = false
