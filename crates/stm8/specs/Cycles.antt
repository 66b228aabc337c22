-- The cycles of an instruction: the cy column of the manual's pages, in their order. Where a page prints two figures, the first is for a branch that is
-- not taken and the second for one that is; one figure is given twice. Wait states and pipeline stalls stay outside.
use Rattle.std.specs.Prelude.{ℕ, Bool, cond}
use Rattle.stm8.specs.Effects.{falls_through}
use Rattle.stm8.specs.declared.Condition.{Condition}
use Rattle.stm8.specs.declared.Instruction.{Instruction}
use Rattle.stm8.specs.declared.Instruction.TheVariants as I
use Rattle.stm8.specs.declared.Cycles.{Cycles}

-- one figure, and two: not taken and taken
abbrev pub once : ℕ → Cycles
once n = record { untaken = n; taken = n }

abbrev pub either : ℕ → ℕ → Cycles
either untaken taken = record { untaken = untaken; taken = taken }

-- JRA prints 2, the page of the other jumps 1/2: JRF too, which is always not taken
abbrev pub jump_cycles : Condition → Cycles
jump_cycles o = cond (falls_through o) (either 1 2) (once 2)

abbrev pub cycles : Instruction → Cycles
-- ADC, ADD, AND, BCP, CP, LD A, OR, SBC, SUB, XOR
cycles (I.Alu o x) = once 1
-- ADDW, CPW, SUBW
cycles (I.WordAlu o r w) = once 2
cycles (I.AddSp n) = once 2
-- BCCM, BCPL, BRES, BSET
cycles (I.Bit o n a) = once 1
-- BTJF, BTJT
cycles (I.BitJump o n a j) = either 2 3
cycles (I.Call a) = once 4
cycles (I.Callr n) = once 4
-- CCF, RCF, RVF, SCF
cycles (I.Flag o) = once 1
-- CLR, CPL, DEC, INC, NEG, RLC, RRC, SLL, SRA, SRL, TNZ; SWAP, whose page is lost, as these
cycles (I.Modify o x) = once 1
-- CLRW, DECW, INCW
cycles (I.WordModify o r) = once 1
cycles I.Exgw = once 1
cycles (I.Jump o n) = jump_cycles o
-- LD to memory, and between A and the halves of X and Y
cycles (I.Store x) = once 1
cycles (I.LoadHalf r h) = once 1
cycles (I.StoreHalf r h) = once 1
-- LDW from memory and to it, and between X and Y
cycles (I.LoadWord r x) = once 2
cycles (I.StoreWord r x) = once 2
cycles (I.CopyWord r) = once 1
cycles (I.Mov to from) = once 1
cycles (I.Mul r) = once 4
cycles I.Nop = once 1
cycles (I.Pop x) = once 1
cycles (I.Popw r) = once 2
cycles (I.Push x) = once 1
cycles (I.Pushw r) = once 2
cycles I.Ret = once 4
cycles (I.SubSp n) = once 1

-- the figure that is charged: the second where the branch is taken
abbrev pub charged : Cycles → Bool → ℕ
charged c taken = cond taken c.taken c.untaken
