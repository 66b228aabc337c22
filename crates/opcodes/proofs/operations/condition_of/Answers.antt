-- `opcodes::operations::condition_of` meets its contract.
use mathlib.Core.Path.{refl}
use mathlib.Core.List.{[], ◌∷◌}
use Rattle.stm8.specs.OpcodeMap.{row2}
use Rattle.stm8.specs.declared.Condition.TheVariants.{Jra}
use Rattle.stm8.specs.declared.Instruction.TheVariants.{Jump}
use Rattle.opcodes.specs.Entries.{in_row}
use Rattle.opcodes.proofs.Arms.{otherwise}
use Rattle.opcodes.proofs.operations.condition_of.Goals as goal

pub returns-in-0 : goal.returns-in-0
unfolding in_row
returns-in-0 c a = rw c.in-0.is

pub returns-in-1 : goal.returns-in-1
unfolding in_row
returns-in-1 c a = rw c.in-1.is

pub returns-in-2 : goal.returns-in-2
unfolding in_row
returns-in-2 c a = rw c.in-2.is

pub returns-in-3 : goal.returns-in-3
unfolding in_row
returns-in-3 c a = rw c.in-3.is

pub returns-in-4 : goal.returns-in-4
unfolding in_row
returns-in-4 c a = rw c.in-4.is

pub returns-in-5 : goal.returns-in-5
unfolding in_row
returns-in-5 c a = rw c.in-5.is

pub returns-in-6 : goal.returns-in-6
unfolding in_row
returns-in-6 c a = rw c.in-6.is

pub returns-in-7 : goal.returns-in-7
unfolding in_row
returns-in-7 c a = rw c.in-7.is

pub returns-in-8 : goal.returns-in-8
unfolding in_row
returns-in-8 c a = rw c.in-8.is

pub returns-in-9 : goal.returns-in-9
unfolding in_row
returns-in-9 c a = rw c.in-9.is

pub returns-in-10 : goal.returns-in-10
unfolding in_row
returns-in-10 c a = rw c.in-10.is

pub returns-in-11 : goal.returns-in-11
unfolding in_row
returns-in-11 c a = rw c.in-11.is

pub returns-in-12 : goal.returns-in-12
unfolding in_row
returns-in-12 c a = rw c.in-12.is

pub returns-in-13 : goal.returns-in-13
unfolding in_row
returns-in-13 c a = rw c.in-13.is

pub returns-in-14 : goal.returns-in-14
unfolding in_row
returns-in-14 c a = rw c.in-14.is

pub returns-in-15 : goal.returns-in-15
unfolding in_row
returns-in-15 c a = rw c.in-15.is

pub returns-in_default : goal.returns-in_default
unfolding in_row
returns-in_default c a = otherwise (15 ∷ 14 ∷ 13 ∷ 12 ∷ 11 ∷ 10 ∷ 9 ∷ 8 ∷ 7 ∷ 6 ∷ 5 ∷ 4 ∷ 3 ∷ 2 ∷ 1 ∷ 0 ∷ []) (row2 a) (Jump Jra a) refl c.args.op
    c.in_default.in_default-own.rest
