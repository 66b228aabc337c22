-- `decoder::lengths::after_90_row` meets its contract: each row is computed from the map and compared.
use Prim.Native.Nat.{◌/◌}
use mathlib.Core.Path.{refl}
use mathlib.Core.List.{[], ◌∷◌}
use native.Mathlib.Omega.{arith}
use Rattle.numbers.proofs.Computing.{rest}
use Rattle.stm8.specs.OpcodeMap.{After90}
use Rattle.decoder.specs.Parts.{row_lengths}
use Rattle.decoder.proofs.lengths.after_90_row.Goals as goal

pub returns-in-1 : goal.returns-in-1
unfolding row_lengths
returns-in-1 c = rw c.in-1.is

pub returns-in-4 : goal.returns-in-4
unfolding row_lengths
returns-in-4 c = rw c.in-4.is

pub returns-in-5 : goal.returns-in-5
unfolding row_lengths
returns-in-5 c = rw c.in-5.is

pub returns-in-8 : goal.returns-in-8
unfolding row_lengths
returns-in-8 c = rw c.in-8.is

pub returns-in-9 : goal.returns-in-9
unfolding row_lengths
returns-in-9 c = rw c.in-9.is

pub returns-in-10 : goal.returns-in-10
unfolding row_lengths
returns-in-10 c = rw c.in-10.is

pub returns-in-12 : goal.returns-in-12
unfolding row_lengths
returns-in-12 c = rw c.in-12.is

pub returns-in-13 : goal.returns-in-13
unfolding row_lengths
returns-in-13 c = rw c.in-13.is

pub returns-in-14 : goal.returns-in-14
unfolding row_lengths
returns-in-14 c = rw c.in-14.is

pub returns-in-15 : goal.returns-in-15
unfolding row_lengths
returns-in-15 c = rw c.in-15.is

pub returns-in_default : goal.returns-in_default
unfolding row_lengths
returns-in_default c = rest 15 (15 ∷ 14 ∷ 13 ∷ 12 ∷ 10 ∷ 9 ∷ 8 ∷ 5 ∷ 4 ∷ 1 ∷ []) (λ k. 0) (row_lengths After90) refl (c.args.op / 16)
    (omega arith) c.in_default.in_default-own.rest
