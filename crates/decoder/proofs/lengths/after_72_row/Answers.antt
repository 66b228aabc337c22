-- `decoder::lengths::after_72_row` meets its contract: each row is computed from the map and compared.
use Prim.Native.Nat.{◌/◌}
use mathlib.Core.Path.{refl}
use mathlib.Core.List.{[], ◌∷◌}
use native.Mathlib.Omega.{arith}
use Rattle.numbers.proofs.Computing.{rest}
use Rattle.stm8.specs.OpcodeMap.{After72}
use Rattle.decoder.specs.Parts.{row_lengths}
use Rattle.decoder.proofs.lengths.after_72_row.Goals as goal

pub returns-in-0 : goal.returns-in-0
unfolding row_lengths
returns-in-0 c = rw c.in-0.is

pub returns-in-1 : goal.returns-in-1
unfolding row_lengths
returns-in-1 c = rw c.in-1.is

pub returns-in-5 : goal.returns-in-5
unfolding row_lengths
returns-in-5 c = rw c.in-5.is

pub returns-in-10 : goal.returns-in-10
unfolding row_lengths
returns-in-10 c = rw c.in-10.is

pub returns-in_default : goal.returns-in_default
unfolding row_lengths
returns-in_default c = rest 15 (10 ∷ 5 ∷ 1 ∷ 0 ∷ []) (λ k. 0) (row_lengths After72) refl (c.args.op / 16)
    (omega arith) c.in_default.in_default-own.rest
