-- `stm8::tables::map_lengths` meets its contract: the 768 lengths are computed from the op-code map and compared.
use mathlib.Core.Path.{refl}
use Rattle.stm8.specs.Decoding.{lengths}
use Rattle.stm8.proofs.tables.map_lengths.Goals as goal

pub returns : goal.returns
unfolding lengths
returns c = refl
