-- What was decoded, with its cycles.
use Rattle.std.specs.Prelude.{Ok, Err}
use Rattle.stm8.specs.Decoding.{Decoded}
use Rattle.stm8.specs.Cycles.{once, cycles}
use Rattle.stm8.specs.declared.Cycles.{Cycles}
use Rattle.cycles.specs.declared.Timed.{Timed}

-- where there is no instruction, both figures are 0
abbrev pub cycles_of : Decoded → Cycles
cycles_of (Ok (i, n)) = cycles i
cycles_of (Err e) = once 0

abbrev pub with_cycles : Decoded → Timed
with_cycles d = record { decoded = d; cycles = cycles_of d }
