-- `storage::traps::direct_trap` meets its contract.
use native.Mathlib.Omega.{arith}
use Rattle.stm8.proofs.EffectLaws.{wide_most}
use Rattle.numbers.specs.Checks.{unless}
use Rattle.storage.specs.Storing.{store_trap}
use Rattle.storage.proofs.traps.direct_trap.Goals as goal

pub overflow_cast-bytes_wide : goal.overflow_cast-bytes_wide
overflow_cast-bytes_wide c = omega (arith, c.bytes_wide.ensures, wide_most c.args.w)

pub returns-then-granted : goal.returns-then-granted
unfolding store_trap unless
returns-then-granted c sp = rw (← c.bytes_wide.ensures, ← c.granted.ensures, c.if-granted.true)

pub returns-else-granted : goal.returns-else-granted
unfolding store_trap unless
returns-else-granted c sp = rw (← c.bytes_wide.ensures, ← c.granted.ensures, c.if-granted.false)
