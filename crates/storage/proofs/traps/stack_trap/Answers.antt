-- `storage::traps::stack_trap` meets its contract.
use native.Mathlib.Omega.{arith}
use borrow.Author.Tests.{lt-ltb, le-ltb}
use Rattle.stm8.proofs.EffectLaws.{wide_most}
use Rattle.numbers.specs.Checks.{first, under}
use Rattle.storage.specs.Storing.{store_trap}
use Rattle.storage.proofs.traps.stack_trap.Goals as goal
use Rattle.storage.proofs.traps.stack_trap.Goals.{then-offset-eq0-via-then-offset-eq0, then-offset-eq0-via-else-offset-eq0+then-end-limits}

pub overflow_add-end-2 : goal.overflow_add-end-2
overflow_add-end-2 c = omega (arith, c.bytes_wide.ensures, wide_most c.args.w)

pub returns : goal.returns
unfolding store_trap first under
returns c = rw (le-ltb c.args.offset 1 (omega (arith, c.if-offset-eq0.false)), ← c.bytes_wide.ensures, le-ltb _ _ c.if-end-limits.false)

pub returns-then-offset-eq0 : goal.returns-then-offset-eq0
unfolding store_trap first under
returns-then-offset-eq0 c = elim c.then-offset-eq0.branch [
  | then-offset-eq0-via-then-offset-eq0 w ↦ rw (lt-ltb c.args.offset 1 (omega (arith, w.if-offset-eq0.true)))
  | then-offset-eq0-via-else-offset-eq0+then-end-limits w ↦ rw (le-ltb c.args.offset 1 (omega (arith, w.if-offset-eq0.false)), ← c.bytes_wide.ensures, lt-ltb _ _ w.if-end-limits.true)
]
