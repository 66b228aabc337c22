-- `storage::traps::call_trap` meets its contract.
use Rattle.std.proofs.Common.{arith}
use borrow.Author.Tests.{lt-ltb, le-ltb}
use Rattle.numbers.specs.Checks.{unless}
use Rattle.storage.proofs.traps.call_trap.Goals as goal

pub returns-then-next-lt65536 : goal.returns-then-next-lt65536
unfolding unless
returns-then-next-lt65536 c = rw (lt-ltb c.args.next 65536 (omega (arith, c.if-next-lt65536.true)))

pub returns-else-next-lt65536 : goal.returns-else-next-lt65536
unfolding unless
returns-else-next-lt65536 c = rw (le-ltb c.args.next 65536 (omega (arith, c.if-next-lt65536.false)))
