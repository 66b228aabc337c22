-- `machine::traps::pc_trap` meets its contract.
use Prim.Native.Nat.{◌+◌, ◌≤◌, ◌<◌}
use borrow.Author.Tests.{lt-ltb, le-ltb}
use mathlib.Core.Logic.{◌⊎◌, inl, inr}
use native.Mathlib.Omega.{arith}
use Rattle.std.proofs.Common.{rules}
use Rattle.numbers.specs.Checks.{first, under}
use Rattle.machine.proofs.traps.pc_trap.Goals as goal

pub returns-then-contains : goal.returns-then-contains
unfolding first under
returns-then-contains c =
    let low : c.args.layout.base ≤ c.args.pc = grind (arith, c.contains.ensures.value, c.if-contains.true) in
    let high : c.args.pc + 1 ≤ c.args.layout.base + c.args.layout.size = grind (arith, c.contains.ensures.value, c.if-contains.true) in
    rw (le-ltb _ _ low, le-ltb _ _ high)

pub returns-else-contains : goal.returns-else-contains
unfolding first under
returns-else-contains c =
    let out : (c.args.pc < c.args.layout.base) ⊎ (c.args.layout.base + c.args.layout.size ≤ c.args.pc) = search (rules, c.if-contains.ensures.cases) in
    elim out [ inl h ↦ rw (lt-ltb _ _ h) | inr h ↦ rw (le-ltb c.args.pc c.args.layout.base (omega (arith, h)), lt-ltb (c.args.layout.base + c.args.layout.size) (c.args.pc + 1) (omega (arith, h))) ]
