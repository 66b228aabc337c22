-- `flow_check::exploring::explore` meets its contract. The loop's invariant is `Exploring`. The number of offsets whose depth is not known and the
-- height of the stack fall by one or more with each visit, and are together no more than the visits that are left.
use Rattle.std.proofs.Common.{ℕ, ◌+◌, ◌-◌, ◌<◌, ◌≤◌, true}
use Rattle.control_flow.specs.Graph.{graph, Reached}
use Rattle.control_flow.specs.Exploring.{middle, known}
use Rattle.control_flow.proofs.Invariant.{Exploring, Nothing}
use Rattle.flow_check.specs.Internal.{Noted}
use Rattle.flow_check.proofs.exploring.explore.Given as goal

abbrev pub invariant-loop : goal.invariant-loop
invariant-loop l =
    let g = graph l.entry l.cells in
    let first = l.initial.trail in
    (l.e.height ≤ l.counter + 1)
    × (Exploring middle 65535 g first.depths Nothing first.depths first.stack 1 true → ((o : ℕ) → Reached g o → o < 4096) →
    Exploring middle 65535 g first.depths Nothing l.trail.depths l.trail.stack l.e.height l.e.agree
    × ((4096 - known l.trail.depths) + l.e.height + l.counter ≤ 4096)
    × Noted l.trail.depths l.trail.stack l.e)
