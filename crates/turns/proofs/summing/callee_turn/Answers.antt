-- `turns::summing::callee_turn` meets its contract.
use Rattle.std.proofs.Common.{arith}
use Rattle.stm8.specs.Effects.{call_target}
use Rattle.turns.proofs.summing.callee_turn.Goals as goal

pub returns-in-Call-clause-turn : goal.returns-in-Call-clause-turn
unfolding call_target
returns-in-Call-clause-turn c image before routine begins cells =
    let found = rw c.from.ensures at (c.callee.ensures.found image (omega (arith, routine.index)) routine.base_is begins) in
    rw (c.in-Call.is, ← found, ← c.unwrap_or.ensures) (cells _)

pub returns-in-CallRelative-clause-turn : goal.returns-in-CallRelative-clause-turn
unfolding call_target
returns-in-CallRelative-clause-turn c image before routine begins cells =
    rw (
      c.in-CallRelative.is,
      ← c.relative.ensures,
      ← c.callee-in-CallRelative.ensures.found image (omega (arith, routine.index)) routine.base_is begins,
      ← c.unwrap_or-in-CallRelative.ensures,
    )
    (cells _)
