-- `execution::moving::target` meets its contract: an offset adds at most 255.
use native.Mathlib.Omega.{arith}
use Rattle.stm8.proofs.EffectLaws.{relative_most}
use Rattle.execution.proofs.moving.target.Goals as goal

pub overflow_cast-result : goal.overflow_cast-result
overflow_cast-result c = omega (arith, c.relative.ensures, relative_most c.args.next c.args.offset)
