-- `recorded_steps::goes` says true only where each part of what the step left is as expected.
use Rattle.recorded_steps.proofs.Comparing.{step_goes}
use Rattle.recorded_steps.proofs.goes.Goals as goal

pub returns-then-same_registers : goal.returns-then-same_registers
returns-then-same_registers c =
    λ h.
    step_goes c.args.image.now c.limits_of-limits.result c.args.before c.args.memory.now c.step.result.stepped _ c.args.after
    c.args.expected.now c.limits_of-limits.ensures c.step.ensures.outcome c.in-Made.is
    (c.same_registers.ensures c.if-same_registers.true) (c.same_memory.ensures h)
