-- `recorded_steps::as_recorded` says true only where the step goes as the record says.
use Rattle.std.proofs.Common.{refl}
use Rattle.recorded_steps.proofs.Comparing.{record_goes}
use Rattle.recorded_steps.proofs.as_recorded.Goals as goal

pub returns : goal.returns
returns c =
    λ h.
    record_goes c.args.recorded.now c.longest_image-image.result c.args.memory.now c.args.expected.now _ _ _
    c.registers_of.result c.registers_of-2.result refl c.longest_image-image.ensures c.registers_of.ensures
    c.registers_of-2.ensures c.lay_out.ensures.memory_after c.lay_out.ensures.expected_after (c.goes.ensures h)
