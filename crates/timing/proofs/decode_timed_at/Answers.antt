-- `timing::decode_timed_at` meets its contract.
use mathlib.Core.Path.{ap, ◌∙◌}
use Rattle.cycles.specs.Timed.{with_cycles}
use Rattle.timing.proofs.decode_timed_at.Goals as goal

pub returns : goal.returns
returns c image of cut = c.with_cycles.ensures ∙ ap with_cycles (c.decode_at.ensures.of_image image of cut)
