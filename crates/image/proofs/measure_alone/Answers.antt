-- `image::measure_alone` meets its contract.
use Rattle.std.proofs.Common.{sym}
use Rattle.image.proofs.Alone.{laid_by_checks, begins_alone}
use Rattle.image.proofs.measure_alone.Goals as goal

pub returns-clause-begins : goal.returns-clause-begins
returns-clause-begins c =
    let laid = laid_by_checks _ (sym c.in_ok-mark_check.ensures) (sym c.in_ok-version_check.ensures) (sym c.in_ok-layout.ensures) in
    begins_alone _ _ _ laid c.read_lengths.ensures.begins_to_16_bits
