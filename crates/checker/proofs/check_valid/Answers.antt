-- `checker::check_valid` meets its contract.
use mathlib.Core.Path.{sym}
use native.Mathlib.Omega.{arith}
use lib.Seq.{length-take-le}
use Rattle.image.proofs.Layouts.{size_is}
use Rattle.rules.specs.Outcome.{few}
use Rattle.checker.proofs.Verdicts.{code_whole}
use Rattle.checker.proofs.check_valid.Goals as goal

pub returns-then-marks-size : goal.returns-then-marks-size
returns-then-marks-size c =
    rw c.of_rule.ensures (few c.requires.0 (omega (arith, size_is _ _ _ c.requires.0, c.if-marks-size.true)))

pub check_code-requires : goal.check_code-requires
check_code-requires c = length-take-le _ _ c.if-marks-size.false

pub returns : goal.returns
returns c =
    code_whole (size_is _ _ _ c.requires.0) c.if-marks-size.false c.check_code.ensures

pub slice_bounds-check_code-end-2 : goal.slice_bounds-check_code-end-2
slice_bounds-check_code-end-2 c = sym (length-take-le _ _ c.if-marks-size.false)
