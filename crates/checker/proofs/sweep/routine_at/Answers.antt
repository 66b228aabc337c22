-- `checker::sweep::routine_at` meets its contract.
use mathlib.Core.Path.{refl}
use Rattle.checker.proofs.Routines.{routine_of}
use Rattle.checker.proofs.sweep.routine_at.Goals as goal

pub returns : goal.returns
returns c = record {
  routine = λ image valid told below start_is. routine_of valid below start_is (c.end_of-end.ensures image _ valid told below);
  place = (refl, refl, refl);
}
