-- `checker::sweep::sweep_routines` meets its contract. The loop's invariant: the routines so far pass, and from the next one on nothing is a start
-- yet.
use Rattle.checker.specs.Internal.{Clean}
use Rattle.checker.proofs.Routines.{Between}
use Rattle.checker.proofs.sweep.sweep_routines.Given as goal

abbrev pub invariant-loop-index : goal.invariant-loop-index
invariant-loop-index l =
    Between l.fn.valid.image.now l.fn.valid.limits l.marks l.done l.index l.start × Clean l.start l.work
