-- `turns::summing::sum_main` meets its contract. The loop's invariant: the turns of the routines so far are held, and no jump of theirs goes back.
use Rattle.turns.proofs.TurnLists.{Between}
use Rattle.turns.proofs.summing.sum_main.Given as goal

abbrev pub invariant-loop-index : goal.invariant-loop-index
invariant-loop-index l = Between l.fn.valid.image.now l.turns l.turn l.start l.index
