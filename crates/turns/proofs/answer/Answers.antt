-- `turns::answer` meets its contract.
use Rattle.image.specs.Image.{layout_of}
use Rattle.turns.proofs.Answers.{answer_none, answer_some}
use Rattle.turns.proofs.answer.Goals as goal

pub invariant_of-valid : goal.invariant_of-valid
unfolding layout_of
invariant_of-valid c = rw c.layout_of-layout.ensures (record { valid = c.requires.1; routines_begin = c.requires.2 })

pub returns-in-Some : goal.returns-in-Some
returns-in-Some c = answer_some _ c.in-Some.ensures c.over_or_within.ensures

pub returns-in-None : goal.returns-in-None
returns-in-None c = answer_none _ c.in-None.ensures
