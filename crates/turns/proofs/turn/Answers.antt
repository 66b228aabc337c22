-- `turns::turn` meets its contract: each answer is one way through a turn.
use Rattle.turns.proofs.Answers.{turn_refused, turn_accepted, accepted_layout}
use Rattle.turns.proofs.turn.Goals as goal

pub answer-requires : goal.answer-requires
answer-requires c =
    let h = accepted_layout _ _ _ c.check_begins-checked.ensures.marks_value c.in-Ok.is in
    (h.0, h.1, c.check_begins-checked.ensures.by_index _ _ c.in-Ok.is)

pub returns-in-Err : goal.returns-in-Err
returns-in-Err c =
    let answer = turn_refused _ _ _ c.check_begins-checked.ensures.marks_value c.in-Err.is c.check_begins-checked.ensures.verdict_numbered in
    record { marks_value = answer.0; turn_numbered = answer.1 }

pub returns-in-Ok : goal.returns-in-Ok
returns-in-Ok c =
    let answer = turn_accepted _ _ _ c.check_begins-checked.ensures.marks_value c.in-Ok.is c.answer.ensures in
    record { marks_value = answer.0; turn_numbered = answer.1 }
