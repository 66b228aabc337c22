-- The numbers of an answer, as callers in C get them.
use Rattle.std.specs.Prelude.{◌≤◌, ◌≡◌, ◌⊎◌}
use Rattle.turns.specs.declared.TurnAnswer.{TurnAnswer}
use Rattle.turns.specs.declared.TurnAnswer.TheVariants.{Refused, NoTurn, Over, Within}
use Rattle.turns.specs.declared.TurnValues.{TurnValues}

-- the refusal's number, and where there is none 0 for a turn, 66 for none and 67 for over, which document 01 gives to no refusal or trap
abbrev pub values_of : TurnAnswer → TurnValues
values_of (Refused number offset) = record { number = number; offset = offset; turn = 0 }
values_of NoTurn = record { number = 66; offset = 0; turn = 0 }
values_of Over = record { number = 67; offset = 0; turn = 0 }
values_of (Within turn) = record { number = 0; offset = 0; turn = turn }

-- What they tell of an answer: a number has one answer, and is 0, a check's refusal, 66 or 67.
pub record TurnNumbered (answer : TurnAnswer) : Type 0 where
  pub within : (values_of answer).number ≡ 0 → answer ≡ Within (values_of answer).turn
  pub none : (values_of answer).number ≡ 66 → answer ≡ NoTurn
  pub over : (values_of answer).number ≡ 67 → answer ≡ Over
  pub refused : 1 ≤ (values_of answer).number → (values_of answer).number ≤ 16 → answer ≡ Refused (values_of answer).number (values_of answer).offset
  pub known : ((values_of answer).number ≤ 16) ⊎ (((values_of answer).number ≡ 66) ⊎ ((values_of answer).number ≡ 67))
