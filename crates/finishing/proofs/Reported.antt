-- What the answer of a turn says of a run: within, that it finishes within the turn that is reported; over, that main's turn is above 4,294,967,295, and
-- that runs whose budgets add up to it finish.
use Rattle.std.specs.Prelude.{Ok, Err}
use Prim.Native.Nat.{ℕ, ◌<◌, ◌≤◌}
use mathlib.Core.Path.{◌≡◌, refl}
use mathlib.Core.Bool.{Bool, true, false, cond}
use mathlib.Core.List.{List}
use native.Mathlib.Omega.{arith}
use lib.Dec.{ltb}
use borrow.Author.Tests.{ltb-true}
use Rattle.numbers.specs.Folds.{total}
use Rattle.numbers.specs.Lists.{Bytes}
use Rattle.image.specs.declared.Limits.{Limits}
use Rattle.image.specs.Image.{main_of}
use Rattle.rules.specs.Verdict as Verdicts
use Rattle.rules.specs.Verdict.{Verdict}
use Rattle.acceptance.specs.Check.{checked}
use Rattle.machine.specs.Run.{ran}
use Rattle.gate.specs.Start.{started}
use Rattle.turns.specs.Turn.{some_jumps_back, turn_of, answer_of, by_verdict, turned}
use Rattle.turns.specs.declared.TurnAnswer.TheVariants.{NoTurn, Over, Within}
use Rattle.finishing.specs.Finishing.{FinishedWithin, in_pieces}
use Rattle.finishing.proofs.Started.{finishes_within, finishes_in_pieces}

-- the answer by what it goes by, each as a variable
within_told : (back over : Bool) (turn t : ℕ) → cond back NoTurn (cond over Over (Within turn)) ≡ Within t → (back ≡ false) × (turn ≡ t)
within_told true over turn t e = let z : ◌≡◌ {A = ℕ} 0 1 = cc in absurd (omega arith)
within_told false true turn t e = let z : ◌≡◌ {A = ℕ} 0 1 = cc in absurd (omega arith)
within_told false false turn t e = (refl, cc)

over_told : (back over : Bool) (turn : ℕ) → cond back NoTurn (cond over Over (Within turn)) ≡ Over → (back ≡ false) × (over ≡ true)
over_told true over turn e = let z : ◌≡◌ {A = ℕ} 0 1 = cc in absurd (omega arith)
over_told false true turn e = (refl, refl)
over_told false false turn e = let z : ◌≡◌ {A = ℕ} 0 1 = cc in absurd (omega arith)

-- an image that is not refused is answered as an accepted one
accepted_within : (image : List ℕ) (v : Verdict) (t : ℕ) → by_verdict image v ≡ Within t → answer_of image ≡ Within t
accepted_within image (Err refused) t e = let z : ◌≡◌ {A = ℕ} 0 1 = cc in absurd (omega arith)
accepted_within image (Ok accepted) t e = e

accepted_over : (image : List ℕ) (v : Verdict) → by_verdict image v ≡ Over → answer_of image ≡ Over
accepted_over image (Err refused) e = let z : ◌≡◌ {A = ℕ} 0 1 = cc in absurd (omega arith)
accepted_over image (Ok accepted) e = e

module _ (image : List ℕ) (limits : Limits) (marks : List ℕ) where
  pub within_is : (t : ℕ) → (turned image limits marks).0 ≡ Within t → (some_jumps_back image ≡ false) × (turn_of image (main_of image) ≡ t)
  unfolding turned answer_of
  within_is t e =
      let turn = turn_of image (main_of image) in
      within_told (some_jumps_back image) (ltb 4294967295 turn) turn t (accepted_within image (checked image limits marks).0 t e)

  pub over_is : (turned image limits marks).0 ≡ Over → (some_jumps_back image ≡ false) × (4294967295 < turn_of image (main_of image))
  unfolding turned answer_of
  over_is e =
      let turn = turn_of image (main_of image) in
      let told = over_told (some_jumps_back image) (ltb 4294967295 turn) turn (accepted_over image (checked image limits marks).0 e) in
      (told.0, ltb-true _ _ told.1)

-- The image is started under the limits that its turn was asked for, with any marks, memory, A, X, Y and CC.
module _ (image : List ℕ) (bytes : Bytes image) (limits : Limits) (asked marks memory : List ℕ) (a x y cc' need count : ℕ)
    (accepted : (started image limits marks memory a x y cc').started.verdict ≡ Verdicts.Accepted need count) where
  pub within_finishes : (t : ℕ) → (turned image limits asked).0 ≡ Within t → (budget : ℕ) → t ≤ budget →
      let s = started image limits marks memory a x y cc' in
      FinishedWithin t (ran budget image limits s.started.registers s.memory).0
  within_finishes t answer budget enough =
      let is = within_is image limits asked t answer in
      rw is.1 at (finishes_within image bytes limits marks memory a x y cc' need count accepted is.0 budget (omega (arith, is.1)))

  pub over_finishes : (turned image limits asked).0 ≡ Over → (budgets : List ℕ) → turn_of image (main_of image) ≤ total budgets →
      let s = started image limits marks memory a x y cc' in
      FinishedWithin (turn_of image (main_of image)) (in_pieces budgets image limits s.started.registers s.memory).0
  over_finishes answer budgets enough =
      finishes_in_pieces image bytes limits marks memory a x y cc' need count accepted (over_is image limits asked answer).0 budgets enough
