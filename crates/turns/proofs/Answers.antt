-- The ways through a turn, with each value as a variable, and what the number of its answer tells.
use Prim.Native.Nat.{ℕ, ◌≤◌}
use mathlib.Core.Path.{◌≡◌, refl, ap, ◌∙◌}
use mathlib.Core.Bool.{true, false}
use mathlib.Core.Logic.{inl, inr}
use mathlib.Core.List.{List}
use native.Mathlib.Omega.{arith}
use lib.Dec.{ltb}
use Rattle.numbers.proofs.Checking.{by_test}
use Rattle.image.specs.Image.{layout_of, main_of}
use Rattle.image.specs.Rules.{ImageRules}
use Rattle.image.specs.Validation.{validated}
use Rattle.image.specs.declared.Limits.{Limits}
use Rattle.image.specs.Validated.{Valid}
use Rattle.image.proofs.Validity.{rules_valid}
use Rattle.rules.specs.Outcome.{VerdictNumbered}
use Rattle.rules.specs.Verdict as Verdicts
use Rattle.rules.specs.Verdict.{Verdict}
use Rattle.acceptance.specs.Check.{checked}
use Rattle.acceptance.proofs.Accepting.{accepted_exactly}
use Rattle.turns.specs.Turn.{some_jumps_back, turn_of, over_or_within, answer_of, turned}
use Rattle.turns.specs.Values.{TurnNumbered}
use Rattle.turns.specs.Internal.{MainSum}
use Rattle.turns.specs.declared.TurnAnswer.{TurnAnswer}
use Rattle.turns.specs.declared.TurnAnswer.TheVariants.{Refused, NoTurn, Over, Within}
use Rattle.std.specs.Prelude.{Some, None}
use Rattle.turns.proofs.Holding.{over_held}

-- by main's sum
module _ (image : List ℕ) where
  pub answer_none : MainSum image None → NoTurn ≡ answer_of image
  unfolding answer_of
  answer_none back = rw back

  pub answer_some : {answer : TurnAnswer} {turn : ℕ} → MainSum image (Some turn) → answer ≡ over_or_within turn → answer ≡ answer_of image
  unfolding answer_of
  answer_some main is = rw main.0 (is ∙ ap over_or_within main.1 ∙ over_held (turn_of image (main_of image)))

-- what the numbers tell
none_numbered : TurnNumbered NoTurn
none_numbered =
    record {
      within = λ e. absurd (omega arith);
      none = λ _. refl;
      over = λ e. absurd (omega arith);
      refused = λ _ most. absurd (omega arith);
      known = inr (inl refl);
    }

over_numbered : TurnNumbered Over
over_numbered =
    record {
      within = λ e. absurd (omega arith);
      none = λ e. absurd (omega arith);
      over = λ _. refl;
      refused = λ _ most. absurd (omega arith);
      known = inr (inr refl);
    }

within_numbered : (t : ℕ) → TurnNumbered (Within t)
within_numbered t =
    record {
      within = λ _. refl;
      none = λ e. absurd (omega arith);
      over = λ e. absurd (omega arith);
      refused = λ least _. absurd (omega arith);
      known = inl (omega arith);
    }

refused_numbered : (n o : ℕ) → (n ≡ 0 → ⊥) → n ≤ 16 → TurnNumbered (Refused n o)
refused_numbered n o some most =
    record {
      within = λ e. absurd (some e);
      none = λ e. absurd (omega arith);
      over = λ e. absurd (omega arith);
      refused = λ _ _. refl;
      known = inl most;
    }

answer_numbered : (image : List ℕ) → TurnNumbered (answer_of image)
unfolding answer_of
answer_numbered image =
    by_test TurnNumbered (some_jumps_back image)
    (λ _. none_numbered)
    (λ _. by_test TurnNumbered (ltb 4294967295 (turn_of image (main_of image))) (λ _. over_numbered) (λ _. within_numbered _))

-- by the check's verdict
module _ (image : List ℕ) (limits : Limits) (marks : List ℕ) {marks' : List ℕ} {v : Verdict} (check : checked image limits marks ≡ (v, marks')) where
  pub turn_refused : {number offset : ℕ} → v ≡ Verdicts.Refused number offset → VerdictNumbered 16 v →
      (turned image limits marks ≡ (Refused number offset, marks')) × TurnNumbered (Refused number offset)
  unfolding turned
  turn_refused {number} {offset} is numbered =
      let n : VerdictNumbered 16 (Verdicts.Refused number offset) = rw is at numbered in
      let some : (number ≡ 0 → ⊥) = λ e. let z : ◌≡◌ {A = ℕ} 0 1 = (let a = n.accepted e in cc) in omega arith in
      (rw (check, is), refused_numbered number offset some n.most)

  pub turn_accepted : {need count : ℕ} {answer : TurnAnswer} → v ≡ Verdicts.Accepted need count → answer ≡ answer_of image →
      (turned image limits marks ≡ (answer, marks')) × TurnNumbered answer
  unfolding turned
  turn_accepted is answer-is = rw answer-is (rw (check, is), answer_numbered image)

  -- what is accepted has a layout that follows the rules
  pub accepted_layout : {need count : ℕ} → v ≡ Verdicts.Accepted need count →
      ImageRules image × (validated image limits ≡ Valid (layout_of image))
  accepted_layout {need} {count} is =
      let h = (accepted_exactly image limits marks need count).0 (ap (λ (r : Verdict × List ℕ). r.0) check ∙ is) in
      (h.rules.layout, rules_valid image limits h.rules.areas h.rules.layout)
