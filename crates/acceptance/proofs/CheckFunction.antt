-- The check as a function gives an outcome that is declared.
use Prim.Native.Nat.{ℕ, zero, suc, ◌+◌, ◌<◌, ◌≤◌}
use mathlib.Core.Path.{◌≡◌, refl, ap}
use mathlib.Core.Bool.{cond}
use mathlib.Core.List.{List, ◌++◌}
use native.Mathlib.Omega.{arith}
use lib.Dec.{eqb, ltb}
use lib.ListN.{length, drop}
use borrow.Author.Tests.{eqb-true, eqb-false, eq-eqb, ne_eqb, ltb-true, ltb-false}
use Rattle.numbers.proofs.Checking.{by_test}
use Rattle.image.specs.declared.Limits.{Limits}
use Rattle.image.specs.declared.Layout.{Layout}
use Rattle.image.specs.Validated.{Validated}
use Rattle.image.specs.Validated as Validated
use Rattle.image.specs.Image.{count_of, size_of, start_of, end_of}
use Rattle.image.specs.Rules.{ImageRules}
use Rattle.image.specs.Validation.{validated}
use Rattle.image.proofs.Validity.{valid_rules}
use Rattle.image.proofs.Layouts.{begins_before_end, size_is}
use Rattle.image.proofs.Measuring.{end_inside}
use Rattle.rules.specs.Rules.{reported_need}
use Rattle.rules.specs.Refusal.{RoutineRefusal}
use Rattle.rules.specs.Outcome.{Outcome, invalid, few}
use Rattle.rules.specs.Verdict.{Verdict}
use Rattle.rules.specs.Verdict.{Accepted}
use Rattle.acceptance.specs.Passed.{need_in, RoutineChecked, RoutinesPassed}
use Rattle.code.specs.Instructions.{starts_of}
use Rattle.acceptance.specs.Check.{Refusing, nowhere, first_at, flow_refusing, routine_refusing, Sweeping, passed_by, routines_from, swept, routine_need}
use Rattle.acceptance.specs.Check.{refused_code, code_checked, validated_checked, checked}
use Rattle.acceptance.proofs.Decoding.{code_check, code_lowest, filled}
use Rattle.acceptance.proofs.FlowFunction.{flow_outcome}
use Rattle.acceptance.proofs.OneRoutine.{code_refused, filled_checked, checked_refused, checked_passed}
use Rattle.acceptance.proofs.AllRoutines.{none_yet, one_more}
use Rattle.acceptance.proofs.Outcomes.{refused_outcome, no_room_outcome, accepted_outcome}

-- the state says that the routines before r pass
abbrev Passed : List ℕ → Limits → ℕ → Sweeping → Type 0
Passed image limits r s = RoutinesPassed image limits r s.needs s.marks s.count

-- all routines pass, or one is refused and those before it pass
data SweepEnd (image : List ℕ) (limits : Limits) (s : Sweeping) : Type 0 where
  all : s.refusal.number ≡ 0 → Passed image limits (count_of image) s → SweepEnd image limits s
  stopped : (k : ℕ) → k < count_of image → (t : Sweeping) → Passed image limits k t → (s.refusal.number ≡ 0 → ⊥) →
      RoutineRefusal image limits k s.refusal.number s.refusal.at → SweepEnd image limits s

module _ {image : List ℕ} (layout : ImageRules image) (limits : Limits) where
  module _ (r : ℕ) (inside : r < count_of image) (s : Sweeping) (so_far : Passed image limits r s) where
    abbrev next : Sweeping
    next = passed_by image limits r s

    Checked : Refusing → Type 0
    Checked q =
        RoutineChecked image limits s.needs r s.marks q.number q.at next.marks (routine_need image limits r s.needs) next.count

    some : start_of image r < end_of image r
    some = begins_before_end image layout r inside

    code_checked_lem : ((first_at (code_check image r) (starts_of image r)).number ≡ 0 → ⊥) → Checked (first_at (code_check image r) (starts_of image r))
    unfolding Checked
    code_checked_lem fails = code_refused (code_lowest image r some fails)

    flow_checked : (first_at (code_check image r) (starts_of image r)).number ≡ 0 → Checked (flow_refusing image limits r)
    unfolding Checked
    flow_checked passes =
        let cells = filled image r some passes limits in
        let long : end_of image r ≤ length s.marks = omega (arith, so_far.size, end_inside image r inside) in
        filled_checked layout inside cells so_far.clear so_far.counted
        (flow_outcome image limits r layout inside cells s.needs s.marks s.count long)

    routine_checked : Checked (routine_refusing image limits r)
    unfolding routine_refusing
    routine_checked =
        by_test Checked (eqb (first_at (code_check image r) (starts_of image r)).number 0)
        (λ t. flow_checked (eqb-true _ 0 t)) (λ t. code_checked_lem (eqb-false _ 0 t))

    fails : ((routine_refusing image limits r).number ≡ 0 → ⊥) →
        RoutineRefusal image limits r (routine_refusing image limits r).number (routine_refusing image limits r).at
    unfolding Checked
    fails not = checked_refused routine_checked not

    passes : (routine_refusing image limits r).number ≡ 0 → Passed image limits (r + 1) next
    unfolding Checked
    passes none = one_more layout inside so_far (checked_passed routine_checked none)

  routines_swept : (n r : ℕ) → r + n ≡ count_of image → (s : Sweeping) → s.refusal ≡ nowhere → Passed image limits r s →
      SweepEnd image limits (routines_from n image limits r s)
  unfolding routines_from
  routines_swept zero r end s none so_far =
      let here : r ≡ count_of image = omega arith in
      all (ap (λ (q : Refusing). q.number) none) (rw here at so_far)
  routines_swept (suc n) r end s none so_far =
      let inside : r < count_of image = omega arith in
      by_test (SweepEnd image limits) (eqb (routine_refusing image limits r).number 0)
      (λ t. routines_swept n (r + 1) (omega arith) (passed_by image limits r s) refl (passes r inside s so_far (eqb-true _ 0 t)))
      (λ t. stopped r inside s so_far (eqb-false _ 0 t) (fails r inside s so_far (eqb-false _ 0 t)))

  code_swept : SweepEnd image limits (swept image limits)
  unfolding swept
  code_swept = routines_swept (count_of image) 0 (omega arith) _ refl (none_yet image limits)

-- the outcome of a verdict with the marks of the code
Given : List ℕ → Limits → List ℕ → Verdict × List ℕ → Type 0
Given image limits before x = Outcome image limits before x.0 (x.1 ++ drop (size_of image) before)

-- the code of a valid image, with enough marks
module _ (image : List ℕ) (limits : Limits) {layout : Layout} (valid : validated image limits ≡ Validated.Valid layout) (before : List ℕ)
    (enough : size_of image ≤ length before) where
  rules : ImageRules image
  rules = (valid_rules image limits layout valid).1

  room_given : (s : Sweeping) → Passed image limits (count_of image) s →
      let need = reported_need image (need_in s.needs) in
      Given image limits before
      (cond (ltb (limits.stack.high + 1) (limits.stack.low + need)) (refused_code image 16 0) (Accepted need s.count, s.marks))
  unfolding Given
  room_given s so_far =
      by_test (Given image limits before) (ltb (limits.stack.high + 1) (limits.stack.low + reported_need image (need_in s.needs)))
      (λ t. no_room_outcome valid before enough so_far refl refl (ltb-true _ _ t))
      (λ t. accepted_outcome valid before enough so_far refl refl (ltb-false _ _ t))

  code_given : SweepEnd image limits (swept image limits) → Given image limits before (code_checked image limits)
  unfolding code_checked Given
  code_given (all none so_far) = rw (eq-eqb (swept image limits).refusal.number 0 none) (room_given (swept image limits) so_far)
  code_given (stopped k inside t so_far not refusal) =
      rw (ne_eqb (swept image limits).refusal.number 0 not) (refused_outcome valid before enough so_far inside refusal)

  code_outcome : Outcome image limits before (code_checked image limits).0 ((code_checked image limits).1 ++ drop (size_of image) before)
  unfolding Given
  code_outcome = code_given (code_swept rules limits)

module _ (image : List ℕ) (limits : Limits) (before : List ℕ) where
  by_validated : (v : Validated) → validated image limits ≡ v →
      Outcome image limits before (validated_checked image limits before v).0 (validated_checked image limits before v).1
  by_validated (Validated.Refused number) e = invalid e
  by_validated (Validated.Valid layout) e =
      let size = size_is image limits layout e in
      by_test (λ (x : Verdict × List ℕ). Outcome image limits before x.0 x.1) (ltb (length before) layout.size)
      (λ t. let short = ltb-true (length before) layout.size t in few e (omega (arith, size)))
      (λ t.
      let long = ltb-false (length before) layout.size t in
      rw size (code_outcome image limits e before (omega (arith, size))))

  pub checked_outcome : Outcome image limits before (checked image limits before).0 (checked image limits before).1
  unfolding checked
  checked_outcome = by_validated (validated image limits) refl
