-- The outcome of a check whose image is valid and whose marks are enough: accepted, or refused with 16 or in a routine.
use Prim.Native.Nat.{ℕ, ◌+◌, ◌<◌, ◌≤◌}
use mathlib.Core.Path.{◌≡◌, ◌∙◌}
use mathlib.Core.List.{List, ◌++◌}
use native.Mathlib.Omega.{arith}
use lib.ListN.{length, drop, replicate}
use Rattle.image.specs.declared.Limits.{Limits}
use Rattle.image.specs.declared.Layout.{Layout}
use Rattle.image.specs.Validated as Validated
use Rattle.image.specs.Image.{count_of, size_of}
use Rattle.image.specs.Rules.{ImageRules}
use Rattle.image.specs.Validation.{validated}
use Rattle.image.proofs.Validity.{valid_rules}
use Rattle.image.proofs.Layouts.{begins_before_end}
use Rattle.image.proofs.Measuring.{end_inside}
use Rattle.rules.specs.Rules.{reported_need}
use Rattle.rules.specs.Refusal.{RoutineRefusal, in_routine, no_room}
use Rattle.rules.specs.Acceptance.{Acceptable, AcceptedMarks}
use Rattle.rules.specs.Outcome.{Outcome, refused, accepted}
use Rattle.rules.specs.Verdict.{Accepted, Refused}
use Rattle.code.proofs.Starts.{start_high}
use Rattle.rules.proofs.Passing.{rules_pass}
use Rattle.rules.proofs.EveryOutcome.{front_mark, front_past}
use Rattle.acceptance.specs.Passed.{depth_in, need_in, RoutinesPassed}
use Rattle.acceptance.proofs.WholeCode.{all_rules, all_needs, all_marks, all_counted}

-- the marks of the code are kept with the cells past it
module _ (image before marks : List ℕ) (size : length marks ≡ size_of image) where
  marks_kept : ImageRules image → {depth : ℕ → ℕ} → AcceptedMarks image depth marks →
      AcceptedMarks image depth (marks ++ drop (size_of image) before)
  marks_kept layout m =
      record {
        starts = λ r o inside s.
            let high = start_high image r (begins_before_end image layout r inside) s in
            front_mark image before marks size o (omega (arith, end_inside image r inside)) ∙ m.starts r o inside s;
        others = λ o below. rw (front_mark image before marks size o below) (m.others o below);
      }

module _ {image : List ℕ} {limits : Limits} {layout : Layout} (valid : validated image limits ≡ Validated.Valid layout) (before : List ℕ)
    (enough : size_of image ≤ length before) {index : ℕ} {needs marks : List ℕ} {count : ℕ}
    (passed : RoutinesPassed image limits index needs marks count) where
  rules : ImageRules image
  rules = (valid_rules image limits layout valid).1

  -- a routine is refused and those before it pass
  pub refused_outcome : {number offset : ℕ} → index < count_of image → RoutineRefusal image limits index number offset →
      Outcome image limits before (Refused number offset) (replicate (size_of image) 0 ++ drop (size_of image) before)
  refused_outcome inside refusal =
      refused valid enough
      (in_routine inside (λ k n o below. rules_pass (passed.rules k below) (begins_before_end image rules k (omega arith)) n o) refusal)

  -- all routines pass
  module _ (every : index ≡ count_of image) {need : ℕ} (reported : need ≡ reported_need image (need_in needs)) where
    pub no_room_outcome : limits.stack.high + 1 < limits.stack.low + need →
        Outcome image limits before (Refused 16 0) (replicate (size_of image) 0 ++ drop (size_of image) before)
    no_room_outcome short = refused valid enough (no_room (all_rules passed every) (all_needs passed every) (rw reported at short))

    acceptable : limits.stack.low + need ≤ limits.stack.high + 1 → Acceptable image limits before need count
    acceptable room =
        record {
          depth = depth_in marks;
          needs = need_in needs;
          rules =
              record {
                areas = (valid_rules image limits layout valid).0;
                layout = rules;
                routines = all_rules passed every;
                needs = all_needs passed every;
                room = rw reported at room;
              };
          enough = enough;
          reported = reported;
          counted = all_counted passed every;
        }

    pub accepted_outcome : limits.stack.low + need ≤ limits.stack.high + 1 →
        Outcome image limits before (Accepted need count) (marks ++ drop (size_of image) before)
    unfolding acceptable
    accepted_outcome room =
        accepted (acceptable room) (marks_kept image before marks passed.size rules (all_marks passed every)) (front_past image before marks passed.size enough)
