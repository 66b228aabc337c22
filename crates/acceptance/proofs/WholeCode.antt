-- All routines pass: the marks are those of acceptance, and the count is the number of starts.
use Prim.Native.Nat.{ℕ, ◌<◌, ◌≤◌}
use mathlib.Core.Path.{◌≡◌, subst}
use mathlib.Core.Logic.{⊎_map}
use mathlib.Core.List.{List}
use native.Mathlib.Nat.{eq-zero-or-pos}
use native.Mathlib.Omega.{arith}
use lib.ListN.{get_or}
use borrow.Author.Tests.{ltb-true, lt-ltb}
use Rattle.image.specs.declared.Limits.{Limits}
use Rattle.image.specs.Image.{count_of, size_of}
use Rattle.image.proofs.Measuring.{start_count}
use Rattle.code.specs.Code.{Start}
use Rattle.rules.specs.Rules.{RoutineRules, NeedRules, StartCount}
use Rattle.rules.specs.Acceptance.{AcceptedMarks}
use Rattle.acceptance.specs.Passed.{depth_in, marked, need_in, RoutinesPassed}

module _ {image : List ℕ} {limits : Limits} {index : ℕ} {needs marks : List ℕ} {count : ℕ}
    (passed : RoutinesPassed image limits index needs marks count) (every : index ≡ count_of image) where
  all : RoutinesPassed image limits (count_of image) needs marks count
  all = subst (λ (i : ℕ). RoutinesPassed image limits i needs marks count) every passed

  pub all_rules : (r : ℕ) → r < count_of image → RoutineRules image limits (depth_in marks) r
  all_rules = all.rules

  pub all_needs : NeedRules image (depth_in marks) (need_in needs)
  all_needs = all.most

  is_start_lem : (o : ℕ) → o < size_of image → 1 ≤ get_or marks o 0 → (r : ℕ) × (r < count_of image) × Start image r o
  is_start_lem o below m = all.exact o (omega (arith, start_count image)) m

  is_marked : (r o : ℕ) → r < count_of image → Start image r o → 1 ≤ get_or marks o 0
  is_marked r o inside s = all.starts r inside s

  pub all_marks : AcceptedMarks image (depth_in marks) marks
  all_marks =
      record {
        starts = λ r o inside s. omega (arith, is_marked r o inside s);
        others = λ o below. ⊎_map (λ e. e) (is_start_lem o below) (eq-zero-or-pos (get_or marks o 0));
      }

  pub all_counted : StartCount image count
  all_counted =
      record {
        is_start = marked marks;
        exact = λ o below. (λ t. is_start_lem o below (ltb-true 0 _ t), λ s. lt-ltb 0 _ (is_marked s.0 o s.1 s.2));
        counts = rw (← start_count image) all.counted;
      }
