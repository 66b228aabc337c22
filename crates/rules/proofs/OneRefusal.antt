-- The code of an image has at most one refusal.
use Prim.Native.Nat.{ℕ, ◌<◌}
use mathlib.Core.Path.{◌≡◌, refl}
use mathlib.Core.Logic.{by_cases}
use mathlib.Core.List.{List}
use native.Mathlib.Decide.{dec_lt}
use native.Mathlib.Omega.{arith}
use Rattle.image.specs.declared.Limits.{Limits}
use Rattle.image.specs.Image.{count_of}
use Rattle.image.specs.Rules.{ImageRules}
use Rattle.image.proofs.Layouts.{begins_before_end}
use Rattle.rules.specs.Rules.{RoutineRules}
use Rattle.rules.specs.Refusal.{order, RoutineRefusal, Refusal, in_routine, no_room}
use Rattle.rules.proofs.Phases.{one_first}
use Rattle.rules.proofs.OneNumber.{one_numbers}
use Rattle.rules.proofs.Passing.{rules_pass}

pub one_routine_refusal : {image : List ℕ} {limits : Limits} {r n n' o o' : ℕ} →
    RoutineRefusal image limits r n o → RoutineRefusal image limits r n' o' → (n ≡ n') × (o ≡ o')
one_routine_refusal {image} {limits} {r} = one_first order (one_numbers image limits r)

module _ {image : List ℕ} {limits : Limits} where
  -- no routine of an image whose routines meet the rules is refused
  pub routines_pass : ImageRules image → {depth : ℕ → ℕ} → ((r : ℕ) → r < count_of image → RoutineRules image limits depth r) →
      (r n o : ℕ) → r < count_of image → RoutineRefusal image limits r n o → ⊥
  routines_pass layout rules r n o inside x = rules_pass (rules r inside) (begins_before_end image layout r inside) n o x

  pub one_refusal : ImageRules image → {n n' o o' : ℕ} → Refusal image limits n o → Refusal image limits n' o' → (n ≡ n') × (o ≡ o')
  one_refusal layout {n} {n'} {o} {o'} (in_routine {r = r} inside none x) (in_routine {r = r'} inside' none' x') =
      by_cases (dec_lt r r') (λ l. absurd (none' r n o l x))
      (λ l. by_cases (dec_lt r' r) (λ l. absurd (none r' n' o' l x'))
      (λ l'. let same : r' ≡ r = omega arith in one_routine_refusal x (rw same at x')))
  one_refusal layout (in_routine inside none x) (no_room rules needs short) = absurd (routines_pass layout rules _ _ _ inside x)
  one_refusal layout (no_room rules needs short) (in_routine inside none x) = absurd (routines_pass layout rules _ _ _ inside x)
  one_refusal layout (no_room rules needs short) (no_room rules' needs' short') = (refl, refl)
