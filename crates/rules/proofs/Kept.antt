-- Every image that met the rules before W-202 meets them now, with the same depths and needs and no others, and is accepted with its need, count and
-- marks.
use Prim.Native.Nat.{ℕ, zero, suc, ◌<◌, ◌≤◌}
use mathlib.Core.Path.{◌≡◌, refl}
use mathlib.Core.List.{List}
use native.Mathlib.Omega.{arith}
use lib.ListN.{length}
use Rattle.image.specs.declared.Limits.{Limits}
use Rattle.image.specs.Image.{count_of, size_of}
use Rattle.code.specs.Code.{Start}
use Rattle.rules.specs.Paths.{falling, jumping, Reached, entered, followed}
use Rattle.rules.specs.Rules.{reported_need, RoutineRulesBy, RoutineRules, Rules, StartCount}
use Rattle.rules.specs.Acceptance.{AcceptedMarks, PastCode}
use Rattle.rules.specs.Outcome.{Outcome, accepted}
use Rattle.rules.specs.Verdict.{Accepted}
use Rattle.rules.specs.Before.{ReachedFromBelow, fallen, jumped, RulesBefore}
use Rattle.rules.specs.Before as Before
use Rattle.code.proofs.Starts.{found_inside}
use Rattle.rules.proofs.Mapping.{routine_by}
use Rattle.rules.proofs.Unique.{one_depth, one_need}

-- control came from lower addresses alone, so reach goes by induction on the offset
module _ {image : List ℕ} {r : ℕ} where
  reached_by : {o : ℕ} → ReachedFromBelow image r o → ((k : ℕ) → k < o → Start image r k → Reached image r k) → Reached image r o
  reached_by Before.entered lower = entered
  reached_by (fallen {o} s f t) lower = followed (lower o (omega (arith, found_inside image r o f)) s) (falling f t refl)
  reached_by (jumped {o} s f j l) lower = followed (lower o l s) (jumping f j)

module _ {image : List ℕ} {limits : Limits} {depth : ℕ → ℕ} {r : ℕ} (rules : RoutineRulesBy (ReachedFromBelow image) image limits depth r) where
  reached_below : (b o : ℕ) → o < b → Start image r o → Reached image r o
  reached_below zero o l s = absurd (omega arith)
  reached_below (suc b) o l s = reached_by (rules.starts s).reached (λ k lower t. reached_below b k (omega arith) t)

  pub routine_kept : RoutineRules image limits depth r
  routine_kept = routine_by (λ o s. refl) (λ o s. reached_below (suc o) o (omega arith) s) rules

pub rules_kept : {image : List ℕ} {limits : Limits} {depth need : ℕ → ℕ} → RulesBefore image limits depth need → Rules image limits depth need
rules_kept h =
    record {
      areas = h.areas;
      layout = h.layout;
      routines = λ r inside. routine_kept (h.routines r inside);
      needs = h.needs;
      room = h.room;
    }

pub same_as_before : {image : List ℕ} {limits : Limits} {depth depth' need need' : ℕ → ℕ} →
    RulesBefore image limits depth need → Rules image limits depth' need' →
    ((r o : ℕ) → r < count_of image → Start image r o → depth o ≡ depth' o) × ((r : ℕ) → r < count_of image → need r ≡ need' r)
same_as_before h h' =
    let k = rules_kept h in (
      λ r o inside s. one_depth (k.routines r inside) (h'.routines r inside) o s,
      one_need k.routines h'.routines k.needs h'.needs,
    )

pub acceptance_kept : {image : List ℕ} {limits : Limits} {depth need : ℕ → ℕ} {count : ℕ} {before after : List ℕ} →
    RulesBefore image limits depth need → size_of image ≤ length before → StartCount image count →
    AcceptedMarks image depth after → PastCode image before after →
    Outcome image limits before (Accepted (reported_need image need) count) after
acceptance_kept {depth = depth} {need} h enough counted marks past =
    accepted (record { depth = depth; needs = need; rules = rules_kept h; enough = enough; reported = refl; counted = counted }) marks past
