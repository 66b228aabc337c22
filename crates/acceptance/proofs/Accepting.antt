-- The check accepts exactly when document 01's rules hold, with the need and count they define, and refuses exactly as declared.
use Prim.Native.Nat.{ℕ, ◌+◌, ◌≤◌}
use mathlib.Core.Path.{◌≡◌, refl, ap, ◌∙◌}
use mathlib.Core.Logic.{◌↔◌, ◌⊎◌, inl, inr}
use mathlib.Core.List.{List}
use native.Mathlib.Omega.{arith}
use lib.ListN.{length, replicate, length-replicate}
use Rattle.image.specs.declared.Limits.{Limits}
use Rattle.image.specs.Image.{size_of}
use Rattle.image.specs.Rules.{LimitsRules, ImageRules}
use Rattle.image.proofs.Validity.{rules_valid}
use Rattle.rules.specs.Rules.{reported_need, Rules, StartCount}
use Rattle.rules.specs.Before.{RulesBefore}
use Rattle.rules.specs.Refusal.{Refusal}
use Rattle.rules.specs.Acceptance.{Acceptable, AcceptedMarks, PastCode}
use Rattle.rules.specs.Outcome.{Outcome, invalid, few, refused, accepted}
use Rattle.rules.specs.Verdict.{Verdict}
use Rattle.rules.specs.Verdict.{Accepted, Refused}
use Rattle.rules.proofs.Unique.{one_depth}
use Rattle.rules.proofs.Kept.{acceptance_kept}
use Rattle.rules.proofs.OneOutcome.{one_outcome, acceptable_verdict, rules_stand}
use Rattle.acceptance.specs.Check.{checked}
use Rattle.acceptance.proofs.CheckFunction.{checked_outcome}

-- what an outcome of acceptance says
module _ {image : List ℕ} {limits : Limits} {before : List ℕ} where
  accepted_as : {need count : ℕ} {after : List ℕ} → Outcome image limits before (Accepted need count) after →
      (h : Acceptable image limits before need count) × AcceptedMarks image h.depth after
  accepted_as (accepted h marks past) = (h, marks)

  refused_by : {n o : ℕ} {after : List ℕ} → LimitsRules limits → ImageRules image → size_of image ≤ length before →
      Outcome image limits before (Refused n o) after → Refusal image limits n o
  refused_by areas layout enough (invalid e) =
      let v = rules_valid image limits areas layout in
      let z : ◌≡◌ {A = ℕ} 0 1 = cc in absurd (omega arith)
  refused_by areas layout enough (few v short) = absurd (omega arith)
  refused_by areas layout enough (refused v long x) = x

  -- where the rules hold there is a count, and the outcome is acceptance with it
  rules_accepted : {depth need : ℕ → ℕ} {v : Verdict} {after : List ℕ} → Rules image limits depth need → size_of image ≤ length before →
      Outcome image limits before v after → (count : ℕ) × StartCount image count × (v ≡ Accepted (reported_need image need) count)
  rules_accepted rules enough (invalid e) =
      let v = rules_valid image limits rules.areas rules.layout in
      let z : ◌≡◌ {A = ℕ} 0 1 = cc in absurd (omega arith)
  rules_accepted rules enough (few v short) = absurd (omega arith)
  rules_accepted rules enough (refused v long x) = absurd (rules_stand rules x)
  rules_accepted {depth} {need} rules enough (accepted {count = count} h left past) =
      let again : Acceptable image limits before (reported_need image need) count =
      record { depth = depth; needs = need; rules = rules; enough = enough; reported = refl; counted = h.counted } in
      (count, h.counted, acceptable_verdict again (accepted h left past))

  -- an outcome is acceptance by the rules or a declared refusal
  rules_or_refused : {v : Verdict} {after : List ℕ} → LimitsRules limits → ImageRules image → size_of image ≤ length before →
      Outcome image limits before v after →
      ((depth : ℕ → ℕ) × (need : ℕ → ℕ) × Rules image limits depth need) ⊎ ((n : ℕ) × (o : ℕ) × Refusal image limits n o)
  rules_or_refused areas layout enough (invalid {number} e) = inr (number, 0, refused_by areas layout enough (invalid e))
  rules_or_refused areas layout enough (few v short) = absurd (omega arith)
  rules_or_refused areas layout enough (refused {number = n} {offset = o} v long x) = inr (n, o, x)
  rules_or_refused areas layout enough (accepted h left past) = inl (h.depth, h.needs, h.rules)

module _ (image : List ℕ) (limits : Limits) (marks : List ℕ) where
  -- the function is the one outcome
  pub outcome_checked : {v : Verdict} {after : List ℕ} → Outcome image limits marks v after → checked image limits marks ≡ (v, after)
  outcome_checked x =
      let one = one_outcome (checked_outcome image limits marks) x in
      rw (← one.0, ← one.1)

  -- the theorem of acceptance, each way
  pub accept_sound : {n c : ℕ} → (checked image limits marks).0 ≡ Accepted n c →
      (h : Acceptable image limits marks n c) × AcceptedMarks image h.depth (checked image limits marks).1
  accept_sound e = accepted_as (rw e at (checked_outcome image limits marks))

  pub accepted_exactly : (n c : ℕ) → ((checked image limits marks).0 ≡ Accepted n c) ↔ Acceptable image limits marks n c
  accepted_exactly n c = (λ e. (accept_sound e).0, λ h. acceptable_verdict h (checked_outcome image limits marks))

  pub accept_complete : (depth need : ℕ → ℕ) → Rules image limits depth need → size_of image ≤ length marks →
      (count : ℕ) × StartCount image count × ((checked image limits marks).0 ≡ Accepted (reported_need image need) count)
  accept_complete depth need rules enough = rules_accepted rules enough (checked_outcome image limits marks)

  pub accepted_marks : (depth need : ℕ → ℕ) → Rules image limits depth need → size_of image ≤ length marks →
      AcceptedMarks image depth (checked image limits marks).1
  accepted_marks depth need rules enough =
      let s = accept_sound (accept_complete depth need rules enough).2 in
      record {
        starts = λ r o inside t.
            s.1.starts r o inside t ∙ ap (λ d. d + 1) (one_depth (s.0.rules.routines r inside) (rules.routines r inside) o t);
        others = s.1.others;
      }

  -- and of refusal
  pub refused_exactly : LimitsRules limits → ImageRules image → size_of image ≤ length marks →
      (n o : ℕ) → ((checked image limits marks).0 ≡ Refused n o) ↔ Refusal image limits n o
  refused_exactly areas layout enough n o = (
    λ e. refused_by areas layout enough (rw e at (checked_outcome image limits marks)),
    λ x. ap (λ (y : Verdict × List ℕ). y.0) (outcome_checked (refused (rules_valid image limits areas layout) enough x)),
  )

  -- Every image accepted before W-202 keeps its need and marks.
  pub kept : {depth need : ℕ → ℕ} {count : ℕ} {after : List ℕ} → RulesBefore image limits depth need → size_of image ≤ length marks →
      StartCount image count → AcceptedMarks image depth after → PastCode image marks after →
      checked image limits marks ≡ (Accepted (reported_need image need) count, after)
  kept rules enough counted left past = outcome_checked (acceptance_kept rules enough counted left past)

-- For an image and limits that pass 1 to 4 the rules hold or some refusal does. (Not both: `rules_stand`; and at most one refusal: `one_refusal`,
-- in rules/proofs.)
pub rules_or_refusal : (image : List ℕ) (limits : Limits) → LimitsRules limits → ImageRules image →
    ((depth : ℕ → ℕ) × (need : ℕ → ℕ) × Rules image limits depth need) ⊎ ((n : ℕ) × (o : ℕ) × Refusal image limits n o)
rules_or_refusal image limits areas layout =
    let marks : List ℕ = replicate (size_of image) 0 in
    rules_or_refused areas layout (omega (arith, length-replicate {A = ℕ} (size_of image) 0)) (checked_outcome image limits marks)
