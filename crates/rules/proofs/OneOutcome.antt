-- A check has one outcome for each image, limits and marks, and its verdict goes by the number of marks alone.
use Prim.Native.Nat.{ℕ, ◌<◌, ◌≤◌}
use mathlib.Core.Path.{◌≡◌, refl, sym, ap, ◌∙◌}
use mathlib.Core.Logic.{◌↔◌}
use mathlib.Core.List.{List, ◌++◌}
use native.Mathlib.Omega.{arith}
use lib.ListN.{length, drop, replicate}
use Rattle.image.specs.declared.Limits.{Limits}
use Rattle.image.specs.declared.Layout.{Layout}
use Rattle.image.specs.Validated as Validated
use Rattle.image.specs.Image.{count_of, size_of, main_of}
use Rattle.image.specs.Rules.{ImageRules}
use Rattle.image.specs.Validation.{validated}
use Rattle.image.proofs.Validity.{valid_rules, rules_valid}
use Rattle.rules.specs.Rules.{reported_need, RoutineRules, NeedRules, Rules}
use Rattle.rules.specs.Refusal.{Refusal, in_routine, no_room}
use Rattle.rules.specs.Acceptance.{Acceptable}
use Rattle.rules.specs.Outcome.{Outcome, invalid, few, refused, accepted}
use Rattle.rules.specs.Verdict.{Verdict}
use Rattle.rules.specs.Verdict.{Accepted, Refused}
use Rattle.rules.proofs.Unique.{one_depth, one_need, one_count}
use Rattle.rules.proofs.OneRefusal.{routines_pass, one_refusal}
use Rattle.rules.proofs.OneMarks.{one_marks}

module _ {image : List ℕ} {limits : Limits} where
  main_need : ImageRules image → {depth depth' need need' : ℕ → ℕ} →
      ((r : ℕ) → r < count_of image → RoutineRules image limits depth r) → ((r : ℕ) → r < count_of image → RoutineRules image limits depth' r) →
      NeedRules image depth need → NeedRules image depth' need' → reported_need image need ≡ reported_need image need'
  unfolding main_of
  main_need layout rules rules' most most' =
      omega (arith, one_need rules rules' most most' (main_of image) (omega (arith, layout.count.0)))

  -- what meets the rules is not refused
  pub rules_stand : {depth need : ℕ → ℕ} {n o : ℕ} → Rules image limits depth need → Refusal image limits n o → ⊥
  rules_stand rules (in_routine below none x) = routines_pass rules.layout rules.routines _ _ _ below x
  rules_stand rules (no_room routines needs short) =
      omega (arith, rules.room, main_need rules.layout rules.routines routines rules.needs needs)

  -- and is accepted in one way
  one_acceptance : {before before' : List ℕ} {need need' count count' : ℕ} →
      Acceptable image limits before need count → Acceptable image limits before' need' count' → Accepted need count ≡ Accepted need' count'
  one_acceptance h h' =
      let rules = h.rules in
      let rules' = h'.rules in
      let same_need = h.reported ∙ main_need rules.layout rules.routines rules'.routines rules.needs rules'.needs ∙ sym h'.reported in
      rw (same_need, one_count h.counted h'.counted)

module _ (image : List ℕ) (limits : Limits) where
  not_valid : {n : ℕ} {layout : Layout} → validated image limits ≡ Validated.Refused n → validated image limits ≡ Validated.Valid layout → ⊥
  not_valid e v = let z : ◌≡◌ {A = ℕ} 0 1 = cc in omega arith

  rules_checked : {depth need : ℕ → ℕ} {n : ℕ} → Rules image limits depth need → validated image limits ≡ Validated.Refused n → ⊥
  rules_checked rules e = not_valid e (rules_valid image limits rules.areas rules.layout)

module _ {image : List ℕ} {limits : Limits} {before before' : List ℕ}
    (same : (size_of image ≤ length before) ↔ (size_of image ≤ length before')) where
  outcomes_agree : {v v' : Verdict} {after after' : List ℕ} → Outcome image limits before v after → Outcome image limits before' v' after' →
      (v ≡ v') × (before ≡ before' → after ≡ after')
  outcomes_agree (invalid {number = n} e) (invalid {number = n'} e') = let z : n ≡ n' = cc in (rw z, λ m. m)
  outcomes_agree (invalid e) (few v size) = absurd (not_valid image limits e v)
  outcomes_agree (invalid e) (refused v size x) = absurd (not_valid image limits e v)
  outcomes_agree (invalid e) (accepted h marks past) = absurd (rules_checked image limits h.rules e)
  outcomes_agree (few v size) (invalid e) = absurd (not_valid image limits e v)
  outcomes_agree (few v size) (few v' size') = (refl, λ m. m)
  outcomes_agree (few v size) (refused v' size' x) = absurd (omega (arith, same.1 size'))
  outcomes_agree (few v size) (accepted h marks past) = absurd (omega (arith, same.1 h.enough))
  outcomes_agree (refused v size x) (invalid e) = absurd (not_valid image limits e v)
  outcomes_agree (refused v size x) (few v' size') = absurd (omega (arith, same.0 size))
  outcomes_agree (refused v size x) (refused v' size' x') =
      let one = one_refusal (valid_rules image limits _ v).1 x x' in
      (rw (one.0, one.1), ap (λ m. replicate (size_of image) 0 ++ drop (size_of image) m))
  outcomes_agree (refused v size x) (accepted h marks past) = absurd (rules_stand h.rules x)
  outcomes_agree (accepted h marks past) (invalid e) = absurd (rules_checked image limits h.rules e)
  outcomes_agree (accepted h marks past) (few v size) = absurd (omega (arith, same.0 h.enough))
  outcomes_agree (accepted h marks past) (refused v size x) = absurd (rules_stand h.rules x)
  outcomes_agree (accepted h marks past) (accepted h' marks' past') = (
    one_acceptance h h',
    λ m.
        one_marks (λ r o inside s. one_depth (h.rules.routines r inside) (h'.rules.routines r inside) o s) marks marks' past (rw m past'),
  )

pub one_outcome : {image : List ℕ} {limits : Limits} {before : List ℕ} {v v' : Verdict} {after after' : List ℕ} →
    Outcome image limits before v after → Outcome image limits before v' after' → (v ≡ v') × (after ≡ after')
one_outcome x x' = let agree = outcomes_agree (λ h. h, λ h. h) x x' in (agree.0, agree.1 refl)

-- where the rules hold and the marks are enough, the verdict is acceptance
pub acceptable_verdict : {image : List ℕ} {limits : Limits} {before : List ℕ} {need count : ℕ} {v : Verdict} {after : List ℕ} →
    Acceptable image limits before need count → Outcome image limits before v after → v ≡ Accepted need count
acceptable_verdict {image} {limits} h (invalid e) = absurd (rules_checked image limits h.rules e)
acceptable_verdict h (few v short) = absurd (omega (arith, h.enough))
acceptable_verdict h (refused v enough x) = absurd (rules_stand h.rules x)
acceptable_verdict h (accepted h' marks past) = one_acceptance h' h

pub same_verdict : {image : List ℕ} {limits : Limits} {before before' : List ℕ} {v v' : Verdict} {after after' : List ℕ} →
    (size_of image ≤ length before) ↔ (size_of image ≤ length before') →
    Outcome image limits before v after → Outcome image limits before' v' after' → v ≡ v'
same_verdict same x x' = (outcomes_agree same x x').0
