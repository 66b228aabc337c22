-- What every outcome of a check has: the marks after a refusal, the cells past the code, and the refusal's number and offset.
use Prim.Native.Nat.{ℕ, ◌+◌, ◌-◌, ◌<◌, ◌≤◌}
use mathlib.Core.Path.{◌≡◌, refl, sym, ap, ◌∙◌}
use mathlib.Core.Logic.{⊎_elim, ⊎_map}
use mathlib.Core.List.{List, ◌++◌}
use native.Mathlib.Omega.{arith}
use lib.ListN.{length, get_or, drop, replicate, length-append, length-drop, length-replicate, get_or-replicate, get_or-append}
use lib.Seq.{get_or-append-add, get_or-drop}
use Rattle.numbers.proofs.Numbering.{not_zero}
use Rattle.image.specs.declared.Limits.{Limits}
use Rattle.image.specs.Validated as Validated
use Rattle.image.specs.Image.{size_of, layout_of}
use Rattle.image.specs.Validation.{refusal, validated}
use Rattle.image.proofs.Validity.{answer_refused, valid_rules}
use Rattle.image.proofs.Layouts.{begins_before_end}
use Rattle.image.proofs.Measuring.{end_inside}
use Rattle.image.proofs.RefusalNumbers.{validation_number_lem}
use Rattle.code.proofs.Starts.{start_high}
use Rattle.rules.specs.Acceptance.{RefusedMarks, PastCode, RefusedAs}
use Rattle.rules.specs.Outcome.{Outcome, invalid, few, refused, accepted, VerdictNumbered}
use Rattle.rules.specs.Verdict.{Verdict}
use Rattle.rules.specs.Verdict.{Refused}
use Rattle.rules.proofs.RefusalNumbers.{refusal_number, refusal_inside}

validation_refused : (image : List ℕ) (limits : Limits) {number : ℕ} → validated image limits ≡ Validated.Refused number → (1 ≤ number) × (number ≤ 4)
unfolding validated
validation_refused image limits {number} e =
    let given = answer_refused (refusal image limits) (layout_of image) number e in
    not_zero (rw given.0 at (validation_number_lem image limits)) given.1

-- marks of the code, with the cells past the code as they were
module _ (image before front : List ℕ) (size : length front ≡ size_of image) where
  pub front_mark : (o : ℕ) → o < size_of image → get_or (front ++ drop (size_of image) before) o 0 ≡ get_or front o 0
  front_mark o below = get_or-append front (drop (size_of image) before) 0 o (omega arith)

  pub front_past : size_of image ≤ length before → PastCode image before (front ++ drop (size_of image) before)
  front_past enough =
      record {
        size = omega (arith, length-append front (drop (size_of image) before), length-drop (size_of image) before);
        cells = λ o past.
            let at : length front + (o - size_of image) ≡ o = omega arith in
            let back : size_of image + (o - size_of image) ≡ o = omega arith in
            ap (λ k. get_or (front ++ drop (size_of image) before) k 0) (sym at) ∙
            get_or-append-add front (drop (size_of image) before) (o - size_of image) 0 ∙
            get_or-drop (size_of image) before (o - size_of image) 0 ∙ ap (λ k. get_or before k 0) back;
      }

refused_numbered : {image : List ℕ} {n o : ℕ} → RefusedAs image n o → VerdictNumbered 16 (Refused n o)
refused_numbered x =
    record {
      accepted = λ z. absurd (omega (arith, x.least));
      refused = λ _. refl;
      most = x.most;
      nowhere = λ h. x.nowhere (⊎_map (λ low. low) (λ high. omega (arith, x.most)) h);
      nothing = λ _. (refl, refl);
    }

module _ {image : List ℕ} {limits : Limits} {before : List ℕ} where
  pub past_code : {v : Verdict} {after : List ℕ} → Outcome image limits before v after → PastCode image before after
  past_code (invalid e) = record { size = refl; cells = λ o past. refl }
  past_code (few v short) = record { size = refl; cells = λ o past. refl }
  past_code (refused v enough x) = front_past image before (replicate (size_of image) 0) (length-replicate {A = ℕ} (size_of image) 0) enough
  past_code (accepted h marks past) = past

  pub refused_marks : {n o : ℕ} {after : List ℕ} → Outcome image limits before (Refused n o) after → RefusedMarks image before after n
  refused_marks (invalid e) =
      let number = validation_refused image limits e in
      record { cleared = λ six. absurd (omega arith); kept = λ five. refl }
  refused_marks (few v short) = record { cleared = λ six. absurd (omega arith); kept = λ five. refl }
  refused_marks (refused v enough x) =
      let number = refusal_number x in
      record {
        cleared = λ six o below. front_mark image before (replicate (size_of image) 0) (length-replicate {A = ℕ} (size_of image) 0) o below ∙ get_or-replicate (size_of image) o 0 0 below;
        kept = λ five. absurd (omega arith);
      }

  pub refused_as : {n o : ℕ} {after : List ℕ} → Outcome image limits before (Refused n o) after → RefusedAs image n o
  refused_as (invalid e) =
      let number = validation_refused image limits e in
      record { least = omega arith; most = omega arith; nowhere = λ _. refl; somewhere = λ six _. absurd (omega arith) }
  refused_as (few v short) = record { least = omega arith; most = omega arith; nowhere = λ _. refl; somewhere = λ six _. absurd (omega arith) }
  refused_as (refused {layout = layout} v enough x) =
      let number = refusal_number x in
      record {
        least = omega arith;
        most = number.1;
        nowhere = ⊎_elim (λ five. absurd (omega arith)) number.2;
        somewhere = λ six most.
            let at = refusal_inside x most in
            let some = begins_before_end image (valid_rules image limits layout v).1 at.0 at.1 in
            (omega (arith, start_high image at.0 some at.2, end_inside image at.0 at.1), at);
      }

  pub verdict_numbered : {v : Verdict} {after : List ℕ} → Outcome image limits before v after → VerdictNumbered 16 v
  verdict_numbered (invalid e) = refused_numbered (refused_as (invalid e))
  verdict_numbered (few v short) = refused_numbered (refused_as (few v short))
  verdict_numbered (refused v enough x) = refused_numbered (refused_as (refused v enough x))
  verdict_numbered (accepted h marks past) =
      record { accepted = λ _. refl; refused = λ z. absurd (z refl); most = omega arith; nowhere = λ _. refl; nothing = λ z. absurd (z refl) }
