-- An input that is longer than any that is not refused prints what its first 4,181 bytes print: whoever reads no further loses nothing.
use Prim.Native.Nat.{ℕ, zero, suc, ◌+◌, ◌≤◌}
use mathlib.Core.Path.{◌≡◌, refl, sym, ap, ◌∙◌}
use mathlib.Core.List.{List, [], ◌∷◌}
use native.Mathlib.Nat.{zero-add, suc-add}
use native.Mathlib.Omega.{arith}
use borrow.Author.Tests.{ne_eqb}
use lib.ListN.{length, take, drop, length-drop}
use lib.Seq.{length-take-le, take-take, take-nil, get_or-take}
use Rattle.numbers.specs.Folds.{first_in}
use Rattle.numbers.specs.Words.{word_at}
use Rattle.numbers.proofs.Checking.{first_zero, under_zero, under_pass, differ_zero}
use Rattle.numbers.proofs.Folding.{passed}
use Rattle.numbers.proofs.Numbering.{not_zero}
use Rattle.image.specs.Image.{version_of, base_of, lengths_of, code_at, code_of, limits_of}
use Rattle.image.specs.Validation.{limits_check, mark_check, version_check, header_check, layout_check, refusal, validated}
use Rattle.image.specs.declared.Limits.{Limits}
use Rattle.image.specs.Validated as Validated
use Rattle.image.proofs.Measuring.{lengths_count, code_length}
use Rattle.image.proofs.RefusalNumbers.{layout_numbered}
use Rattle.rules.specs.Verdict.{Refused}
use Rattle.listing.specs.Listing.{verdict_line, listing, image_in, checked_input}
use Rattle.listing.proofs.Placing.{refused_listing, checked_refused, input_whole}

-- An image with a good layout has at most 8 + 2 * 32 + 4,096 bytes.
layout_short : (image : List ℕ) → layout_check (base_of image) (lengths_of image) (length (code_of image)) ≡ 0 → length image ≤ 4168
unfolding layout_check header_check code_at
layout_short image e =
    let q = first_zero _ _ e in
    let p = passed _ q.0 in
    omega (arith, lengths_count image, code_length image, under_zero _ _ 3 p.1.0, under_zero _ _ 3 p.1.1.1.0, differ_zero _ _ 3 q.1)

layout_long : (image : List ℕ) → 4169 ≤ length image → layout_check (base_of image) (lengths_of image) (length (code_of image)) ≡ 4
layout_long image h =
    let gives = not_zero (layout_numbered {low = 4} {high = 4} refl _ _ _) (λ e. omega (arith, layout_short image e)) in
    omega (arith, gives.0, gives.1)

-- A longer image is refused, by 4 at the last.
long_refusal : List ℕ → Limits → ℕ
long_refusal image limits = first_in (limits_check limits ∷ mark_check image ∷ version_check image ∷ 4 ∷ [])

long_refused : (image : List ℕ) (limits : Limits) → 4169 ≤ length image → validated image limits ≡ Validated.Refused (long_refusal image limits)
unfolding validated refusal long_refusal
long_refused image limits h =
    let some : long_refusal image limits ≡ 0 → ⊥ = λ e. omega (arith, (passed _ e).1.1.1.0) in
    rw (layout_long image h, ne_eqb (long_refusal image limits) 0 some)

-- The first bytes decide by which number.
mark_front : (image : List ℕ) → 4169 ≤ length image → mark_check (take 4169 image) ≡ mark_check image
unfolding mark_check
mark_front image h =
    let whole : 8 ≤ length image = omega arith in
    let front : 8 ≤ length (take 4169 image) = omega (arith, length-take-le 4169 image h) in
    rw (under_pass (length (take 4169 image)) 8 2 front, under_pass (length image) 8 2 whole, take-take 3 4169 image (omega arith))

version_front : (image : List ℕ) → version_check (take 4169 image) ≡ version_check image
unfolding version_check version_of word_at
version_front image = rw (get_or-take 4169 image 3 0 (omega arith), get_or-take 4169 image 4 0 (omega arith))

refusal_front : (image : List ℕ) (limits : Limits) → 4169 ≤ length image → long_refusal (take 4169 image) limits ≡ long_refusal image limits
unfolding long_refusal
refusal_front image limits h = rw (mark_front image h, version_front image)

limits_front : (input : List ℕ) → limits_of (take 4181 input) ≡ limits_of input
unfolding limits_of word_at
limits_front input =
    rw (
      get_or-take 4181 input 0 0 (omega arith),
      get_or-take 4181 input 1 0 (omega arith),
      get_or-take 4181 input 2 0 (omega arith),
      get_or-take 4181 input 3 0 (omega arith),
      get_or-take 4181 input 4 0 (omega arith),
      get_or-take 4181 input 5 0 (omega arith),
      get_or-take 4181 input 6 0 (omega arith),
      get_or-take 4181 input 7 0 (omega arith),
      get_or-take 4181 input 8 0 (omega arith),
      get_or-take 4181 input 9 0 (omega arith),
      get_or-take 4181 input 10 0 (omega arith),
      get_or-take 4181 input 11 0 (omega arith),
    )

drop_take : (n m : ℕ) (l : List ℕ) → drop n (take (n + m) l) ≡ take m (drop n l)
drop_take zero m l = rw (zero-add m)
drop_take (suc n) m [] = rw (suc-add n m) (sym (take-nil m))
drop_take (suc n) m (x ∷ l) = rw (suc-add n m) (drop_take n m l)

input_refused : (input marks : List ℕ) → 4181 ≤ length input →
    listing (image_in input) (checked_input input marks) ≡ verdict_line (Refused (long_refusal (image_in input) (limits_of input)) 0)
input_refused input marks h =
    let whole : 12 ≤ length input = omega arith in
    let long : 4169 ≤ length (image_in input) = rw (length-drop 12 input) (omega arith) in
    let refused = checked_refused (image_in input) (limits_of input) marks _ (long_refused (image_in input) (limits_of input) long) in
    sym (refused_listing (image_in input) marks (checked_input input marks) _ (input_whole input marks whole ∙ refused) refl)

pub long_input : (input marks : List ℕ) → 4181 ≤ length input →
    listing (image_in (take 4181 input)) (checked_input (take 4181 input) marks) ≡ listing (image_in input) (checked_input input marks)
long_input input marks h =
    let front : 4181 ≤ length (take 4181 input) = omega (arith, length-take-le 4181 input h) in
    let long : 4169 ≤ length (image_in input) = rw (length-drop 12 input) (omega arith) in
    let same : long_refusal (image_in (take 4181 input)) (limits_of (take 4181 input)) ≡ long_refusal (image_in input) (limits_of input) =
    rw (limits_front input, drop_take 12 4169 input) (refusal_front (image_in input) (limits_of input) long) in
    input_refused (take 4181 input) marks front ∙ ap (λ n. verdict_line (Refused n 0)) same ∙ sym (input_refused input marks h)
