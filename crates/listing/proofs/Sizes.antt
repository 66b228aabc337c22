-- How long lines are, and the longest listing.
use Rattle.std.specs.Prelude.{Ok, Err}
use Prim.Native.Nat.{ℕ, zero, suc, ◌+◌, ◌-◌, ◌*◌, ◌/◌, ◌≤◌}
use mathlib.Core.Path.{◌≡◌, refl}
use mathlib.Core.Bool.{Bool, true, false, cond}
use mathlib.Core.List.{List, [], ◌++◌, flat_map}
use native.Mathlib.Omega.{arith}
use lib.Dec.{eqb, ltb}
use lib.ListN.{length, get_or, length-append}
use Rattle.std.specs.Prelude.{Ok, Err}
use Rattle.stm8.specs.Decoding.{Decoded}
use Rattle.numbers.specs.Ascii.{ascii}
use Rattle.numbers.specs.Computed.{counting}
use Rattle.notation.specs.Notation.{word_digits}
use Rattle.notation.specs.Writing.{appended}
use Rattle.notation.proofs.Growing.{appended_all}
use Rattle.disassembly.proofs.Sizes.{text_size}
use Rattle.image.specs.Image.{base_of, size_of, limits_of}
use Rattle.code.specs.Code.{instruction_in}
use Rattle.image.specs.Validation.{validated}
use Rattle.image.specs.declared.Limits.{Limits}
use Rattle.image.specs.Validated.{Validated}
use Rattle.image.specs.Validated.{Refused, Valid}
use Rattle.image.proofs.Validity.{valid_rules}
use Rattle.acceptance.specs.Check.{checked, validated_checked}
use Rattle.rules.specs.Verdict.{Verdict}
use Rattle.rules.specs.Verdict as Verdict
use Rattle.listing.specs.Internal.{Wrote}
use Rattle.listing.specs.Decimal.{leading, last_digit, decimal}
use Rattle.listing.specs.Listing.{verdict_line, text_at, start_line, line_at, start_lines, listing, longest, image_in, checked_input}

unless_size : (t : Bool) (s : List ℕ) {n : ℕ} → length s ≤ n → length (cond t [] s) ≤ n
unless_size true s h = omega arith
unless_size false s h = h

pub leading_size : (n : ℕ) → length (leading n) ≤ 1
unfolding leading
leading_size n = unless_size (eqb n 0) (last_digit n) (omega arith)

pub decimal_size : (n : ℕ) → length (decimal n) ≤ 5
unfolding decimal
decimal_size n =
    simp length-append (omega (arith, leading_size (n / 10000), leading_size (n / 1000), leading_size (n / 100), leading_size (n / 10)))

verdict_line_size : (v : Verdict) → length (verdict_line v) ≤ 21
verdict_line_size (Ok a) = simp length-append (omega (arith, decimal_size a.need, decimal_size a.count))
verdict_line_size (Err r) = simp length-append (omega (arith, decimal_size r.number, decimal_size r.offset))

-- nothing of line one is left out
pub verdict_whole : (v : Verdict) → appended 21 [] (verdict_line v) ≡ verdict_line v
verdict_whole v =
    let size = verdict_line_size v in
    appended_all 21 [] (verdict_line v) (omega arith)

-- after line one there is room for the lines of all starts
pub starts_room : (at size : ℕ) (v : Verdict) (before after : List ℕ) → Wrote 0 before (verdict_line v) at after → longest ≤ length before → size ≤ 4096 →
    at + 35 * size ≤ length after
starts_room at size v before after w long few = omega (arith, w.end, w.room, verdict_line_size v)

pub text_at_size : (address : ℕ) (d : Decoded) → length (text_at address d) ≤ 23
text_at_size address (Ok (i, n)) = (text_size address i).most
text_at_size address (Err e) = omega arith

pub front_size : (address depth : ℕ) → length (word_digits address ++ ascii " " ++ decimal depth ++ ascii " ") ≤ 11
front_size address depth = simp length-append (omega (arith, decimal_size depth))

start_line_size : (address depth : ℕ) (d : Decoded) → length (start_line address depth d) ≤ 35
unfolding start_line
start_line_size address depth d = simp length-append (omega (arith, decimal_size depth, text_at_size address d))

-- nor of a start's
pub start_whole : (address depth : ℕ) (d : Decoded) → appended 35 [] (start_line address depth d) ≡ start_line address depth d
start_whole address depth d =
    let size = start_line_size address depth d in
    appended_all 35 [] (start_line address depth d) (omega arith)

pub line_size : (image marks : List ℕ) (offset : ℕ) → length (line_at image marks offset) ≤ 35
unfolding line_at
line_size image marks offset =
    unless_size (eqb (get_or marks offset 0) 0) _
    (start_line_size (base_of image + offset) (get_or marks offset 0 - 1) (instruction_in image offset))

lines_size : (f : ℕ → List ℕ) → ((k : ℕ) → length (f k) ≤ 35) → (n i : ℕ) → length (flat_map f (counting n i)) ≤ 35 * n
unfolding flat_map
lines_size f h zero i = omega arith
lines_size f h (suc n) i = rw length-append (omega (arith, h i, lines_size f h n (suc i)))

start_lines_size : (image marks : List ℕ) (v : Verdict) → size_of image ≤ 4096 → length (start_lines image marks v) ≤ 35 * 4096
start_lines_size image marks (Ok accepted) h = omega (arith, lines_size (line_at image marks) (line_size image marks) (size_of image) 0)
start_lines_size image marks (Err refused) h = omega arith

-- of an image that has at most 4,096 code bytes
code_listing_size : (image : List ℕ) (outcome : Verdict × List ℕ) → size_of image ≤ 4096 → length (listing image outcome) ≤ longest
unfolding listing
code_listing_size image outcome h = rw length-append (omega (arith, verdict_line_size outcome.0, start_lines_size image outcome.1 outcome.0 h))

-- of a refusal
refused_listing_size : (image marks : List ℕ) (number offset : ℕ) → length (listing image (Verdict.Refused number offset, marks)) ≤ longest
unfolding listing
refused_listing_size image marks number offset = rw length-append (omega (arith, verdict_line_size (Verdict.Refused number offset)))

-- no listing is longer than `longest`, whatever the image, the limits and the marks
pub listing_size : (image : List ℕ) (limits : Limits) (marks : List ℕ) → length (listing image (checked image limits marks)) ≤ longest
unfolding checked
listing_size image limits marks = go (validated image limits) refl
  where
    go : (v : Validated) → validated image limits ≡ v → length (listing image (validated_checked image limits marks v)) ≤ longest
    go (Refused number) e = refused_listing_size image marks number 0
    go (Valid layout) e = code_listing_size image (validated_checked image limits marks (Valid layout)) (valid_rules image limits layout e).1.code

pub input_listing_size : (input marks : List ℕ) → length (listing (image_in input) (checked_input input marks)) ≤ longest
unfolding checked_input
input_listing_size input marks = go (ltb (length input) 12)
  where
    go : (t : Bool) → length (listing (image_in input) (cond t (Verdict.Refused 1 0, marks) (checked (image_in input) (limits_of input) marks))) ≤ longest
    go true = refused_listing_size (image_in input) marks 1 0
    go false = listing_size (image_in input) (limits_of input) marks
