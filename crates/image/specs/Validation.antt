-- Validation: refusals 1 to 4 in document 01's order.
use Rattle.std.specs.Prelude.{ℕ, ◌+◌, Bool, true, cond, List, [], ◌∷◌, map, length, take, ◌==◌, nat_lt}
use Rattle.numbers.specs.Ascii.{ascii}
use Rattle.numbers.specs.Checks.{first, under, unless, differ}
use Rattle.numbers.specs.Folds.{total, first_in}
use Rattle.numbers.specs.Lists.{same}
use Rattle.image.specs.Image.{version_of, base_of, lengths_of, code_of, layout_of}
use Rattle.image.specs.declared.Area.{Area}
use Rattle.image.specs.declared.Limits.{Limits}
use Rattle.image.specs.declared.Layout.{Layout}
use Rattle.image.specs.Validated.{Validated}
use Rattle.image.specs.Validated.{Refused, Valid}

-- 1, limits break a rule. Of an area: low is not above high, all are at most 7FFF.
unfoldable pub area_check : Area → ℕ
area_check area =
    first_in
    (under area.high area.low 1 ∷
    under 0x7FFF area.low 1 ∷
    under 0x7FFF area.high 1 ∷
    [])

-- The areas don't meet: one ends before the other begins.
unfoldable pub apart : Area → Area → Bool
apart a b = cond (nat_lt a.high b.low) true (nat_lt b.high a.low)

-- Of a second grant, which is none where its low is above its high: the grant's rules, and it meets neither the grant nor the stack.
unfoldable pub second_check : Limits → ℕ
second_check limits =
    cond (nat_lt limits.second.high limits.second.low) 0
    (first_in
    (area_check limits.second ∷
    unless (apart limits.grant limits.second) 1 ∷
    unless (apart limits.stack limits.second) 1 ∷
    []))

-- Of all: stack low is at least 1, and they don't meet.
unfoldable pub limits_check : Limits → ℕ
limits_check limits =
    first_in
    (area_check limits.grant ∷
    area_check limits.stack ∷
    under limits.stack.low 1 1 ∷
    unless (apart limits.grant limits.stack) 1 ∷
    second_check limits ∷
    [])

-- 2, under 8 bytes, or not SLU.
unfoldable pub mark_check : List ℕ → ℕ
mark_check image = first_in (under (length image) 8 2 ∷ unless (same (take 3 image) (ascii "SLU")) 2 ∷ [])

-- 3, version neither 0001 nor 0002.
abbrev pub known : ℕ → Bool
known version = cond (version == 0x0001) true (version == 0x0002)

unfoldable pub version_check : List ℕ → ℕ
version_check image = unless (known (version_of image)) 3

-- 4, other layout rule. Each length is at least 1.
unfoldable pub length_check : ℕ → ℕ
length_check n = under n 1 4

unfoldable pub lengths_check : List ℕ → ℕ
lengths_check lengths = first_in (map length_check lengths)

-- Count is 1 to 32, code at most 4,096 bytes, base at least 8000, base plus code at most 10000.
unfoldable pub header_check : (base : ℕ) (lengths : List ℕ) → ℕ
header_check base lengths =
    first_in
    (under (length lengths) 1 4 ∷
    under 32 (length lengths) 4 ∷
    lengths_check lengths ∷
    under 4096 (total lengths) 4 ∷
    under base 0x8000 4 ∷
    under 0x10000 (base + total lengths) 4 ∷
    [])

-- The file ends with the code: as many code bytes are given as the lengths add up to.
unfoldable pub layout_check : (base : ℕ) (lengths : List ℕ) (given : ℕ) → ℕ
layout_check base lengths given = first (header_check base lengths) (differ given (total lengths) 4)

-- Order: 1 to 4. 0 where no rule is broken.
unfoldable pub refusal : List ℕ → Limits → ℕ
refusal image limits =
    first_in
    (limits_check limits ∷
    mark_check image ∷
    version_check image ∷
    layout_check (base_of image) (lengths_of image) (length (code_of image)) ∷
    [])

-- the layout where no rule is broken, else the refusal
abbrev pub answer : ℕ → Layout → Validated
answer number layout = cond (number == 0) (Valid layout) (Refused number)

unfoldable pub validated : List ℕ → Limits → Validated
validated image limits = answer (refusal image limits) (layout_of image)

-- Of an image by itself, with no limits: 2 to 4 in their order, or the layout.
unfoldable pub image_check : List ℕ → ℕ
image_check image =
    first_in
    (mark_check image ∷
    version_check image ∷
    layout_check (base_of image) (lengths_of image) (length (code_of image)) ∷
    [])

unfoldable pub laid_out : List ℕ → Validated
laid_out image = answer (image_check image) (layout_of image)

-- document 01's number of an answer, 0 where nothing is refused
abbrev pub validation_number : Validated → ℕ
validation_number (Refused number) = number
validation_number (Valid layout) = 0
