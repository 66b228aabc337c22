-- What document 01's verdict program prints.
use Rattle.std.specs.Prelude.{ℕ, ◌+◌, ◌-◌, ◌*◌, cond, eqb, ltb, length, get_or, drop, Ok, Err, Result}
use mathlib.Core.List.{List, [], ◌∷◌, ◌++◌, flat_map}
use Rattle.stm8.specs.Decoding.{Decoded}
use Rattle.numbers.specs.Ascii.{ascii}
use Rattle.numbers.specs.Computed.{counting}
use Rattle.notation.specs.Notation.{word_digits}
use Rattle.disassembly.specs.Text.{text}
use Rattle.disassembly.specs.declared.TooShort.{TooShort}
use Rattle.image.specs.Image.{base_of, size_of, limits_of}
use Rattle.code.specs.Code.{instruction_in}
use Rattle.acceptance.specs.Check.{checked}
use Rattle.rules.specs.Verdict.{Verdict}
use Rattle.rules.specs.Verdict.{Accepted, Refused}
use Rattle.listing.specs.Decimal.{decimal}

abbrev pub line_feed : List ℕ
line_feed = 10 ∷ []

-- Line one: verdict, need, count. A refusal prints `refused`, number and offset.
abbrev pub verdict_line : Verdict → List ℕ
verdict_line (Ok accepted) = ascii "accepted " ++ decimal accepted.need ++ ascii " " ++ decimal accepted.count ++ line_feed
verdict_line (Err refused) = ascii "refused " ++ decimal refused.number ++ ascii " " ++ decimal refused.offset ++ line_feed

-- the text of what decodes at an address; at a start of an accepted image that is an instruction, which is a theorem
abbrev pub text_at : ℕ → Decoded → List ℕ
text_at address (Ok (i, n)) = text address i
text_at address (Err e) = []

-- address, depth, text
unfoldable pub start_line : ℕ → ℕ → Decoded → List ℕ
start_line address depth d = word_digits address ++ ascii " " ++ decimal depth ++ ascii " " ++ text_at address d ++ line_feed

-- the line of a code byte that is a start, whose mark holds depth + 1; every other's mark is 0
unfoldable pub line_at : List ℕ → List ℕ → ℕ → List ℕ
line_at image marks offset =
    let mark = get_or marks offset 0 in
    cond (eqb mark 0) [] (start_line (base_of image + offset) (mark - 1) (instruction_in image offset))

-- Then, for each start, rising.
abbrev pub start_lines : List ℕ → List ℕ → Verdict → List ℕ
start_lines image marks (Ok accepted) = flat_map (line_at image marks) (counting (size_of image) 0)
start_lines image marks (Err refused) = []

-- the lines of a verdict and of the marks that the check left
unfoldable pub listing : List ℕ → Verdict × List ℕ → List ℕ
listing image outcome = verdict_line outcome.0 ++ start_lines image outcome.1 outcome.0

-- no listing is longer, which is a theorem: 21 bytes for line one, and at most 35 for each of at most 4,096 code bytes
abbrev pub longest : ℕ
longest = 21 + 35 * 4096

-- Where a listing goes: the answer, the marks and the buffer after it. A buffer shorter than the longest listing is refused, and nothing changes.
unfoldable pub listed : List ℕ → List ℕ → List ℕ → Verdict × List ℕ → Result ℕ TooShort × List ℕ × List ℕ
listed image marks buffer outcome =
    let lines = listing image outcome in
    cond (ltb (length buffer) longest) (Err (record {}), marks, buffer) (Ok (length lines), outcome.1, lines ++ drop (length lines) buffer)

-- Standard input has the six limits (12 bytes, high byte first; fewer gives 1), then an image.
abbrev pub image_in : List ℕ → List ℕ
image_in input = drop 12 input

unfoldable pub checked_input : List ℕ → List ℕ → Verdict × List ℕ
checked_input input marks = cond (ltb (length input) 12) (Refused 1 0, marks) (checked (image_in input) (limits_of input) marks)
