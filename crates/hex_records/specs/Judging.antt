-- A line judged by the bytes that its characters spell: refusals 30, 31 and 32 in their order.
use Rattle.std.specs.Prelude.{ℕ, ◌+◌, ◌%◌, cond, List, [], ◌∷◌, eqb, length, get_or, take, drop}
use Rattle.numbers.specs.Checks.{first, under, unless, differ}
use Rattle.numbers.specs.Folds.{total, first_in}
use Rattle.numbers.specs.Words.{word_at}
use Rattle.hex_records.specs.Digits.{pairs, all_bytes}
use Rattle.hex_records.specs.declared.Place.{Place}
use Rattle.hex_records.specs.declared.Place.TheVariants.{First, Next, Ended}

-- the bytes of a line without its LF, none where it does not begin with a colon
unfoldable pub line_bytes : List ℕ → List ℕ
line_bytes [] = []
line_bytes (c ∷ rest) = cond (eqb c 0x3A) (pairs rest) []

-- of the bytes of a record: length, address, type, data
unfoldable pub length_in : List ℕ → ℕ
length_in bytes = get_or bytes 0 0

unfoldable pub address_in : List ℕ → ℕ
address_in bytes = word_at bytes 1

unfoldable pub type_in : List ℕ → ℕ
type_in bytes = get_or bytes 3 0

unfoldable pub data_in : List ℕ → List ℕ
data_in bytes = take (length_in bytes) (drop 4 bytes)

-- 30, malformed. By the type: a data record has a byte, the end record neither length nor address.
unfoldable pub shape_check : (type n address : ℕ) → ℕ
shape_check type n address =
    cond (eqb type 0) (under n 1 30)
    (cond (eqb type 1) (first (differ n 0 30) (differ address 0 30)) 0)

-- Every character is a digit's, the length is that of the data, and the checksum is right.
unfoldable pub form_check : List ℕ → ℕ
form_check bytes =
    first_in
    (unless (all_bytes bytes) 30 ∷
    differ (length bytes) (length_in bytes + 5) 30 ∷
    differ (total bytes % 256) 0 30 ∷
    shape_check (type_in bytes) (length_in bytes) (address_in bytes) ∷
    [])

-- Nothing comes after the end record.
unfoldable pub open_check : Place → ℕ
open_check First = 0
open_check (Next n) = 0
open_check Ended = 30

-- 32, an address that does not follow on.
unfoldable pub follow_check : Place → ℕ → ℕ
follow_check First address = 0
follow_check (Next n) address = differ address n 32
follow_check Ended address = 0

-- Order: 30, then 31, a type other than 00 and 01, then 32.
unfoldable pub line_check : Place → List ℕ → ℕ
line_check place bytes =
    first_in
    (open_check place ∷
    form_check bytes ∷
    under 1 (type_in bytes) 31 ∷
    cond (eqb (type_in bytes) 0) (follow_check place (address_in bytes)) 0 ∷
    [])

-- the place after a line that is not refused
unfoldable pub after : List ℕ → Place
after bytes = cond (eqb (type_in bytes) 0) (Next (address_in bytes + length_in bytes)) Ended
