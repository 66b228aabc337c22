-- A record of Intel HEX: its bytes, and its line as it is written.
use Rattle.std.specs.Prelude.{ℕ, ◌-◌, ◌%◌, List, [], ◌∷◌, ◌++◌, length}
use Rattle.numbers.specs.Folds.{total}
use Rattle.numbers.specs.Words.{high, low}
use Rattle.hex_records.specs.Digits.{spelled}

-- the byte that brings the sum of a record's bytes to 0, modulo 256
unfoldable pub checksum : List ℕ → ℕ
checksum bytes = (256 - total bytes % 256) % 256

-- the number of data bytes, the address, the type, the data, and the checksum of all these
unfoldable pub record_front : (address type : ℕ) (contents : List ℕ) → List ℕ
record_front address type contents = length contents ∷ high address ∷ low address ∷ type ∷ contents

unfoldable pub record_bytes : (address type : ℕ) (contents : List ℕ) → List ℕ
record_bytes address type contents = record_front address type contents ++ checksum (record_front address type contents) ∷ []

-- a colon and the digits of the bytes; then LF
unfoldable pub line_body : (address type : ℕ) (contents : List ℕ) → List ℕ
line_body address type contents = 0x3A ∷ spelled (record_bytes address type contents)

unfoldable pub line : (address type : ℕ) (contents : List ℕ) → List ℕ
line address type contents = line_body address type contents ++ 0x0A ∷ []
