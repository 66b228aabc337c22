-- Decoding: what the bytes at the front of a list are.
use Rattle.std.specs.Prelude.{ℕ, ◌+◌, List, [], ◌∷◌, cond, eqb, leb, ltb, length, get_or, Result, Ok, Err}
use Rattle.numbers.specs.Computed.{table}
use Rattle.stm8.specs.OpcodeMap.{Page, Plain, After72, After90, Entry, Blank, Is, entry}
use Rattle.stm8.specs.Encoding.{bytes_of}
use Rattle.stm8.specs.declared.Instruction.{Instruction}
use Rattle.stm8.specs.declared.DecodeError.{DecodeError}
use Rattle.stm8.specs.declared.DecodeError.TheVariants.{Outside, Truncated}

-- the page that a first byte selects, and the bytes in front of its op-code
abbrev pub page_of : ℕ → Page
page_of first = cond (eqb first 0x72) After72 (cond (eqb first 0x90) After90 Plain)

abbrev pub precodes : Page → ℕ
precodes Plain = 0
precodes After72 = 1
precodes After90 = 1

-- the entry that the bytes select
abbrev pub entry_in : Page → List ℕ → Entry
entry_in page s =
    entry page (get_or s (precodes page) 0)
    (get_or s (precodes page + 1) 0) (get_or s (precodes page + 2) 0) (get_or s (precodes page + 3) 0) (get_or s (precodes page + 4) 0)

-- the length of an entry: 0 outside the set, else pre-code, op-code and operand bytes
abbrev pub length_of : Entry → ℕ
length_of Blank = 0
length_of (Is i) = length (bytes_of i)

-- the lengths of a page's 256 op-codes: that they hold whatever bytes come after is a theorem
unfoldable pub lengths : Page → List ℕ
lengths page = table (λ op. length_of (entry page op 0 0 0 0))

-- what decoding finds: an instruction and its length, or why there is none
abbrev pub Decoded : Type 0
Decoded = Result (Instruction × ℕ) DecodeError

-- an entry of n bytes: outside the set, or cut short where there are fewer bytes, or found
abbrev pub found_as : ℕ → Entry → Decoded
found_as n Blank = Err Outside
found_as n (Is i) = Ok (i, n)

abbrev pub sized : ℕ → Entry → ℕ → Decoded
sized n e room = cond (eqb n 0) (Err Outside) (cond (ltb room n) (Err Truncated) (found_as n e))

-- the bytes on a page whose entry has n bytes; bytes that end before an op-code, none at all or a pre-code alone, are cut short too
abbrev pub decoded_in : Page → ℕ → List ℕ → Decoded
decoded_in page n s = cond (leb (length s) (precodes page)) (Err Truncated) (sized n (entry_in page s) (length s))

-- what the bytes are
unfoldable pub decoded : List ℕ → Decoded
decoded s = let page = page_of (get_or s 0 0) in decoded_in page (length_of (entry_in page s)) s

-- what they are by three tables of lengths, one for each page
abbrev pub table_of : List (List ℕ) → Page → List ℕ
table_of tables Plain = get_or tables 0 []
table_of tables After72 = get_or tables 1 []
table_of tables After90 = get_or tables 2 []

unfoldable pub decoded_by : List (List ℕ) → List ℕ → Decoded
decoded_by tables s = let page = page_of (get_or s 0 0) in decoded_in page (get_or (table_of tables page) (get_or s (precodes page) 0) 0) s

-- the tables of the map's own lengths
abbrev pub map_lengths : List (List ℕ)
map_lengths = lengths Plain ∷ lengths After72 ∷ lengths After90 ∷ []

-- document 01's number of an answer, 0 for an instruction
abbrev pub decoding_number : Decoded → ℕ
decoding_number (Ok (i, n)) = 0
decoding_number (Err Outside) = 8
decoding_number (Err Truncated) = 9
