-- The instructions that an image may use, by its version.
use Rattle.std.specs.Prelude.{ℕ, Bool, true, false, cond, not, List, [], ◌∷◌, eqb, get_or}
use Rattle.numbers.specs.Computed.{table}
use Rattle.stm8.specs.OpcodeMap.{Page, Plain, After72, After90, Entry, Blank, Is, entry}
use Rattle.stm8.specs.Decoding.{page_of, entry_in, length_of, decoded_in, Decoded}
use Rattle.stm8.specs.Effects.{effect}
use Rattle.stm8.specs.declared.Instruction.{Instruction}
use Rattle.stm8.specs.declared.Flow.{Flow}
use Rattle.stm8.specs.declared.Flow.TheVariants.{Next, Branch, Jump, Call, CallRelative, Return}

-- CALLR is the one relative call
abbrev pub is_callr : Flow → Bool
is_callr Next = false
is_callr (Branch n) = false
is_callr (Jump n) = false
is_callr (Call a) = false
is_callr (CallRelative n) = true
is_callr Return = false

-- version 0001 has the whole gate set; version 0002 leaves CALLR out
abbrev pub allowed : ℕ → Instruction → Bool
allowed version i = cond (is_callr (effect i).flow) (not (eqb version 0x0002)) true

-- an entry of the op-code map, blank where the version leaves its instruction out
abbrev pub entry_for : ℕ → Entry → Entry
entry_for version Blank = Blank
entry_for version (Is i) = cond (allowed version i) (Is i) Blank

-- what bytes are in an image of a version
unfoldable pub decoded_for : ℕ → List ℕ → Decoded
decoded_for version s = let page = page_of (get_or s 0 0) in decoded_in page (length_of (entry_for version (entry_in page s))) s

-- the lengths of a version's op-codes, a table for each page: that decoding goes by them is a theorem
abbrev pub page_lengths : ℕ → Page → List ℕ
page_lengths version page = table (λ op. length_of (entry_for version (entry page op 0 0 0 0)))

unfoldable pub lengths_for : ℕ → List (List ℕ)
lengths_for version = page_lengths version Plain ∷ page_lengths version After72 ∷ page_lengths version After90 ∷ []
