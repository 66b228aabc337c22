-- What stands at an op-code: in a row, and on a page.
use Rattle.std.specs.Prelude.{ℕ, ◌%◌, List, get_or}
use Rattle.stm8.specs.OpcodeMap.{Page, Entry, Blank, Is, entry}
use Rattle.stm8.specs.declared.Instruction.{Instruction}

-- the instruction of an entry, or the one given where it is blank: `r ≡ or_else r e` says that r is what stands at e, if anything does
abbrev pub or_else : Instruction → Entry → Instruction
or_else i Blank = i
or_else i (Is j) = j

-- at an op-code of a row, whose low digit is the column
unfoldable pub in_row : List Entry → ℕ → Instruction → Instruction
in_row row op i = or_else i (get_or row (op % 16) Blank)

-- at an op-code of a page, with the bytes after it
unfoldable pub on_page : Page → ℕ → ℕ → ℕ → ℕ → ℕ → Instruction → Instruction
on_page page op a b c d i = or_else i (entry page op a b c d)
