-- What the parts of decoding answer: bytes on a page, by lent tables; and the lengths of a row. No public contract cites it.
use Rattle.std.specs.Prelude.{ℕ, ◌+◌, ◌*◌, List, [], ◌∷◌, map, cond, leb, length, get_or, Err}
use Rattle.stm8.specs.OpcodeMap.{Page, Is, rows}
use Rattle.stm8.specs.Decoding.{page_of, precodes, entry_in, length_of, sized, table_of, Decoded}
use Rattle.stm8.specs.declared.Instruction.{Instruction}
use Rattle.stm8.specs.declared.DecodeError.TheVariants.{Truncated}
use Rattle.opcodes.specs.Entries.{or_else}

-- the bytes on a page whose op-code has n bytes, where a blank entry counts as i
unfoldable pub decoded_or : Instruction → Page → ℕ → List ℕ → Decoded
decoded_or i page n s = cond (leb (length s) (precodes page)) (Err Truncated) (sized n (Is (or_else i (entry_in page s))) (length s))

-- the same by lent tables
unfoldable pub decoded_by_or : Instruction → List (List ℕ) → List ℕ → Decoded
decoded_by_or i tables s = let page = page_of (get_or s 0 0) in decoded_or i page (get_or (table_of tables page) (get_or s (precodes page) 0) 0) s

-- the lengths of a row of a page as one number: a digit of four bits for each column, the lowest for column 0
abbrev pub digits : List ℕ → ℕ
digits [] = 0
digits (n ∷ s) = n + 16 * digits s

unfoldable pub row_lengths : Page → ℕ → ℕ
row_lengths page row = digits (map length_of (get_or (rows page 0 0 0 0) row []))
