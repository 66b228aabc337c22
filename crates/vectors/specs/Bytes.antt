-- Registers and memory as bytes, numbers high byte first.
use Rattle.std.specs.Prelude.{ℕ, ◌+◌, ◌*◌, List, [], ◌∷◌, get_or, set}
use Rattle.numbers.specs.Words.{word, word_at}
use Rattle.execution.specs.declared.Registers.{Registers}

-- a number of 32 bits
abbrev pub long_at : List ℕ → ℕ → ℕ
long_at bytes at = word_at bytes at * 65536 + word_at bytes (at + 2)

-- A, X, Y, CC, SP and the three bytes of PC
abbrev pub registers_of : List ℕ → Registers
registers_of s =
    record {
      a = get_or s 0 0;
      x = word_at s 1;
      y = word_at s 3;
      cc = get_or s 5 0;
      sp = word_at s 6;
      pc = get_or s 8 0 * 65536 + word_at s 9;
    }

-- memory with cells put in, one after the other: the two bytes of an address and the byte there
unfoldable pub with_cells : List ℕ → List ℕ → List ℕ
with_cells memory [] = memory
with_cells memory (h ∷ []) = memory
with_cells memory (h ∷ l ∷ []) = memory
with_cells memory (h ∷ l ∷ byte ∷ cells) = with_cells (set memory (word h l) byte) cells
