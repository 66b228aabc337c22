-- A saved state: registers and steps as SLS, high bytes first. Version 0001 has 19 bytes, version 0002 has 23; only 0002 is written.
use Rattle.std.specs.Prelude.{ℕ, zero, suc, ◌+◌, ◌*◌, ◌/◌, ◌%◌, Bool, true, cond, List, [], ◌∷◌, ◌++◌, eqb, length, get_or, take, replicate}
use Rattle.numbers.specs.Ascii.{ascii}
use Rattle.numbers.specs.Checks.{under, unless, differ}
use Rattle.numbers.specs.Folds.{first_in}
use Rattle.numbers.specs.Lists.{same}
use Rattle.numbers.specs.Words.{high, low, word_at}
use Rattle.execution.specs.declared.Registers.{Registers}
use Rattle.saved_state.specs.declared.Saved.{Saved}
use Rattle.saved_state.specs.declared.SavedState.{SavedState}

-- the versions, and how many bytes each has for the steps: 32 bits, and 64
abbrev pub known : ℕ → Bool
known version = cond (eqb version 0x0001) true (eqb version 0x0002)

abbrev pub step_bytes : ℕ → ℕ
step_bytes version = cond (eqb version 0x0001) 4 8

-- the two bytes of a word, and a number as so many bytes
abbrev pub word_bytes : ℕ → List ℕ
word_bytes w = high w ∷ low w ∷ []

unfoldable pub number_bytes : ℕ → ℕ → List ℕ
number_bytes zero n = []
number_bytes (suc width) n = number_bytes width (n / 256) ++ (n % 256 ∷ [])

-- the number in so many bytes; a byte past the end counts as 0
unfoldable pub number_at : List ℕ → ℕ → ℕ → ℕ
number_at bytes at zero = 0
number_at bytes at (suc width) = number_at bytes at width * 256 + get_or bytes (at + width) 0

-- SLS, the version, PC and SP (16 bits each), A, X, Y, CC, and steps.
unfoldable pub state_bytes : ℕ → Registers → ℕ → List ℕ
state_bytes version regs steps =
    ascii "SLS" ++ word_bytes version ++ word_bytes regs.pc ++ word_bytes regs.sp ++ (regs.a ∷ []) ++ word_bytes regs.x ++
    word_bytes regs.y ++ (regs.cc ∷ []) ++ number_bytes (step_bytes version) steps

-- 35, a PC above FFFF.
unfoldable pub saving_number : Registers → ℕ
saving_number regs = under 0xFFFF regs.pc 35

-- Saving: 0 and the bytes of version 0002, or 35 and bytes all 00.
unfoldable pub saved : Registers → ℕ → Saved
saved regs steps =
    let number = saving_number regs in
    record { number = number; bytes = cond (eqb number 0) (state_bytes 0x0002 regs steps) (replicate 23 0) }

-- the version that bytes say
abbrev pub version_of : List ℕ → ℕ
version_of bytes = word_at bytes 3

-- 34, a wrong length, mark or version.
unfoldable pub saved_check : List ℕ → ℕ
saved_check bytes =
    first_in
    (differ (length bytes) (15 + step_bytes (version_of bytes)) 34 ∷
    unless (same (take 3 bytes) (ascii "SLS")) 34 ∷
    unless (known (version_of bytes)) 34 ∷
    [])

-- the state that bytes say
unfoldable pub state_in : List ℕ → SavedState
state_in bytes =
    record {
      registers =
          record {
            a = get_or bytes 9 0;
            x = word_at bytes 10;
            y = word_at bytes 12;
            cc = get_or bytes 14 0;
            sp = word_at bytes 7;
            pc = word_at bytes 5;
          };
      steps = number_at bytes 15 (step_bytes (version_of bytes));
    }
