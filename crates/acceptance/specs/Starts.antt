-- The cells of a routine's instructions.
use Rattle.std.specs.Prelude.{ℕ, ◌+◌, Bool, true, false, cond, List, [], ◌∷◌, eqb, ltb, Ok, Err}
use Rattle.numbers.specs.Bits.{flag}
use Rattle.numbers.specs.Checks.{unless}
use Rattle.stm8.specs.Decoding.{Decoded}
use Rattle.stm8.specs.Effects.{effect}
use Rattle.stm8.specs.declared.DecodeError.TheVariants.{Outside, Truncated}
use Rattle.stm8.specs.declared.Effect.{Effect}
use Rattle.image.specs.declared.Limits.{Limits}
use Rattle.image.specs.Image.{base_of, start_of, end_of}
use Rattle.code.specs.Depth.{popped, pushed, falls}
use Rattle.code.specs.Code.{instruction_at}
use Rattle.code.specs.Instructions.{starts_of}
use Rattle.control_flow.specs.Routine.{Routine}
use Rattle.acceptance.specs.Cells.{fall_cell, jump_cell, store_cell, call_cell}

-- whether a list has a number
unfoldable pub listed : ℕ → List ℕ → Bool
listed o [] = false
listed o (s ∷ rest) = cond (eqb o s) true (listed o rest)

-- 8, 9 or 15 at an offset
abbrev pub code_number : ℕ → ℕ → Decoded → ℕ
code_number end o (Ok (i, n)) = cond (falls (effect i).flow) (unless (ltb (o + n) end) 15) 0
code_number end o (Err Outside) = 8
code_number end o (Err Truncated) = 9

-- a cell by the effect of the instruction at an offset, and by the offset after it; 0 where there is none
abbrev pub cell_at : (Effect → ℕ → ℕ) → ℕ → Decoded → ℕ
cell_at cell o (Ok (i, n)) = cell (effect i) (o + n)
cell_at cell o (Err e) = 0

abbrev pub cells_of : List ℕ → Limits → ℕ → Routine
cells_of image limits r =
    record {
      graph =
          record {
            entry = start_of image r;
            falls = λ o. cell_at (λ e next. fall_cell e.flow next) o (instruction_at image r o);
            jumps = λ o. cell_at (λ e next. jump_cell (base_of image) (start_of image r) (end_of image r) next e.flow) o (instruction_at image r o);
            pops = λ o. cell_at (λ e next. popped e) o (instruction_at image r o);
            pushes = λ o. cell_at (λ e next. pushed e) o (instruction_at image r o);
          };
      end = end_of image r;
      starts = λ o. flag (listed o (starts_of image r));
      stores = λ o. cell_at (λ e next. store_cell limits e.place) o (instruction_at image r o);
      calls = λ o. cell_at (λ e next. call_cell image r next e.flow) o (instruction_at image r o);
    }
