-- What the private functions of the decode pass ask of each other. No public contract cites it.
use Rattle.std.specs.Prelude.{ℕ, ◌+◌, ◌≤◌, ◌<◌, ◌≡◌, ◌⊎◌, Bool, true, false, List, [], ◌∷◌, Ok}
use Rattle.stm8.specs.Effects.{effect}
use Rattle.stm8.specs.declared.Instruction.{Instruction}
use Rattle.stm8.specs.declared.Effect.{Effect}
use Rattle.stm8.specs.declared.Flow.{Flow}
use Rattle.image.specs.Image.{base_of, start_of, end_of}
use Rattle.image.specs.declared.Limits.{Limits}
use Rattle.code.specs.Depth.{popped, pushed, falls}
use Rattle.code.specs.Code.{instruction_at, Start}
use Rattle.rules.specs.Refusal.{CodeFault}
use Rattle.control_flow.specs.Graph.{column}
use Rattle.acceptance.specs.Cells.{fall_cell, jump_cell, store_cell, call_cell, Stored}
use Rattle.decode_pass.specs.Pass.{NoStarts, cells_of}
use Rattle.decode_pass.specs.declared.Routine.{Routine}

-- control falls off the routine, or what it falls to lies inside
pub record OffEnd (end next : ℕ) (flow : Flow) (off : Bool) : Type 0 where
  pub past : off ≡ true → (falls flow ≡ true) × (end ≤ next)
  pub inside : off ≡ false → falls flow ≡ true → next < end

-- the row of a start of routine r whose instruction has this effect and ends at `next`
abbrev pub row_of : List ℕ → Limits → ℕ → ℕ → Effect → List ℕ
row_of image limits r next e =
    1 ∷ fall_cell e.flow next ∷ jump_cell (base_of image) (start_of image r) (end_of image r) next e.flow ∷ popped e ∷ pushed e ∷
    store_cell limits e.place ∷ call_cell image r next e.flow ∷ []

-- an offset of a routine, where the arrays have room for the routine's offsets and its place in the table
pub record Small (r : Routine) (at : ℕ) : Type 0 where
  pub low : r.start ≤ at
  pub high : at < r.end
  pub size : r.end ≤ 4096
  pub index : r.index ≤ 32

-- the offset after an instruction of a routine, where its cells have room for the routine's offsets and its place in the table
pub record Room (r : Routine) (next : ℕ) : Type 0 where
  pub next_most : next ≤ 4096
  pub start_most : r.start ≤ 4096
  pub end_most : r.end ≤ 4096
  pub index_most : r.index ≤ 32

-- One start: 8, 9 or 15, or where the next one is, and its row.
pub data StartDecoded (image : List ℕ) (r : Routine) (at : ℕ) : ℕ → ℕ → List ℕ → Type 0 where
  faulty : {number next : ℕ} {row : List ℕ} → CodeFault image r.index at number → StartDecoded image r at number next row
  whole : {i : Instruction} {n : ℕ} {row : List ℕ} → instruction_at image r.index at ≡ Ok (i, n) →
      (falls (effect i).flow ≡ true → at + n < end_of image r.index) → row ≡ row_of image r.limits r.index (at + n) (effect i) →
      StartDecoded image r at 0 (at + n) row

-- the starts of a routine below an offset are decoded and stored
pub record DecodedTo (image : List ℕ) (r : Routine) (rows : List (List ℕ)) (at : ℕ) : Type 0 where
  pub place : Start image r.index at ⊎ (at ≡ end_of image r.index)
  pub stored : (o : ℕ) → Start image r.index o → o < at → (1 ≤ column 0 rows o) × Stored image r.limits r.index (cells_of r rows) o
  pub exact : (o : ℕ) → start_of image r.index ≤ o → o < at → 1 ≤ column 0 rows o → Start image r.index o
  pub rest : NoStarts at rows
