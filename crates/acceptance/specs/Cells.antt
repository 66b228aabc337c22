-- The cells that the check by cells goes by, for the instructions of a routine of an image. Nobody has to believe them: they are
-- tied to the rules by theorems.
use Rattle.std.specs.Prelude.{ℕ, ◌+◌, ◌-◌, ◌<◌, ◌≡◌, true, cond, List, eqb, ltb, Ok}
use Rattle.std.proofs.Math.Option.{Option, none, some}
use Rattle.stm8.specs.Effects.{jump_target, call_target, bytes_wide, effect}
use Rattle.stm8.specs.declared.Instruction.{Instruction}
use Rattle.stm8.specs.declared.Place.{Place}
use Rattle.stm8.specs.declared.Place.TheVariants.{Nowhere, Direct, OnStack, Pushed}
use Rattle.stm8.specs.declared.Flow.{Flow}
use Rattle.image.specs.declared.Limits.{Limits}
use Rattle.image.specs.Image.{base_of, start_of, end_of}
use Rattle.image.specs.Access.{granted}
use Rattle.code.specs.Depth.{popped, pushed, falls}
use Rattle.code.specs.Code.{instruction_at, Start}
use Rattle.rules.specs.Paths.{callee}
use Rattle.control_flow.specs.Routine as cells

-- 1 + the offset that control falls to, 0 where it does not fall
abbrev pub fall_cell : Flow → ℕ → ℕ
fall_cell flow next = cond (falls flow) (next + 1) 0

-- 1 + the offset of an address of the routine, 65535 for any other
unfoldable pub target_cell : ℕ → ℕ → ℕ → ℕ → ℕ
target_cell base start end address = cond (ltb address (base + start)) 65535 (cond (ltb address (base + end)) (address - base + 1) 65535)

-- the same of a jump's target, 0 where there is no jump
abbrev pub cell_of : (ℕ → ℕ) → Option ℕ → ℕ
cell_of cell none = 0
cell_of cell (some address) = cell address

abbrev pub jump_cell : ℕ → ℕ → ℕ → ℕ → Flow → ℕ
jump_cell base start end next flow = cell_of (target_cell base start end) (jump_target (base + next) flow)

-- the least depth at which a store is allowed, 256 where it is at none
unfoldable pub store_cell : Limits → Place → ℕ
store_cell limits Nowhere = 0
store_cell limits (Direct a w) = cond (granted limits a (bytes_wide w)) 0 256
store_cell limits (OnStack f w) = cond (eqb f 0) 256 (f + (bytes_wide w - 1))
store_cell limits (Pushed w) = 0

-- 1 + the callee's place, 255 where it is no earlier routine
unfoldable pub callee_cell : List ℕ → ℕ → ℕ → ℕ
callee_cell image r address = cond (ltb (callee image r address) r) (callee image r address + 1) 255

-- the same of a call, 0 where there is none
abbrev pub call_cell : List ℕ → ℕ → ℕ → Flow → ℕ
call_cell image r next flow = cell_of (callee_cell image r) (call_target (base_of image + next) flow)

-- the cells of a start that passes 8, 9 and 15
pub record Stored (image : List ℕ) (limits : Limits) (r : ℕ) (x : cells.Routine) (o : ℕ) : Type 0 where
  pub instruction : Instruction
  pub size : ℕ
  pub found : instruction_at image r o ≡ Ok (instruction, size)
  pub inside : falls (effect instruction).flow ≡ true → o + size < end_of image r
  pub fall : x.graph.falls o ≡ fall_cell (effect instruction).flow (o + size)
  pub jump : x.graph.jumps o ≡ jump_cell (base_of image) (start_of image r) (end_of image r) (o + size) (effect instruction).flow
  pub pop : x.graph.pops o ≡ popped (effect instruction)
  pub push : x.graph.pushes o ≡ pushed (effect instruction)
  pub store : x.stores o ≡ store_cell limits (effect instruction).place
  pub call : x.calls o ≡ call_cell image r (o + size) (effect instruction).flow

-- the cells of a routine whose starts all pass 8, 9 and 15
pub record Filled (image : List ℕ) (limits : Limits) (r : ℕ) (x : cells.Routine) : Type 0 where
  pub entry : x.graph.entry ≡ start_of image r
  pub end : x.end ≡ end_of image r
  pub start : (o : ℕ) → cells.Start x o → Start image r o
  pub starts : (o : ℕ) → Start image r o → cells.Start x o
  pub cells : (o : ℕ) → Start image r o → Stored image limits r x o
