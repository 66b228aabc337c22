-- What the decode pass over a routine is given, and what it leaves.
use Rattle.std.specs.Prelude.{ℕ, ◌≤◌, ◌<◌, ◌≡◌, List, length}
use Rattle.image.specs.Image.{version_of, base_of, count_of, code_of, start_of, end_of}
use Rattle.image.specs.Lengths.{Begins}
use Rattle.image.specs.Rules.{ImageRules}
use Rattle.rules.specs.Refusal.{CodeFault, Lowest}
use Rattle.control_flow.specs.Graph.{column}
use Rattle.control_flow.specs.Routine as cells
use Rattle.acceptance.specs.Cells.{Filled}
use Rattle.decode_pass.specs.declared.Routine.{Routine}

-- a routine of a valid image
pub record RoutineOf (image : List ℕ) (r : Routine) : Type 0 where
  pub layout : ImageRules image
  pub inside : r.index < count_of image
  pub version_is : r.version ≡ version_of image
  pub base_is : r.base ≡ base_of image
  pub start_is : r.start ≡ start_of image r.index
  pub end_is : r.end ≡ end_of image r.index
  pub index : r.index < 32
  pub some : r.start < r.end
  pub size : r.end ≤ 4096

-- what each start is decoded by: its routine, the image's code, and where the routines before it begin
pub record Given (image code begins : List ℕ) (r : Routine) : Type 0 where
  pub routine : RoutineOf image r
  pub own : code ≡ code_of image
  pub earlier : Begins image begins r.index

-- the rows have one for each code byte of any image, and from an offset on nothing is a start yet
pub record NoStarts (from : ℕ) (rows : List (List ℕ)) : Type 0 where
  pub size : length rows ≡ 4096
  pub clear : (o : ℕ) → from ≤ o → column 0 rows o ≡ 0

-- the routine by its cells
abbrev pub cells_of : Routine → List (List ℕ) → cells.Routine
cells_of r = cells.routine r.start r.end

-- The decode pass: one start is refused and no lower one, or the cells of all of them are stored.
pub data RoutineDecoded (image : List ℕ) (r : Routine) (rows : List (List ℕ)) : ℕ → ℕ → Type 0 where
  refused : {number at : ℕ} → Lowest (CodeFault image r.index) number at → RoutineDecoded image r rows number at
  filled : {at : ℕ} → Filled image r.limits r.index (cells_of r rows) → NoStarts r.end rows → RoutineDecoded image r rows 0 at
