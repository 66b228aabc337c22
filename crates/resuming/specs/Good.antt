-- Whether a saved state may be resumed.
use Rattle.std.specs.Prelude.{ℕ, List}
use Rattle.image.specs.declared.Limits.{Limits}
use Rattle.execution.specs.declared.Registers.{Registers}
use Rattle.acceptance.specs.Passed.{depth_in}
use Rattle.gate.specs.History.{Book, Point}
use Rattle.gate.specs.GoodPoint.{GoodPoint}

-- a list of steps and runs begins at registers and a memory, with a book of calls
abbrev pub point_at : Registers → List ℕ → Book → Point
point_at regs memory book = record { state = record { registers = regs; memory = memory }; book = book }

-- They are good, at the depths that an accepting check leaves in the marks, where they are a good point with some book. There is one such book only:
-- `one_book`.
abbrev pub Good : List ℕ → Limits → List ℕ → Registers → List ℕ → Type 0
Good image limits marks regs memory = (book : Book) × GoodPoint image limits (depth_in marks) (point_at regs memory book)
