-- What the private functions of the check by cells ask of each other, beside what control_flow says. No public contract cites it.
use Rattle.std.specs.Prelude.{◌≡◌, ℕ, ◌+◌, ◌-◌, ◌≤◌, IfSome, List, length, slice_index}
use Rattle.control_flow.specs.Graph.{column}
use Rattle.control_flow.specs.Routine.{Routine, jump_number, depth_number, depth_check}
use Rattle.control_flow.specs.Outcome.{Measured}
use Rattle.control_flow.specs.Exploring.{known, Tested}
use Rattle.control_flow.specs.Measuring.{greatest_use}
use Rattle.flow_check.specs.declared.spans.Exploration.{Exploration}
use Rattle.flow_check.specs.declared.spans.Stop.{Stop}

-- the jump of an offset, if it has one, goes to a start
abbrev pub Lands : List (List ℕ) → ℕ → Type 0
Lands rows o = jump_number (column 0 rows) (column 2 rows o) ≡ 0

-- an edge that can be followed: it stays below offset 4096, its depth is no 0, and no more offsets are on the stack than have a known depth
pub record Followable (to depth : ℕ) (depths stack : List ℕ) (height : ℕ) : Type 0 where
  pub high : to ≤ 4096
  pub some : 1 ≤ depth
  pub cells : length depths ≡ 4096
  pub slots : length stack ≡ 4096
  pub room : height ≤ known depths

-- a stop is what is on top of the stack, at its depth
pub record OnTop (depths stack : List ℕ) (height : ℕ) (stop : Stop) : Type 0 where
  pub at : slice_index stack (height - 1) ≡ stop.at
  pub depth : slice_index depths stop.at ≡ stop.depth

-- what is said to have been put on the stack last is on top of it, at its depth
abbrev pub Noted : List ℕ → List ℕ → Exploration → Type 0
Noted depths stack e = IfSome e.newest (OnTop depths stack e.height)

-- 11, 12 or 14 by the row of an instruction, and what it uses
abbrev pub row_number : ℕ → ℕ → List ℕ → ℕ
row_number bias held row =
    depth_number bias held (slice_index row 1) (slice_index row 2) (slice_index row 3) (slice_index row 4) (slice_index row 5) (slice_index row 6)

abbrev pub row_use : ℕ → List ℕ → List ℕ → ℕ
row_use depth row needs = greatest_use depth (slice_index row 3) (slice_index row 4) (slice_index row 6) needs

-- the depths before and behind an instruction are not below 0, and its call is of a routine
pub record Usable (depth : ℕ) (row : List ℕ) : Type 0 where
  pub small : depth ≤ 65535
  pub behind : slice_index row 3 ≤ depth + slice_index row 4
  pub call : slice_index row 6 ≤ 32

-- the depth pass: 11, 12 or 14 fails first at a start, or all starts pass and are measured
pub record DepthsTested (x : Routine) (needs : List ℕ) (bias : ℕ) (held : ℕ → ℕ) (given : List ℕ) (counted : ℕ)
    (number at : ℕ) (marks : List ℕ) (need count : ℕ) : Type 0 where
  pub tested : Tested x (depth_check x bias held) number at
  pub measured : number ≡ 0 → Measured x needs bias held given marks counted need count
