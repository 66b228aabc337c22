-- A routine by its cells, and the tests that go by them.
use Rattle.std.specs.Prelude.{ℕ, zero, suc, ◌+◌, ◌-◌, ◌≤◌, ◌<◌, ◌≡◌, cond, List, [], ◌∷◌, eqb, ltb, get_or}
use Rattle.numbers.specs.Bits.{flag}
use Rattle.numbers.specs.Checks.{both, under, differ}
use Rattle.numbers.specs.Folds.{first_in}
use Rattle.control_flow.specs.Graph.{Graph, graph, column, Edge}

-- Beside its graph: the offset past its last byte; whether an instruction begins at an offset (not 0); the least depth at which the instruction's
-- store is allowed (above 255: at none); and 1 + the callee's place in the table (0: no call; above 32: the call goes to no earlier routine).
pub record Routine : Type 0 where
  pub graph : Graph
  pub end : ℕ
  pub starts : ℕ → ℕ
  pub stores : ℕ → ℕ
  pub calls : ℕ → ℕ

abbrev pub routine : ℕ → ℕ → List (List ℕ) → Routine
routine entry end rows =
    record { graph = graph entry rows; end = end; starts = column 0 rows; stores = column 5 rows; calls = column 6 rows }

-- offset o is a start of the routine
pub record Start (x : Routine) (o : ℕ) : Type 0 where
  pub low : x.graph.entry ≤ o
  pub high : o < x.end
  pub is : 1 ≤ x.starts o

-- What 8, 9 and 15 make sure of: the routine begins with a start, and from a start control falls on starts. A jump's cell names an offset of the
-- routine or is above 4096.
pub record Decoded (x : Routine) : Type 0 where
  pub size : x.end ≤ 4096
  pub entry : Start x x.graph.entry
  pub falls : (o to : ℕ) → Start x o → x.graph.falls o ≡ to + 1 → Start x to
  pub jumps : (o to : ℕ) → Start x o → x.graph.jumps o ≡ to + 1 → to < 4096 → (x.graph.entry ≤ to) × (to < x.end)

-- 13 where a jump's cell names no offset of the routine, 10 where it names no start
unfoldable pub jump_number : (ℕ → ℕ) → ℕ → ℕ
jump_number starts cell = cond (eqb cell 0) 0 (cond (ltb 4096 cell) 13 (cond (eqb (starts (cell - 1)) 0) 10 0))

abbrev pub jump_check : Routine → ℕ → ℕ
jump_check x o = jump_number x.starts (x.graph.jumps o)

-- what 13 and 10 make sure of beside that: control stays on the routine's starts
pub record WellFormed (x : Routine) : Type 0 where
  pub size : x.end ≤ 4096
  pub entry : Start x x.graph.entry
  pub edges : (o to : ℕ) → Start x o → Edge x.graph o to → Start x to

-- A depth may be below 0, so it is held as a number above or below another one that stands for depth 0, its `bias`.
-- 11: the depth is from 0 to 255 before the instruction and after it, and 0 where control does not go on (RET); 12: the store's least depth is more;
-- 14: a call to no earlier routine
unfoldable pub depth_number : ℕ → ℕ → ℕ → ℕ → ℕ → ℕ → ℕ → ℕ → ℕ
depth_number bias held falls jumps pops pushes store call =
    first_in
    (under held bias 11 ∷
    under (bias + 255) held 11 ∷
    under (held + pushes) (bias + pops) 11 ∷
    under (bias + 255 + pops) (held + pushes) 11 ∷
    both (under falls 1 11) (both (under jumps 1 11) (differ held bias 11)) ∷
    under held (bias + store) 12 ∷
    under 32 call 14 ∷
    [])

abbrev pub depth_check : Routine → ℕ → (ℕ → ℕ) → ℕ → ℕ
depth_check x bias held o =
    depth_number bias (held o) (x.graph.falls o) (x.graph.jumps o) (x.graph.pops o) (x.graph.pushes o) (x.stores o) (x.calls o)

-- the stack bytes that the instruction at an offset has the routine use: those before it, those behind it, and at a call 2 more and the callee's need
pub data Uses (x : Routine) (needs : List ℕ) (bias : ℕ) (held : ℕ → ℕ) (o : ℕ) : ℕ → Type 0 where
  before : {v : ℕ} → v + bias ≡ held o → Uses x needs bias held o v
  behind : {v : ℕ} → v + bias + x.graph.pops o ≡ held o + x.graph.pushes o → Uses x needs bias held o v
  calling : {v : ℕ} (k : ℕ) → x.calls o ≡ k + 1 → v + bias ≡ held o + 2 + get_or needs k 0 → Uses x needs bias held o v

-- how many of n offsets from an offset on are starts
unfoldable pub count_from : (ℕ → ℕ) → ℕ → ℕ → ℕ
count_from starts from zero = 0
count_from starts from (suc n) = count_from starts from n + flag (ltb 0 (starts (from + n)))
