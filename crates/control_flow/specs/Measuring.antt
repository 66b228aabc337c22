-- What the functions of the depth pass ask and do: 11, 12 and 14, and the need, the count and the marks. No public definition cites it.
use Rattle.std.specs.Prelude.{ℕ, ◌+◌, ◌-◌, ◌≤◌, max, ◌≡◌, cond, List, eqb, length, get_or, set}
use Rattle.control_flow.specs.Routine.{Routine, Start, depth_check}

-- what a call from a depth uses, by its cell
unfoldable pub call_use : ℕ → ℕ → List ℕ → ℕ
call_use depth call needs = cond (eqb call 0) 0 (depth + 2 + get_or needs (call - 1) 0)

-- the most that an instruction at a depth uses: the bytes before it, those behind it, and those of a call
unfoldable pub greatest_use : ℕ → ℕ → ℕ → ℕ → List ℕ → ℕ
greatest_use depth pops pushes call needs = max (max depth (depth + pushes - pops)) (call_use depth call needs)

abbrev pub use_at : Routine → List ℕ → ℕ → (ℕ → ℕ) → ℕ → ℕ
use_at x needs bias held o = greatest_use (held o - bias) (x.graph.pops o) (x.graph.pushes o) (x.calls o) needs

-- One offset: it is no start, or its check fails, or it gets its mark, its use is taken in, and it is counted.
pub data DepthStep (x : Routine) (needs : List ℕ) (bias : ℕ) (held : ℕ → ℕ) (given : List ℕ) (at need count : ℕ) :
    ℕ → ℕ → List ℕ → ℕ → ℕ → Type 0 where
  skips : x.starts at ≡ 0 → DepthStep x needs bias held given at need count 0 (at + 1) given need count
  refuses : {number : ℕ} → 1 ≤ x.starts at → number ≡ depth_check x bias held at → 1 ≤ number →
      DepthStep x needs bias held given at need count number at given need count
  measures : 1 ≤ x.starts at → depth_check x bias held at ≡ 0 →
      DepthStep x needs bias held given at need count 0 (at + 1) (set given at (held at - bias + 1)) (max need (use_at x needs bias held at)) (count + 1)

-- what the depth pass asks: it begins at depth 0, and there is a mark for each byte
pub record Measurable (x : Routine) (bias : ℕ) (held : ℕ → ℕ) (marks : List ℕ) (counted : ℕ) : Type 0 where
  pub size : x.end ≤ 4096
  pub entry : Start x x.graph.entry
  pub zero : held x.graph.entry ≡ bias
  pub room : x.end ≤ length marks
  pub counted_low : counted ≤ x.graph.entry
