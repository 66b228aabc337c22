-- What the check of a routine by its cells finds, from 13 and 10 on: the first fault, or the need and the marks; and what it asks and leaves.
use Rattle.std.specs.Prelude.{ℕ, ◌+◌, ◌-◌, ◌≤◌, ◌<◌, ◌≡◌, ◌⊎◌, List, length, get_or}
use Rattle.control_flow.specs.Graph.{Reached, Path, Disagree}
use Rattle.control_flow.specs.Routine.{Routine, Start, Decoded, jump_check, depth_check, Uses, count_from}

-- a check fails first at a start, with its number
pub record First (x : Routine) (check : ℕ → ℕ) (number at : ℕ) : Type 0 where
  pub start : Start x at
  pub is : number ≡ check at
  pub some : 1 ≤ number
  pub lower : (o : ℕ) → o < at → Start x o → check o ≡ 0

-- a check passes at every start
abbrev pub Passes : Routine → (ℕ → ℕ) → Type 0
Passes x check = (o : ℕ) → Start x o → check o ≡ 0

abbrev pub AllReached : Routine → Type 0
AllReached x = (o : ℕ) → Start x o → Reached x.graph o

-- what is held at an offset is the depth of every path to it
abbrev pub Held : Routine → ℕ → (ℕ → ℕ) → Type 0
Held x bias held = (o pushed popped : ℕ) → Path x.graph o pushed popped → held o + popped ≡ bias + pushed

-- A routine that passes: its need is the greatest of what its instructions use, its starts are counted, and each start's mark holds depth + 1. No
-- other mark changes.
pub record Measured (x : Routine) (needs : List ℕ) (bias : ℕ) (held : ℕ → ℕ) (given marks : List ℕ) (counted need count : ℕ) : Type 0 where
  pub attained : (o : ℕ) × Start x o × Uses x needs bias held o need
  pub bounds : (o v : ℕ) → Start x o → Uses x needs bias held o v → v ≤ need
  pub number : count ≡ counted + count_from x.starts x.graph.entry (x.end - x.graph.entry)
  pub size : length marks ≡ length given
  pub starts : (o : ℕ) → Start x o → get_or marks o 0 + bias ≡ held o + 1
  pub others : (o : ℕ) → Start x o ⊎ (get_or marks o 0 ≡ get_or given o 0)

-- `given` and `counted` are the marks and the count before the routine.
pub data FlowOutcome (x : Routine) (needs given : List ℕ) (counted : ℕ) : ℕ → ℕ → List ℕ → ℕ → ℕ → Type 0 where
  strayed : {number at need count : ℕ} {marks : List ℕ} → First x (jump_check x) number at → FlowOutcome x needs given counted number at marks need count
  unreached : {at need count : ℕ} {marks : List ℕ} → Passes x (jump_check x) → Start x at → (Reached x.graph at → ⊥) →
      ((o : ℕ) → o < at → Start x o → Reached x.graph o) → FlowOutcome x needs given counted 6 at marks need count
  disagreeing : {need count : ℕ} {marks : List ℕ} → Passes x (jump_check x) → AllReached x → Disagree x.graph →
      FlowOutcome x needs given counted 7 x.graph.entry marks need count
  misused : {number at need count : ℕ} {marks : List ℕ} → Passes x (jump_check x) → AllReached x → (bias : ℕ) (held : ℕ → ℕ) → Held x bias held →
      First x (depth_check x bias held) number at → FlowOutcome x needs given counted number at marks need count
  passing : {at need count : ℕ} {marks : List ℕ} → Passes x (jump_check x) → AllReached x → (bias : ℕ) (held : ℕ → ℕ) → Held x bias held →
      Passes x (depth_check x bias held) → Measured x needs bias held given marks counted need count →
      FlowOutcome x needs given counted 0 at marks need count

-- What the check of a routine asks: it is decoded, and none of its depths is known yet.
pub record Checkable (x : Routine) (depths stack : List ℕ) : Type 0 where
  pub decoded : Decoded x
  pub cells : length depths ≡ 4096
  pub slots : length stack ≡ 4096
  pub clear : (o : ℕ) → Start x o → get_or depths o 0 ≡ 0

-- What it leaves in the arrays that the next routine is checked with: no depth but those of the routine's starts changes.
pub record Left (x : Routine) (before depths stack : List ℕ) : Type 0 where
  pub cells : length depths ≡ 4096
  pub slots : length stack ≡ 4096
  pub others : (o : ℕ) → Start x o ⊎ (get_or depths o 0 ≡ get_or before o 0)
