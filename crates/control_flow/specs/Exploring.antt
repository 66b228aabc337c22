-- What each function of the check by cells asks and does. No public definition cites it.
use Rattle.std.specs.Prelude.{ℕ, zero, suc, ◌+◌, ◌≤◌, ◌<◌, ◌≡◌, ◌⊎◌, Bool, true, false, List, [], ◌∷◌, length, get_or, set}
use Rattle.control_flow.specs.Graph.{Graph, Reached, Path, Disagree}
use Rattle.control_flow.specs.Routine.{Routine, Start}
use Rattle.control_flow.specs.Outcome.{First, Passes}

-- A depth is held as depth + 2^29 in 32 bits. A path that passes no offset twice has a depth of less than 4,096 · 65,535 < 2^28 either way, so what is
-- held is never 0, and 0 alone means not reached.
abbrev pub middle : ℕ
middle = 536870912

-- the depth at an offset is known
abbrev pub Known : List ℕ → ℕ → Type 0
Known depths o = 1 ≤ get_or depths o 0

-- at how many it is
unfoldable pub known : List ℕ → ℕ
known [] = 0
known (zero ∷ depths) = known depths
known (suc d ∷ depths) = suc (known depths)

-- One edge is followed, to `to` - 1, or nowhere where `to` is 0: a target whose depth is not known yet gets it and goes on the stack.
pub data Followed (to depth : ℕ) (depths stack : List ℕ) (height : ℕ) (agree : Bool) : List ℕ → List ℕ → ℕ → Bool → Type 0 where
  nowhere : to ≡ 0 → Followed to depth depths stack height agree depths stack height agree
  fresh : (t : ℕ) → to ≡ t + 1 → get_or depths t 0 ≡ 0 →
      Followed to depth depths stack height agree (set depths t depth) (set stack height t) (height + 1) agree
  same : (t : ℕ) → to ≡ t + 1 → get_or depths t 0 ≡ depth → 1 ≤ depth → Followed to depth depths stack height agree depths stack height agree
  other : (t : ℕ) → to ≡ t + 1 → Known depths t → (get_or depths t 0 ≡ depth → ⊥) → Followed to depth depths stack height agree depths stack height false

-- the depth after an instruction, which moves it by at most so much
pub record DepthAfter (most depth pushed popped depth' : ℕ) : Type 0 where
  pub moved : depth' + popped ≡ depth + pushed
  pub some : 1 ≤ depth'
  pub pushed_most : pushed ≤ most
  pub popped_most : popped ≤ most

-- what a visit asks: an offset whose depth and edges are in range
pub record Ready (g : Graph) (depths : List ℕ) (height o : ℕ) : Type 0 where
  pub room : height ≤ known depths
  pub cells : length depths ≡ 4096
  pub inside : o < 4096
  pub fall : g.falls o ≤ 4096
  pub jump : g.jumps o ≤ 4096
  pub low : 65536 ≤ get_or depths o 0
  pub high : get_or depths o 0 ≤ 4000000000

-- one visit of offset o: both of its edges are followed, with the depth after it
pub record Visited (most : ℕ) (g : Graph) (o : ℕ) (depths stack : List ℕ) (height : ℕ) (agree : Bool)
    (depths'' stack'' : List ℕ) (height'' : ℕ) (agree'' : Bool) : Type 0 where
  pub depth : ℕ
  pub after : DepthAfter most (get_or depths o 0) (g.pushes o) (g.pops o) depth
  pub depths' : List ℕ
  pub stack' : List ℕ
  pub height' : ℕ
  pub agree' : Bool
  pub fall : Followed (g.falls o) depth depths stack height agree depths' stack' height' agree'
  pub jump : Followed (g.jumps o) depth depths' stack' height' agree' depths'' stack'' height'' agree''

-- what an exploration asks: control stays below offset 4096, and where it goes no depth is known yet
pub record Explorable (g : Graph) (depths stack : List ℕ) : Type 0 where
  pub cells : length depths ≡ 4096
  pub slots : length stack ≡ 4096
  pub inside : (o : ℕ) → Reached g o → o < 4096
  pub clear : (o : ℕ) → Reached g o → get_or depths o 0 ≡ 0

-- What it finds: exactly at the reached offsets the depth is known, all other cells stay, and the paths agree or two of them do not. Where they
-- agree, each depth is that of every path to its offset.
pub record Explored (bias : ℕ) (g : Graph) (before depths : List ℕ) (agree : Bool) : Type 0 where
  pub cells : length depths ≡ 4096
  pub known : (o : ℕ) → Reached g o → Known depths o
  pub others : (o : ℕ) → Reached g o ⊎ (get_or depths o 0 ≡ get_or before o 0)
  pub disagree : agree ≡ false → Disagree g
  pub depth : agree ≡ true → (o pushed popped : ℕ) → Path g o pushed popped → get_or depths o 0 + popped ≡ bias + pushed

-- the lowest start whose depth is not known, the routine's end where there is none
pub record LowestUnknown (x : Routine) (depths : List ℕ) (o : ℕ) : Type 0 where
  pub high : o ≤ x.end
  pub below : (k : ℕ) → k < o → Start x k → Known depths k
  pub here : o < x.end → Start x o × (get_or depths o 0 ≡ 0)

-- a check fails first at a start, or passes at every one and the number is 0
pub data Tested (x : Routine) (check : ℕ → ℕ) : ℕ → ℕ → Type 0 where
  fails : {number at : ℕ} → First x check number at → Tested x check number at
  passes : {at : ℕ} → Passes x check → Tested x check 0 at
