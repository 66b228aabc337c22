-- The control flow of one routine: its paths, what they reach and at which depths. Nothing here knows of STM8, or of how a routine is explored.
-- Nobody has to believe what stands in this crate: acceptance ties it to the rules.
use Rattle.std.specs.Prelude.{ℕ, ◌+◌, ◌≡◌, List, [], get_or}

-- Each cell belongs to the instruction at a code offset. `falls` and `jumps` are 1 + the offset that control goes to, or 0 where it does not go on
-- so. `pops` and `pushes` are the stack bytes that the instruction takes away and adds (a call and its return: none).
pub record Graph : Type 0 where
  pub entry : ℕ
  pub falls : ℕ → ℕ
  pub jumps : ℕ → ℕ
  pub pops : ℕ → ℕ
  pub pushes : ℕ → ℕ

-- the cells of a list, by offset
abbrev pub cells : List ℕ → ℕ → ℕ
cells list o = get_or list o 0

-- the cells of a column, where each offset has a row of them: start, fall, jump, pops, pushes, store, call
abbrev pub column : ℕ → List (List ℕ) → ℕ → ℕ
column k rows o = get_or (get_or rows o []) k 0

abbrev pub graph : ℕ → List (List ℕ) → Graph
graph entry rows =
    record { entry = entry; falls = column 1 rows; jumps = column 2 rows; pops = column 3 rows; pushes = column 4 rows }

-- control goes from one offset to another
pub data Edge (g : Graph) (o to : ℕ) : Type 0 where
  falling : g.falls o ≡ to + 1 → Edge g o to
  jumping : g.jumps o ≡ to + 1 → Edge g o to

-- the entry is reached, and what control goes to from a reached offset by falling or by any jump
pub data Reached (g : Graph) : ℕ → Type 0 where
  entered : Reached g g.entry
  followed : {o to : ℕ} → Reached g o → Edge g o to → Reached g to

-- A path from the entry to an offset, with the bytes pushed and the bytes popped on the way: its depth is their difference, which may be
-- below 0 or above 255.
pub data Path (g : Graph) : ℕ → ℕ → ℕ → Type 0 where
  start : Path g g.entry 0 0
  onward : {o to pushed popped : ℕ} → Path g o pushed popped → Edge g o to → Path g to (pushed + g.pushes o) (popped + g.pops o)

-- two paths from the entry give some offset different depths: pushed - popped is not pushed' - popped'
pub record Disagree (g : Graph) : Type 0 where
  pub offset : ℕ
  pub pushed : ℕ
  pub popped : ℕ
  pub pushed' : ℕ
  pub popped' : ℕ
  pub path : Path g offset pushed popped
  pub path' : Path g offset pushed' popped'
  pub differ : pushed + popped' ≡ pushed' + popped → ⊥
