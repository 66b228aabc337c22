-- 11, 12 and 14 by the cells are those of the code, where what is held is the depth of every path.
use Prim.Native.Nat.{ℕ, ◌+◌, ◌<◌}
use mathlib.Core.Path.{◌≡◌}
use mathlib.Core.List.{List}
use Rattle.stm8.specs.Effects.{effect}
use Rattle.stm8.specs.declared.Instruction.{Instruction}
use Rattle.image.specs.declared.Limits.{Limits}
use Rattle.image.specs.Image.{base_of, count_of}
use Rattle.image.specs.Rules.{ImageRules}
use Rattle.code.specs.Code.{Start}
use Rattle.rules.specs.Paths.{Path}
use Rattle.rules.specs.Refusal.{Arrival, DepthFault, range, store, call, depths}
use Rattle.code.proofs.Starts.{same_found}
use Rattle.rules.proofs.RefusalNumbers.{fault_at}
use Rattle.control_flow.specs.Routine as cells
use Rattle.control_flow.specs.Outcome.{AllReached, Held, Passes}
use Rattle.control_flow.proofs.Paths.{reached_path}
use Rattle.control_flow.proofs.Numbers.{well_formed_lem}
use Rattle.acceptance.specs.Cells.{Filled}
use Rattle.acceptance.proofs.Graphs.{decoded, path_code, path_graph}
use Rattle.acceptance.proofs.Faults.{Finds}
use Rattle.acceptance.proofs.DepthTests.{Allowed, Tested, tested, allows, fault}

-- a routine of an image, with its cells, that passes 13, 10, 6 and 7; what is held is the depth of every path
pub record Explored (image : List ℕ) (limits : Limits) (r : ℕ) (x : cells.Routine) (bias : ℕ) (held : ℕ → ℕ) : Type 0 where
  pub layout : ImageRules image
  pub inside : r < count_of image
  pub filled : Filled image limits r x
  pub landed : Passes x (cells.jump_check x)
  pub reached : AllReached x
  pub holds : Held x bias held

-- a path comes to an offset
pub record Arrived (image : List ℕ) (r o : ℕ) : Type 0 where
  pub instruction : Instruction
  pub size : ℕ
  pub pushes : ℕ
  pub pops : ℕ
  pub arrival : Arrival image r o size instruction pushes pops

module _ {image : List ℕ} {limits : Limits} {r : ℕ} {x : cells.Routine} {bias : ℕ} {held : ℕ → ℕ}
    (h : Explored image limits r x bias held) where
  pub well_formed : cells.WellFormed x
  well_formed = well_formed_lem (decoded h.filled h.layout h.inside) h.landed

  pub path_held : {o pushes pops : ℕ} → Path image r o pushes pops → Start image r o × (held o + pops ≡ bias + pushes)
  path_held p = let q = path_graph h.filled well_formed p in (q.0, h.holds _ _ _ q.1)

  -- every start is arrived at
  pub arrived : {o : ℕ} → Start image r o → Arrived image r o
  arrived {o} s =
      let p = reached_path (h.reached o (h.filled.starts o s)) in
      let c = h.filled.cells o s in
      record {
        instruction = c.instruction;
        size = c.size;
        pushes = p.0;
        pops = p.1;
        arrival = record { start = s; found = c.found; path = (path_code h.filled well_formed p.2).1 };
      }

  test : {o n pushes pops : ℕ} {i : Instruction} → Arrival image r o n i pushes pops →
      Tested image limits r (base_of image + (o + n)) (effect i) pushes pops (cells.depth_check x bias held o)
  test {o} a =
      let c = h.filled.cells o a.start in
      let same = same_found a.found c.found in
      rw (same.0, same.1) (tested h.layout h.inside c bias held _ _ (path_held a.path).1)

  pub depth_allows : {o n pushes pops : ℕ} {i : Instruction} → Arrival image r o n i pushes pops → cells.depth_check x bias held o ≡ 0 →
      Allowed image limits r (base_of image + (o + n)) (effect i) pushes pops
  depth_allows a pass = allows (test a) pass

  no_fault : {o n : ℕ} → DepthFault image limits r o n → cells.depth_check x bias held o ≡ 0 → ⊥
  no_fault (range a out) pass = out (depth_allows a pass).ranges
  no_fault (store a in_range d e out) pass = out ((depth_allows a pass).stores d e)
  no_fault (call a in_range d e s c none) pass = let k = (depth_allows a pass).calls c in none k.0 k.1

  pub depth_faults : Finds x (cells.depth_check x bias held) (DepthFault image limits r)
  depth_faults =
      record {
        finds = λ o s some. let a = (arrived (h.filled.start o s)).arrival in fault a (test a) some;
        start = λ o n f. h.filled.starts o (fault_at limits depths o n f).start;
        fails = λ o n f. no_fault f;
      }
