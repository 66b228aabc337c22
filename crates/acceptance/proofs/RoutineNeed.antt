-- What the instructions of a routine use by its cells is what they use by the rules, so the greatest of it is the routine's need.
use Prim.Native.Nat.{ℕ, ◌+◌, ◌<◌, ◌≤◌}
use mathlib.Core.Path.{◌≡◌}
use mathlib.Core.Option.{some}
use mathlib.Core.List.{List}
use native.Mathlib.Omega.{arith}
use Rattle.stm8.specs.Effects.{call_target, effect}
use Rattle.stm8.proofs.EffectLaws.{one_target}
use Rattle.image.specs.declared.Limits.{Limits}
use Rattle.image.specs.Image.{base_of, count_of}
use Rattle.image.specs.Rules.{ImageRules}
use Rattle.code.specs.Depth.{after}
use Rattle.code.specs.Code.{Start}
use Rattle.rules.specs.Paths.{Callee}
use Rattle.rules.specs.Rules.{InstructionRules, StartAt, RoutineRules, InstructionUse, before, behind, calling, Use, Greatest}
use Rattle.code.proofs.Starts.{same_found}
use Rattle.rules.proofs.Callees.{one_callee}
use Rattle.rules.proofs.Unique.{rules_found}
use Rattle.control_flow.specs.Routine as cells
use Rattle.acceptance.specs.Cells.{Stored, Filled}
use Rattle.acceptance.specs.Passed.{need_in}
use Rattle.acceptance.proofs.CallCells as calls

-- one instruction, at its depth
module _ {image : List ℕ} {limits : Limits} {r o : ℕ} {x : cells.Routine} (layout : ImageRules image) (inside : r < count_of image)
    (c : Stored image limits r x o) (depth : ℕ → ℕ)
    (rules : InstructionRules image limits r (StartAt image depth r) o (depth o) c.instruction c.size)
    (needs : List ℕ) (bias : ℕ) (held : ℕ → ℕ) (deep : depth o + bias ≡ held o) where
  abbrev Used : ℕ → Type 0
  Used = InstructionUse image (need_in needs) r (base_of image + (o + c.size)) (depth o) (effect c.instruction)

  abbrev CallCell : ℕ → Type 0
  CallCell = calls.CallCell image r (o + c.size) (effect c.instruction).flow

  cell_call : {cell : ℕ} → CallCell cell → (k : ℕ) → cell ≡ k + 1 → Used (depth o + 2 + need_in needs k)
  cell_call (calls.absent no_call) k e = absurd (omega arith)
  cell_call (calls.calls {k = j} d to) k e = let same : k ≡ j = omega arith in rw same (calling d to)
  cell_call (calls.nowhere d none) k e = let to = rules.call d in absurd (none to.0 to.1)

  uses_used : {v : ℕ} → cells.Uses x needs bias held o v → Used v
  unfolding after
  uses_used {v} (cells.before e) = let same : v ≡ depth o = omega arith in rw same before
  uses_used {v} (cells.behind e) =
      let same : v ≡ after (effect c.instruction) (depth o) = omega (arith, c.pop, c.push, rules.pops_enough) in
      rw same behind
  uses_used {v} (cells.calling k e f) = let same : v ≡ depth o + 2 + need_in needs k = omega arith in rw same (cell_call (calls.call_stored c) k e)

  call_cell_lem : {cell address : ℕ} → CallCell cell → (k : ℕ) → call_target (base_of image + (o + c.size)) (effect c.instruction).flow ≡ some address →
      Callee image r address k → cell ≡ k + 1
  call_cell_lem (calls.absent no_call) k d to = absurd (no_call _ d)
  call_cell_lem (calls.calls d' to') k d to = omega (arith, one_callee image layout (omega arith) to' (rw (one_target d d') at to))
  call_cell_lem (calls.nowhere d' none) k d to = absurd (none k (rw (one_target d d') at to))

  used_uses : {v : ℕ} → Used v → cells.Uses x needs bias held o v
  unfolding after
  used_uses before = cells.before deep
  used_uses behind = cells.behind {v = after (effect c.instruction) (depth o)} (omega (arith, c.pop, c.push, rules.pops_enough))
  used_uses (calling {callee = k} d to) = cells.calling {v = depth o + 2 + need_in needs k} k (call_cell_lem (calls.call_stored c) k d to) (omega arith)

-- and each of them
module _ {image : List ℕ} {limits : Limits} {r : ℕ} {x : cells.Routine} (layout : ImageRules image) (inside : r < count_of image)
    (filled : Filled image limits r x) (depth : ℕ → ℕ) (rules : RoutineRules image limits depth r)
    (needs : List ℕ) (bias : ℕ) (held : ℕ → ℕ) (deep : (o : ℕ) → Start image r o → depth o + bias ≡ held o) where
  uses_use : {o v : ℕ} → cells.Start x o → cells.Uses x needs bias held o v → Use image depth (need_in needs) r v
  uses_use {o} s u =
      let t = filled.start o s in
      let c = filled.cells o t in
      record {
        offset = o;
        instruction = c.instruction;
        size = c.size;
        start = t;
        found = c.found;
        used = uses_used layout inside c depth (rules_found rules t c.found) needs bias held (deep o t) u;
      }

  use_uses : {v : ℕ} (u : Use image depth (need_in needs) r v) → cells.Uses x needs bias held u.offset v
  use_uses u =
      let c = filled.cells u.offset u.start in
      let same = same_found u.found c.found in
      used_uses layout inside c depth (rules_found rules u.start c.found) needs bias held (deep _ u.start)
      (rw (same.0, same.1) at u.used)

  pub need_greatest : {need : ℕ} → (o : ℕ) × cells.Start x o × cells.Uses x needs bias held o need →
      ((o v : ℕ) → cells.Start x o → cells.Uses x needs bias held o v → v ≤ need) → Greatest (Use image depth (need_in needs) r) need
  need_greatest attained bounds =
      record {
        is = uses_use attained.1 attained.2;
        bounds = λ u. bounds u.offset _ (filled.starts _ u.start) (use_uses u);
      }
