-- Which of 11, 12 and 14 an instruction gets by its cells, at the depth of a path.
use Prim.Native.Nat.{ℕ, ◌+◌, ◌-◌, ◌<◌, ◌≤◌}
use mathlib.Core.Path.{◌≡◌}
use mathlib.Core.Option.{some}
use mathlib.Core.Logic.{◌↔◌}
use mathlib.Core.List.{List}
use native.Mathlib.Omega.{arith}
use Rattle.stm8.specs.Effects.{call_target, effect}
use Rattle.stm8.proofs.EffectLaws.{one_target}
use Rattle.stm8.specs.declared.Instruction.{Instruction}
use Rattle.stm8.specs.declared.Effect.{Effect}
use Rattle.stm8.specs.declared.Flow.TheVariants.{Return}
use Rattle.image.specs.declared.Limits.{Limits}
use Rattle.image.specs.Image.{base_of, count_of, start_of, end_of}
use Rattle.image.specs.Rules.{ImageRules}
use Rattle.rules.specs.Paths.{Callee}
use Rattle.rules.specs.Rules.{StoreRules}
use Rattle.rules.specs.Refusal.{InRange, Arrival, DepthFault, range, store, call}
use Rattle.control_flow.specs.Routine as cells
use Rattle.acceptance.specs.Cells.{Stored}
use Rattle.acceptance.proofs.JumpCells.{return_cells}
use Rattle.acceptance.proofs.StoreCells.{store_cell_lem}
use Rattle.acceptance.proofs.CallCells as calls
use Rattle.control_flow.proofs.DepthNumbers.{Inside, DepthTest, outside, denied, lost, allowed, depth_test}

-- an instruction before the address `next`, at the depth of a path
module _ (image : List ℕ) (limits : Limits) (r next : ℕ) (e : Effect) (pushes pops : ℕ) where
  -- it passes 11, 12 and 14
  pub record Allowed : Type 0 where
    pub ranges : InRange e pushes pops
    pub stores : (depth : ℕ) → depth + pops ≡ pushes → StoreRules limits depth e.place
    pub calls : {address : ℕ} → call_target next e.flow ≡ some address → (callee : ℕ) × Callee image r address callee

  -- the number that it gets
  pub data Tested : ℕ → Type 0 where
    ranging : (InRange e pushes pops → ⊥) → Tested 11
    storing : InRange e pushes pops → (depth : ℕ) → depth + pops ≡ pushes → (StoreRules limits depth e.place → ⊥) → Tested 12
    calling : {address : ℕ} → InRange e pushes pops → (depth : ℕ) → depth + pops ≡ pushes → StoreRules limits depth e.place →
        call_target next e.flow ≡ some address → ((callee : ℕ) → Callee image r address callee → ⊥) → Tested 14
    passing : Allowed → Tested 0

-- what its cells say, where the depth that is held is that of the path
module _ {image : List ℕ} {limits : Limits} {r o : ℕ} {x : cells.Routine} (layout : ImageRules image) (inside : r < count_of image)
    (c : Stored image limits r x o) (bias : ℕ) (held : ℕ → ℕ) (pushes pops : ℕ) (comes : held o + pops ≡ bias + pushes) where
  abbrev InsideCells : Type 0
  InsideCells = Inside bias (held o) (x.graph.falls o) (x.graph.jumps o) (x.graph.pops o) (x.graph.pushes o) (x.stores o) (x.calls o)

  ends : ((effect c.instruction).flow ≡ Return) ↔ ((x.graph.falls o ≡ 0) × (x.graph.jumps o ≡ 0))
  ends = rw (c.fall, c.jump) (return_cells (base_of image) (start_of image r) (end_of image r) (o + c.size) (effect c.instruction).flow)

  inside_range : InsideCells ↔ InRange (effect c.instruction) pushes pops
  inside_range = (
    λ h.
        record {
          before_low = omega (arith, h.before_low);
          before_high = omega (arith, h.before_high);
          after_low = omega (arith, h.after_low, c.pop, c.push);
          after_high = omega (arith, h.after_high, c.pop, c.push);
          return_empty = λ e. let z = ends.0 e in omega (arith, h.ended z.0 z.1);
        },
    λ h.
        record {
          before_low = omega (arith, h.before_low);
          before_high = omega (arith, h.before_high);
          after_low = omega (arith, h.after_low, c.pop, c.push);
          after_high = omega (arith, h.after_high, c.pop, c.push);
          ended = λ f j. omega (arith, h.return_empty (ends.1 (f, j)));
        },
  )

  stores_at : InsideCells → (depth : ℕ) → depth + pops ≡ pushes →
      (bias + x.stores o ≤ held o) ↔ StoreRules limits depth (effect c.instruction).place
  stores_at h depth e =
      let cell = store_cell_lem limits depth (omega (arith, h.before_high)) (effect c.instruction).place in
      (λ l. cell.0 (omega (arith, c.store)), λ s. omega (arith, c.store, cell.1 s))

  abbrev CallCell : ℕ → Type 0
  CallCell = calls.CallCell image r (o + c.size) (effect c.instruction).flow

  callees : {cell : ℕ} → CallCell cell → cell ≤ 32 →
      {address : ℕ} → call_target (base_of image + (o + c.size)) (effect c.instruction).flow ≡ some address → (callee : ℕ) × Callee image r address callee
  callees (calls.absent no_call) small d = absurd (no_call _ d)
  callees (calls.calls {k = k} d to) small e = (k, rw (one_target e d) to)
  callees (calls.nowhere d none) small e = absurd (omega arith)

  abbrev TestedHere : ℕ → Type 0
  TestedHere = Tested image limits r (base_of image + (o + c.size)) (effect c.instruction) pushes pops

  lost_call : {cell : ℕ} → CallCell cell → 32 < cell → InRange (effect c.instruction) pushes pops → (depth : ℕ) → depth + pops ≡ pushes →
      StoreRules limits depth (effect c.instruction).place → TestedHere 14
  lost_call (calls.absent no_call) l h depth e s = absurd (omega arith)
  lost_call (calls.calls d to) l h depth e s = absurd (omega (arith, to.earlier, layout.count.1))
  lost_call (calls.nowhere d none) l h depth e s = calling h depth e s d none

  tested_by : {number : ℕ} →
      DepthTest bias (held o) (x.graph.falls o) (x.graph.jumps o) (x.graph.pops o) (x.graph.pushes o) (x.stores o) (x.calls o) number →
      TestedHere number
  tested_by (outside out) = ranging (λ h. out (inside_range.1 h))
  tested_by (denied h l) =
      let d : pushes - pops + pops ≡ pushes = omega (arith, h.before_low) in
      storing (inside_range.0 h) (pushes - pops) d (λ s. omega (arith, (stores_at h (pushes - pops) d).1 s))
  tested_by (lost h s l) =
      let d : pushes - pops + pops ≡ pushes = omega (arith, h.before_low) in
      lost_call (calls.call_stored c) l (inside_range.0 h) (pushes - pops) d ((stores_at h (pushes - pops) d).0 s)
  tested_by (allowed h s l) =
      passing (record { ranges = inside_range.0 h; stores = λ depth d. (stores_at h depth d).0 s; calls = callees (calls.call_stored c) l })

  pub tested : TestedHere (cells.depth_check x bias held o)
  tested = tested_by (depth_test _ _ _ _ _ _ _ _)

pub allows : {image : List ℕ} {limits : Limits} {r next pushes pops number : ℕ} {e : Effect} →
    Tested image limits r next e pushes pops number → number ≡ 0 → Allowed image limits r next e pushes pops
allows (ranging out) z = absurd (omega arith)
allows (storing h d e out) z = absurd (omega arith)
allows (calling h d e s c none) z = absurd (omega arith)
allows (passing a) z = a

pub fault : {image : List ℕ} {limits : Limits} {r o n pushes pops number : ℕ} {i : Instruction} → Arrival image r o n i pushes pops →
    Tested image limits r (base_of image + (o + n)) (effect i) pushes pops number → 1 ≤ number → DepthFault image limits r o number
fault a (ranging out) positive = range a out
fault a (storing h d e out) positive = store a h d e out
fault a (calling h d e s c none) positive = call a h d e s c none
fault a (passing p) positive = absurd (omega arith)
