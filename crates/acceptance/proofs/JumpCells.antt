-- What the cells of a fall and of a jump say of where control goes.
use Prim.Native.Nat.{ℕ, ◌+◌, ◌-◌, ◌<◌, ◌≤◌}
use mathlib.Core.Path.{◌≡◌, refl, sym, ◌∙◌}
use mathlib.Core.Option.{Option, none, some, none-ne-some}
use mathlib.Core.Logic.{◌↔◌, ◌⊎◌, inl, inr}
use mathlib.Core.Bool.{Bool, true, false, cond}
use mathlib.Core.List.{List}
use native.Mathlib.Omega.{arith}
use lib.Dec.{ltb}
use borrow.Author.Tests.{ltb-true, ltb-false}
use Rattle.numbers.proofs.Checking.{by_test}
use Rattle.stm8.specs.Effects.{relative, jump_target, effect}
use Rattle.stm8.proofs.EffectLaws.{one_target}
use Rattle.stm8.specs.declared.Flow.{Flow}
use Rattle.stm8.specs.declared.Flow.TheVariants.{Next, Branch, Jump, Call, CallRelative, Return}
use Rattle.image.specs.declared.Limits.{Limits}
use Rattle.image.specs.Image.{base_of, start_of, end_of}
use Rattle.control_flow.specs.Routine as cells
use Rattle.acceptance.specs.Cells.{fall_cell, target_cell, cell_of, jump_cell, Stored}

pub fall_cell_lem : (b : Bool) (next to : ℕ) → cond b (next + 1) 0 ≡ to + 1 → (b ≡ true) × (to ≡ next)
fall_cell_lem true next to e = (refl, omega arith)
fall_cell_lem false next to e = absurd (omega arith)

module _ (base start end : ℕ) where
  -- an address lies in the routine, as its cell says, or outside
  pub data Target (address : ℕ) : ℕ → Type 0 where
    within : {to : ℕ} → address ≡ base + to → start ≤ to → to < end → Target address (to + 1)
    beyond : (address < base + start) ⊎ (base + end ≤ address) → Target address 65535

  target_cell_lem : (address : ℕ) → Target address (target_cell base start end address)
  unfolding target_cell
  target_cell_lem address =
      by_test (Target address) (ltb address (base + start))
      (λ t. beyond (inl (ltb-true _ _ t)))
      (λ t.
      let low = ltb-false address (base + start) t in
      by_test (Target address) (ltb address (base + end))
      (λ u. let high = ltb-true address (base + end) u in within {to = address - base} (omega arith) (omega arith) (omega arith))
      (λ u. beyond (inr (ltb-false _ _ u))))

  -- there is no jump, it stays in the routine, or it leaves it
  pub data JumpCell (next : ℕ) (flow : Flow) : ℕ → Type 0 where
    absent : ((address : ℕ) → jump_target (base + next) flow ≡ some address → ⊥) → JumpCell next flow 0
    stays : {to : ℕ} → jump_target (base + next) flow ≡ some (base + to) → start ≤ to → to < end → JumpCell next flow (to + 1)
    leaves : {address : ℕ} → jump_target (base + next) flow ≡ some address → (address < base + start) ⊎ (base + end ≤ address) →
        JumpCell next flow 65535

  jumping : {next address cell : ℕ} {flow : Flow} → jump_target (base + next) flow ≡ some address → Target address cell → JumpCell next flow cell
  jumping j (within e low high) = stays (rw e at j) low high
  jumping j (beyond out) = leaves j out

  target_cells : (next : ℕ) (flow : Flow) (target : Option ℕ) → jump_target (base + next) flow ≡ target →
      JumpCell next flow (cell_of (target_cell base start end) target)
  target_cells next flow none e = absent (λ a j. none-ne-some a (sym e ∙ j))
  target_cells next flow (some address) e = jumping e (target_cell_lem address)

  pub jump_cell_lem : (next : ℕ) (flow : Flow) → JumpCell next flow (jump_cell base start end next flow)
  jump_cell_lem next flow = target_cells next flow (jump_target (base + next) flow) refl

  -- a cell that names an offset of code is that of a jump to it, and the other way round
  pub cell_target : (to : ℕ) {next cell : ℕ} {flow : Flow} → JumpCell next flow cell → cell ≡ to + 1 → to < 4096 →
      jump_target (base + next) flow ≡ some (base + to) × (start ≤ to) × (to < end)
  cell_target to (absent no_jump) e small = absurd (omega arith)
  cell_target to (stays {to = t} j low high) e small = let same : to ≡ t = omega arith in rw same (j, low, high)
  cell_target to (leaves j out) e small = absurd (omega arith)

  pub jump_target_lem : (to : ℕ) {next cell : ℕ} {flow : Flow} →
      JumpCell next flow cell → jump_target (base + next) flow ≡ some (base + to) → cell ≤ 4096 → cell ≡ to + 1
  jump_target_lem to (absent no_jump) k small = absurd (no_jump _ k)
  jump_target_lem to (stays j low high) k small = omega (arith, one_target j k)
  jump_target_lem to (leaves j out) k small = absurd (omega arith)

  -- only RET has neither cell
  target_some : {address cell : ℕ} → Target address cell → 1 ≤ cell
  target_some (within e low high) = omega arith
  target_some (beyond out) = omega arith

  no_cells : (next : ℕ) (flow : Flow) → fall_cell flow next ≡ 0 → jump_cell base start end next flow ≡ 0 → flow ≡ Return
  unfolding jump_target
  no_cells next Next f j = absurd (omega arith)
  no_cells next (Branch n) f j = absurd (omega arith)
  no_cells next (Jump n) f j = absurd (omega (arith, target_some (target_cell_lem (relative (base + next) n))))
  no_cells next (Call a) f j = absurd (omega arith)
  no_cells next (CallRelative n) f j = absurd (omega arith)
  no_cells next Return f j = refl

  pub return_cells : (next : ℕ) (flow : Flow) → (flow ≡ Return) ↔ ((fall_cell flow next ≡ 0) × (jump_cell base start end next flow ≡ 0))
  unfolding jump_target
  return_cells next flow = (λ e. rw e (refl, refl), λ h. no_cells next flow h.0 h.1)

pub jump_stored : {image : List ℕ} {limits : Limits} {r o : ℕ} {x : cells.Routine} (c : Stored image limits r x o) →
    JumpCell (base_of image) (start_of image r) (end_of image r) (o + c.size) (effect c.instruction).flow (x.graph.jumps o)
jump_stored {o = o} c = rw c.jump (jump_cell_lem _ _ _ (o + c.size) (effect c.instruction).flow)
