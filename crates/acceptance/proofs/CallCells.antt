-- What the cell of a call says of its callee.
use Prim.Native.Nat.{ℕ, ◌+◌}
use mathlib.Core.Path.{◌≡◌, refl, sym, ◌∙◌}
use mathlib.Core.Option.{Option, none, some, none-ne-some}
use mathlib.Core.List.{List}
use native.Mathlib.Omega.{arith}
use lib.Dec.{ltb}
use borrow.Author.Tests.{ltb-true, ltb-false}
use Rattle.numbers.proofs.Checking.{by_test}
use Rattle.stm8.specs.Effects.{call_target, effect}
use Rattle.stm8.specs.declared.Flow.{Flow}
use Rattle.image.specs.declared.Limits.{Limits}
use Rattle.image.specs.Image.{base_of}
use Rattle.rules.specs.Paths.{Callee, callee}
use Rattle.rules.proofs.Callees.{callee_found, callee_earlier}
use Rattle.control_flow.specs.Routine as cells
use Rattle.acceptance.specs.Cells.{callee_cell, cell_of, call_cell, Stored}

module _ (image : List ℕ) (r : ℕ) where
  -- there is no call, it goes to an earlier routine, or it goes to none
  pub data CallCell (next : ℕ) (flow : Flow) : ℕ → Type 0 where
    absent : ((address : ℕ) → call_target (base_of image + next) flow ≡ some address → ⊥) → CallCell next flow 0
    calls : {address k : ℕ} → call_target (base_of image + next) flow ≡ some address → Callee image r address k → CallCell next flow (k + 1)
    nowhere : {address : ℕ} → call_target (base_of image + next) flow ≡ some address → ((k : ℕ) → Callee image r address k → ⊥) →
        CallCell next flow 255

  calling : {next address : ℕ} {flow : Flow} → call_target (base_of image + next) flow ≡ some address → CallCell next flow (callee_cell image r address)
  unfolding callee_cell
  calling {next} {address} {flow} c =
      by_test (CallCell next flow) (ltb (callee image r address) r)
      (λ t. calls c (callee_found image r address (ltb-true _ _ t)))
      (λ t. nowhere c (λ k e. omega (arith, ltb-false (callee image r address) r t, callee_earlier image r address k e)))

  callee_cells : (next : ℕ) (flow : Flow) (target : Option ℕ) → call_target (base_of image + next) flow ≡ target →
      CallCell next flow (cell_of (callee_cell image r) target)
  callee_cells next flow none e = absent (λ a c. none-ne-some a (sym e ∙ c))
  callee_cells next flow (some address) e = calling e

  pub call_cell_lem : (next : ℕ) (flow : Flow) → CallCell next flow (call_cell image r next flow)
  call_cell_lem next flow = callee_cells next flow (call_target (base_of image + next) flow) refl

pub call_stored : {image : List ℕ} {limits : Limits} {r o : ℕ} {x : cells.Routine} (c : Stored image limits r x o) →
    CallCell image r (o + c.size) (effect c.instruction).flow (x.calls o)
call_stored {image} {r = r} {o} c = rw c.call (call_cell_lem image r (o + c.size) (effect c.instruction).flow)
