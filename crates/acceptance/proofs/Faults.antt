-- Where a check by cells fails first is the lowest fault of a phase, if it fails just where the phase has a fault.
use Prim.Native.Nat.{ℕ, ◌≤◌}
use mathlib.Core.Path.{◌≡◌}
use native.Mathlib.Omega.{arith}
use Rattle.rules.specs.Refusal.{Lowest}
use Rattle.control_flow.specs.Routine.{Routine, Start}
use Rattle.control_flow.specs.Outcome.{First, Passes}

-- a check fails with the numbers of a phase's faults, and only at them
pub record Finds (x : Routine) (check : ℕ → ℕ) (At : ℕ → ℕ → Type 0) : Type 0 where
  pub finds : (o : ℕ) → Start x o → 1 ≤ check o → At o (check o)
  pub start : (o n : ℕ) → At o n → Start x o
  pub fails : (o n : ℕ) → At o n → check o ≡ 0 → ⊥

module _ {x : Routine} {check : ℕ → ℕ} {At : ℕ → ℕ → Type 0} (h : Finds x check At) where
  pub first_lowest : {number at : ℕ} → First x check number at → Lowest At number at
  first_lowest {number} {at} f =
      record {
        fault = rw f.is (h.finds at f.start (omega (arith, f.some, f.is)));
        lowest = λ o n l a. h.fails o n a (f.lower o l (h.start o n a));
      }

  pub no_faults : Passes x check → (o n : ℕ) → At o n → ⊥
  no_faults passes o n a = h.fails o n a (passes o (h.start o n a))
