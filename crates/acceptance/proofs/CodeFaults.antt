-- 8, 9 and 15: a start whose cells are stored passes them.
use Prim.Native.Nat.{ℕ, ◌<◌}
use mathlib.Core.Path.{◌≡◌}
use mathlib.Core.List.{List}
use native.Mathlib.Omega.{arith}
use Rattle.image.specs.declared.Limits.{Limits}
use Rattle.code.specs.Code.{Start}
use Rattle.rules.specs.Refusal.{CodeFault, outside, cut, off, codes, Lowest}
use Rattle.code.proofs.Starts.{same_found}
use Rattle.rules.proofs.RefusalNumbers.{fault_at}
use Rattle.control_flow.specs.Routine as cells
use Rattle.acceptance.specs.Cells.{Stored}

module _ {image : List ℕ} {limits : Limits} {r : ℕ} {x : cells.Routine} where
  pub stored_passes : {o n : ℕ} → Stored image limits r x o → CodeFault image r o n → ⊥
  stored_passes c (outside s f) = let g = c.found in let z : ◌≡◌ {A = ℕ} 0 1 = cc in omega arith
  stored_passes c (cut s f) = let g = c.found in let z : ◌≡◌ {A = ℕ} 0 1 = cc in omega arith
  stored_passes c (off s f t past) = let same = same_found f c.found in omega (arith, same.1, c.inside (rw same.0 at t))

  -- so a fault is the lowest one where the cells of all starts below it are stored
  pub code_lowest : {number at : ℕ} → CodeFault image r at number → ((o : ℕ) → Start image r o → o < at → Stored image limits r x o) →
      Lowest (CodeFault image r) number at
  code_lowest f below =
      record { fault = f; lowest = λ o n l g. stored_passes (below o (fault_at limits codes o n g).start l) g }
