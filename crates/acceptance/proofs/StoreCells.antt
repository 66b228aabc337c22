-- A store's cell is the least depth at which the store is allowed.
use Prim.Native.Nat.{ℕ, ◌≤◌}
use mathlib.Core.Path.{sym, ◌∙◌}
use mathlib.Core.Logic.{◌↔◌, by_cases}
use mathlib.Core.Bool.{false≢true}
use native.Mathlib.Decide.{ℕ_discrete}
use native.Mathlib.Omega.{arith}
use borrow.Author.Tests.{eq-eqb, ne_eqb}
use Rattle.numbers.proofs.Checking.{by_test}
use Rattle.stm8.specs.Effects.{bytes_wide}
use Rattle.stm8.specs.declared.Place.{Place}
use Rattle.stm8.specs.declared.Place.TheVariants.{Nowhere, Direct, OnStack, Pushed}
use Rattle.stm8.specs.declared.Width.{Width}
use Rattle.image.specs.declared.Limits.{Limits}
use Rattle.image.specs.Access.{granted}
use Rattle.image.proofs.Granting.{granted_exactly}
use Rattle.rules.specs.Rules.{StoreRules}
use Rattle.acceptance.specs.Cells.{store_cell}

module _ (limits : Limits) (depth : ℕ) (small : depth ≤ 255) where
  direct_cell : (address : ℕ) (w : Width) → (store_cell limits (Direct address w) ≤ depth) ↔ StoreRules limits depth (Direct address w)
  unfolding store_cell
  direct_cell address w =
      by_test (λ n. (n ≤ depth) ↔ StoreRules limits depth (Direct address w)) (granted limits address (bytes_wide w))
      (λ t. (λ h. (granted_exactly limits address (bytes_wide w)).0 t, λ h. omega arith))
      (λ t. (λ h. absurd (omega arith), λ h. absurd (false≢true (sym t ∙ (granted_exactly limits address (bytes_wide w)).1 h))))

  pub store_cell_lem : (place : Place) → (store_cell limits place ≤ depth) ↔ StoreRules limits depth place
  unfolding store_cell
  store_cell_lem Nowhere = (λ h. tt, λ h. omega arith)
  store_cell_lem (Direct address w) = direct_cell address w
  store_cell_lem (OnStack f w) =
      by_cases (ℕ_discrete f 0)
      (λ e. rw (eq-eqb f 0 e) (λ h. absurd (omega arith), λ h. absurd (omega (arith, h.0))))
      (λ ne. rw (ne_eqb f 0 ne) (λ h. (omega arith, h), λ h. h.1))
  store_cell_lem (Pushed w) = (λ h. tt, λ h. omega arith)
