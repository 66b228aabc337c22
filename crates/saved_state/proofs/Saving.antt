-- The ways through saving, with each value as a variable.
use Prim.Native.Nat.{ℕ, ◌≤◌}
use mathlib.Core.Path.{◌≡◌, refl}
use mathlib.Core.List.{List}
use native.Mathlib.Omega.{arith}
use lib.Dec.{eqb}
use lib.ListN.{replicate}
use borrow.Author.Tests.{eq-eqb, ne_eqb}
use Rattle.numbers.specs.Folds.{first_in}
use Rattle.numbers.proofs.Checking.{by_test, under_zero}
use Rattle.numbers.proofs.Numbering.{Numbered, pass, not_zero, ◌then◌, unless_numbered, differ_numbered}
use Rattle.execution.specs.declared.Registers.{Registers}
use Rattle.saved_state.specs.Sls.{step_bytes, state_bytes, saving_number, saved, saved_check}

-- steps have eight bytes at most
pub step_bytes_most : (version : ℕ) → step_bytes version ≤ 8
step_bytes_most version = by_test (λ n. n ≤ 8) (eqb version 0x0001) (λ t. omega arith) (λ t. omega arith)

module _ (regs : Registers) where
  -- what is saved fits
  pub saving_fits : saving_number regs ≡ 0 → regs.pc ≤ 0xFFFF
  unfolding saving_number
  saving_fits e = under_zero _ _ 34 e

  pub saved_refused : (steps : ℕ) {number : ℕ} → number ≡ saving_number regs → (number ≡ 0 → ⊥) →
      record { number = number; bytes = replicate 23 0 } ≡ saved regs steps
  unfolding saved
  saved_refused steps is some = rw (← is, ne_eqb _ _ some)

  pub saved_written : (steps : ℕ) {number : ℕ} {bytes : List ℕ} → number ≡ saving_number regs → number ≡ 0 → bytes ≡ state_bytes 0x0002 regs steps →
      record { number = number; bytes = bytes } ≡ saved regs steps
  unfolding saved
  saved_written steps is zero written = rw (← is, eq-eqb _ _ zero, written)

-- a record that is refused is refused with 34
pub saved_34 : (bytes : List ℕ) → (saved_check bytes ≡ 0 → ⊥) → saved_check bytes ≡ 34
unfolding saved_check first_in
saved_34 bytes some =
    let n : Numbered 34 34 (saved_check bytes) = differ_numbered 34 refl _ _ then unless_numbered 34 refl _ then unless_numbered 34 refl _ then pass in
    let h = not_zero n some in omega arith
