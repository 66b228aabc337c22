-- n steps, and their records given back in the reverse order: registers and memory are those before the first of them.
use Prim.Native.Nat.{ℕ, zero, suc}
use mathlib.Core.Path.{◌≡◌, refl, ◌∙◌, ap}
use mathlib.Core.List.{List}
use lib.ListN.{length}
use Rattle.numbers.specs.Checks.{first, differ}
use Rattle.numbers.proofs.Checking.{differ_pass}
use Rattle.numbers.proofs.Folding.{◌&◌}
use Rattle.image.specs.declared.Limits.{Limits}
use Rattle.execution.specs.declared.Registers.{Registers}
use Rattle.records.specs.Traces.{traced, Undone, undone}
use Rattle.records.proofs.Restoring.{given_back_lem, same_size}

module _ (image : List ℕ) (limits : Limits) (regs : Registers) (memory : List ℕ) where
  size_stays : (n : ℕ) → length (traced n image limits regs memory).memory ≡ length memory
  unfolding traced
  size_stays zero = refl
  size_stays (suc n) = let t = traced n image limits regs memory in same_size image limits t.registers t.memory ∙ size_stays n

  -- one step more: its record goes back first, and the others after it
  last_undone : (n : ℕ) → let t = traced n image limits regs memory in let more = traced (suc n) image limits regs memory in
      let rest = undone t.records t.registers t.memory in
      undone more.records more.registers more.memory ≡
      record { number = first (differ (length t.memory) 32768 17) rest.number; registers = rest.registers; memory = rest.memory }
  unfolding traced undone
  last_undone n = let t = traced n image limits regs memory in rw (given_back_lem image limits t.registers t.memory)

  -- whatever the steps answered
  pub all_undone : (n : ℕ) → let t = traced n image limits regs memory in let u = undone t.records t.registers t.memory in
      (u.registers ≡ regs) × (u.memory ≡ memory)
  unfolding traced undone
  all_undone zero = (refl, refl)
  all_undone (suc n) = rw (last_undone n) (all_undone n)

  -- and none is refused
  pub none_refused : length memory ≡ 32768 → (n : ℕ) → let t = traced n image limits regs memory in
      (undone t.records t.registers t.memory).number ≡ 0
  unfolding traced undone
  none_refused full zero = refl
  none_refused full (suc n) =
      ap (λ (u : Undone). u.number) (last_undone n) ∙ (differ_pass _ 32768 17 (size_stays n ∙ full) & none_refused full n)
