-- 13 and 10 by the cells are 13 and 10 of the code.
use Prim.Native.Nat.{ℕ, ◌+◌, ◌-◌, ◌<◌, ◌≤◌}
use mathlib.Core.Path.{◌≡◌}
use mathlib.Core.Option.{some}
use mathlib.Core.Logic.{⊎_elim}
use mathlib.Core.Bool.{cond}
use mathlib.Core.List.{List}
use native.Mathlib.Omega.{arith}
use lib.Dec.{eqb}
use borrow.Author.Tests.{eqb-true, le-ltb, ne_eqb}
use Rattle.std.specs.Prelude.{Ok}
use Rattle.numbers.proofs.Checking.{by_test}
use Rattle.stm8.specs.Effects.{jump_target, effect}
use Rattle.stm8.proofs.EffectLaws.{one_target}
use Rattle.stm8.specs.declared.Instruction.{Instruction}
use Rattle.stm8.specs.declared.Flow.{Flow}
use Rattle.image.specs.declared.Limits.{Limits}
use Rattle.image.specs.Image.{base_of, start_of, end_of}
use Rattle.code.specs.Code.{instruction_at, Start}
use Rattle.rules.specs.Refusal.{JumpFault, leaves, inside, jumps}
use Rattle.code.proofs.Starts.{same_found}
use Rattle.rules.proofs.RefusalNumbers.{fault_at}
use Rattle.control_flow.specs.Routine as cells
use Rattle.control_flow.proofs.Numbers as numbers
use Rattle.acceptance.specs.Cells.{Filled}
use Rattle.acceptance.proofs.JumpCells as jump
use Rattle.acceptance.proofs.Faults.{Finds}

-- the number of a jump that stays in its routine
stays_number : (starts : ℕ → ℕ) (to : ℕ) → to < 4096 → cells.jump_number starts (to + 1) ≡ cond (eqb (starts to) 0) 10 0
unfolding cells.jump_number
stays_number starts to small =
    let back : to + 1 - 1 ≡ to = omega arith in
    rw (ne_eqb (to + 1) 0 (λ z. omega arith), le-ltb 4096 (to + 1) (omega arith), back)

module _ {image : List ℕ} {limits : Limits} {r : ℕ} {x : cells.Routine} (filled : Filled image limits r x) (size : x.end ≤ 4096) where
  abbrev JumpCell : ℕ → Flow → ℕ → Type 0
  JumpCell = jump.JumpCell (base_of image) (start_of image r) (end_of image r)

  stray : {o n cell : ℕ} {i : Instruction} → Start image r o → instruction_at image r o ≡ Ok (i, n) →
      JumpCell (o + n) (effect i).flow cell → 1 ≤ cells.jump_number x.starts cell → JumpFault image r o (cells.jump_number x.starts cell)
  unfolding cells.jump_number
  stray s f (jump.absent no_jump) = λ positive. absurd (omega arith)
  stray s f (jump.leaves j out) = λ positive. leaves s f j out
  stray {o} s f (jump.stays {to = to} j low high) =
      rw (stays_number x.starts to (omega (arith, filled.end)))
      (by_test (λ n. 1 ≤ n → JumpFault image r o n) (eqb (x.starts to) 0)
      (λ t positive. let none = eqb-true (x.starts to) 0 t in inside s f j low high (λ u. omega (arith, (filled.starts to u).is)))
      (λ t positive. absurd (omega arith)))

  lands : {next cell : ℕ} {flow : Flow} → JumpCell next flow cell → cells.jump_number x.starts cell ≡ 0 →
      {address : ℕ} → jump_target (base_of image + next) flow ≡ some address → (to : ℕ) × (address ≡ base_of image + to) × Start image r to
  lands (jump.absent no_jump) pass k = absurd (no_jump _ k)
  lands (jump.leaves j out) pass k = absurd (omega (arith, (numbers.jump_lands x.starts 65535 pass (omega arith)).0))
  lands (jump.stays {to = to} j low high) pass k =
      let back : to + 1 - 1 ≡ to = omega arith in
      let is : 1 ≤ x.starts to = rw back at (numbers.jump_lands x.starts (to + 1) pass (omega arith)).1 in
      (to, one_target k j, filled.start to (record { low = omega (arith, filled.entry); high = omega (arith, filled.end); is = is }))

  -- a jump that passes lands on a start
  pub jump_lands : {o n : ℕ} {i : Instruction} → Start image r o → instruction_at image r o ≡ Ok (i, n) → cells.jump_check x o ≡ 0 →
      {address : ℕ} → jump_target (base_of image + (o + n)) (effect i).flow ≡ some address →
      (to : ℕ) × (address ≡ base_of image + to) × Start image r to
  jump_lands {o} s f pass j =
      let same = same_found f (filled.cells o s).found in
      lands (jump.jump_stored (filled.cells o s)) pass (rw (same.0, same.1) at j)

  no_stray : {o n : ℕ} → JumpFault image r o n → cells.jump_check x o ≡ 0 → ⊥
  no_stray (leaves s f j out) pass =
      let l = jump_lands s f pass j in
      let t = filled.starts _ l.2 in
      ⊎_elim (λ h. omega (arith, l.1, t.low, filled.entry)) (λ h. omega (arith, l.1, t.high, filled.end)) out
  no_stray (inside {to = to} s f j low high none) pass =
      let l = jump_lands s f pass j in
      let there : to ≡ l.0 = omega (arith, l.1) in
      none (rw there l.2)

  pub strays : Finds x (cells.jump_check x) (JumpFault image r)
  strays =
      record {
        finds = λ o s some.
            let t = filled.start o s in
            let c = filled.cells o t in
            stray t c.found (jump.jump_stored c) some;
        start = λ o n a. filled.starts o (fault_at limits jumps o n a).start;
        fails = λ o n a. no_stray a;
      }
