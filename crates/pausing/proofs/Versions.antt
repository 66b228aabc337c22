-- Resuming goes by what a record says, not by its version.
use Prim.Native.Nat.{ℕ, ◌≤◌}
use mathlib.Core.Path.{◌≡◌, sym, ◌∙◌}
use mathlib.Core.List.{List}
use Rattle.image.specs.declared.Limits.{Limits}
use Rattle.execution.specs.declared.Registers.{Registers}
use Rattle.saved_state.specs.Sls.{state_bytes, saved_check, state_in}
use Rattle.saved_state.proofs.Trips.{older_reads}
use Rattle.resuming.specs.Resuming.{ResumesAccepted, unreadable, not_good, resumed, Resumes, no_memory, refused, accepted}
use Rattle.resuming.specs.declared.Resumed.{Resumed}
use Rattle.pausing.proofs.OneOutcome.{one_outcome}

-- records that say the same resume alike
module _ {image : List ℕ} {limits : Limits} {memory bytes bytes' : List ℕ} {budget : ℕ} (check-same : saved_check bytes ≡ saved_check bytes')
    (says_same : state_in bytes ≡ state_in bytes') where
  alike_accepted : {marks after : List ℕ} {r : Resumed} → ResumesAccepted image limits marks memory bytes budget r after →
      ResumesAccepted image limits marks memory bytes' budget r after
  alike_accepted (unreadable is some) = unreadable (sym check-same ∙ is) some
  alike_accepted (not_good read bad) = not_good (sym check-same ∙ read) (rw says_same at bad)
  alike_accepted (resumed read good ends is) = resumed (sym check-same ∙ read) (rw says_same at good) (rw says_same at ends) (rw says_same at is)

  alike : {marks left after : List ℕ} {r : Resumed} → Resumes image limits marks memory bytes budget r left after →
      Resumes image limits marks memory bytes' budget r left after
  alike (no_memory other) = no_memory other
  alike (refused size check) = refused size check
  alike (accepted size check rest) = accepted size check (alike_accepted rest)

-- A record of version 0001 resumes to what the record of version 0002 with the same registers and total does: answer, registers, steps, cycles, marks and
-- memory.
pub versions_agree : (image : List ℕ) (limits : Limits) (memory : List ℕ) (regs : Registers) (steps budget : ℕ) → steps ≤ 0xFFFFFFFF →
    {marks left left' after after' : List ℕ} {r r' : Resumed} → Resumes image limits marks memory (state_bytes 0x0001 regs steps) budget r left after →
    Resumes image limits marks memory (state_bytes 0x0002 regs steps) budget r' left' after' →
    (r ≡ r') × (left ≡ left') × (after ≡ after')
versions_agree image limits memory regs steps budget few before now =
    let same = older_reads regs steps few in
    one_outcome image limits memory (state_bytes 0x0002 regs steps) budget (alike same.0 same.1 before) now
