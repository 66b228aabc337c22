-- Marks that an accepting check left: at every start its depth + 1, elsewhere 0.
use Prim.Native.Nat.{ℕ, ◌<◌, ◌≤◌}
use mathlib.Core.Logic.{⊎_elim}
use mathlib.Core.List.{List}
use native.Mathlib.Omega.{arith}
use lib.ListN.{length, get_or}
use Rattle.image.specs.declared.Limits.{Limits}
use Rattle.image.specs.Image.{count_of, size_of}
use Rattle.code.specs.Code.{Start}
use Rattle.acceptance.specs.Passed.{depth_in}
use Rattle.acceptance.proofs.Accepting.{accept_sound}
use Rattle.acceptance.proofs.EveryCheck.{past_code}
use Rattle.gate.proofs.CheckedCode.{CheckedCode}
use Rattle.gate.proofs.Guarantee.{accepted_code}
use Rattle.resuming.specs.Internal.{Accepting}

pub record MarkedCode (image : List ℕ) (limits : Limits) (marks : List ℕ) : Type 0 where
  pub needs : ℕ → ℕ
  pub code : CheckedCode image limits (depth_in marks) needs
  pub enough : size_of image ≤ length marks
  pub starts : {r o : ℕ} → r < count_of image → Start image r o → 1 ≤ get_or marks o 0
  pub exact : (o : ℕ) → o < size_of image → 1 ≤ get_or marks o 0 → (r : ℕ) × (r < count_of image) × Start image r o

pub marked_code : {image : List ℕ} {limits : Limits} {begins marks : List ℕ} → Accepting image limits begins marks → MarkedCode image limits marks
marked_code {image} {limits} a =
    let h = accept_sound image limits a.given a.verdict in
    let c = accepted_code image a.bytes limits a.given a.need a.count a.verdict in
    rw (← a.left)
    (record {
      needs = c.needs;
      code = c.code;
      enough = omega (arith, h.0.enough, (past_code image limits a.given).size);
      starts = λ listed s. omega (arith, h.1.starts _ _ listed s);
      exact = λ o below some. ⊎_elim (λ z. absurd (omega arith)) (λ at. at) (h.1.others o below);
    })
