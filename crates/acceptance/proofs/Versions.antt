-- What an accepted image's version says of its instructions.
use Prim.Native.Nat.{ℕ, ◌-◌, ◌<◌}
use mathlib.Core.Path.{◌≡◌, ap, sym, ◌∙◌}
use mathlib.Core.Bool.{true, false≢true}
use mathlib.Core.List.{List}
use lib.ListN.{take, drop}
use Rattle.std.specs.Prelude.{Ok}
use Rattle.stm8.specs.Decoding.{decoded}
use Rattle.stm8.specs.declared.Instruction.{Instruction}
use Rattle.stm8.specs.declared.Instruction.TheVariants.{Callr}
use Rattle.image.specs.declared.Limits.{Limits}
use Rattle.image.specs.Image.{version_of, count_of, code_of, end_of}
use Rattle.code.specs.Set.{allowed}
use Rattle.code.specs.Code.{decoded_at, Start}
use Rattle.code.proofs.Sets.{found_in_set}
use Rattle.rules.specs.Verdict.{Accepted}
use Rattle.acceptance.specs.Check.{checked}
use Rattle.acceptance.proofs.Accepting.{accept_sound}

-- At each start of an accepted image of version 0002 the whole map too has an instruction, and it is no CALLR.
pub no_callr : (image : List ℕ) (limits : Limits) (marks : List ℕ) {need count : ℕ} → (checked image limits marks).0 ≡ Accepted need count →
    version_of image ≡ 0x0002 → (r o : ℕ) → r < count_of image → Start image r o →
    (i : Instruction) × (n : ℕ) × (decoded (take (end_of image r - o) (drop o (code_of image))) ≡ Ok (i, n)) × ((m : ℕ) → i ≡ Callr m → ⊥)
unfolding decoded_at
no_callr image limits marks e second r o inside start =
    let rules = ((accept_sound image limits marks e).0.rules.routines r inside).starts start in
    let i = rules.instruction in
    let n = rules.size in
    let here = found_in_set (version_of image) i n (take (end_of image r - o) (drop o (code_of image))) rules.found in
    let in_set : allowed 0x0002 i ≡ true = ap (λ v. allowed v i) (sym second) ∙ here.1 in
    (i, n, here.0, λ m callr. false≢true (ap (allowed 0x0002) (sym callr) ∙ in_set))
