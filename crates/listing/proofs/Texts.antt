-- At each start of an accepted image stands an instruction, so that each line has its text.
use Prim.Native.Nat.{ℕ, ◌<◌}
use mathlib.Core.Path.{◌≡◌}
use mathlib.Core.Logic.{⊎_elim}
use mathlib.Core.List.{List}
use lib.ListN.{get_or}
use Rattle.std.specs.Prelude.{Ok}
use Rattle.numbers.specs.Lists.{Bytes}
use Rattle.stm8.specs.declared.Instruction.{Instruction}
use Rattle.image.specs.Image.{code_of, size_of}
use Rattle.image.specs.declared.Limits.{Limits}
use Rattle.acceptance.specs.Check.{checked}
use Rattle.rules.specs.Verdict.{Accepted}
use Rattle.acceptance.proofs.Accepting.{accept_sound}
use Rattle.image.proofs.Measuring.{end_inside}
use Rattle.code.specs.Code.{instruction_in}
use Rattle.code.proofs.Starts.{found_in_code}

module _ (image : List ℕ) (limits : Limits) (marks : List ℕ) (bytes : Bytes (code_of image)) where
  pub start_text : {need count : ℕ} → (checked image limits marks).0 ≡ Accepted need count → (offset : ℕ) → offset < size_of image →
      (get_or (checked image limits marks).1 offset 0 ≡ 0 → ⊥) →
      (i : Instruction) × (size : ℕ) × (instruction_in image offset ≡ Ok (i, size))
  start_text e offset below some =
      let sound = accept_sound image limits marks e in
      ⊎_elim (λ none. absurd (some none))
      (λ start.
      let rules = (sound.0.rules.routines start.0 start.1).starts start.2 in
      (rules.instruction, rules.size, found_in_code image start.0 bytes (end_inside image start.0 start.1) offset rules.found))
      (sound.1.others offset below)
