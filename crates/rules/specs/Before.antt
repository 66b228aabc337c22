-- Reach as it was before W-202, and the rules with it.
use Rattle.std.specs.Prelude.{ℕ, ◌+◌, ◌<◌, ◌≡◌, true, List, Ok}
use Rattle.std.proofs.Math.Option.{some}
use Rattle.stm8.specs.Effects.{jump_target, effect}
use Rattle.stm8.specs.declared.Instruction.{Instruction}
use Rattle.image.specs.declared.Limits.{Limits}
use Rattle.image.specs.Image.{base_of, start_of}
use Rattle.code.specs.Depth.{falls}
use Rattle.code.specs.Code.{instruction_at, Start}
use Rattle.rules.specs.Rules.{RulesBy}

-- A routine's first byte is always reached; any other start is reached by falling from the instruction before it or by a jump from a lower address.
-- (Every start must be reached, so a start that leads to another one is reached itself.)
pub data ReachedFromBelow (image : List ℕ) (r : ℕ) : ℕ → Type 0 where
  entered : ReachedFromBelow image r (start_of image r)
  fallen : {o n : ℕ} {i : Instruction} → Start image r o → instruction_at image r o ≡ Ok (i, n) → falls (effect i).flow ≡ true →
      ReachedFromBelow image r (o + n)
  jumped : {o n to : ℕ} {i : Instruction} →
      Start image r o → instruction_at image r o ≡ Ok (i, n) → jump_target (base_of image + (o + n)) (effect i).flow ≡ some (base_of image + to) → o < to →
      ReachedFromBelow image r to

abbrev pub RulesBefore : List ℕ → Limits → (ℕ → ℕ) → (ℕ → ℕ) → Type 0
RulesBefore image = RulesBy (ReachedFromBelow image) image
