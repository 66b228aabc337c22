-- What the comparisons show: parts that are equal make wholes that are.
use Rattle.std.proofs.Common.{◌≡◌, ℕ, ◌+◌, List, [], ◌∷◌, get_or, take, drop, ◌∙◌}
use Rattle.image.specs.Image.{limits_of}
use Rattle.image.specs.declared.Limits.{Limits}
use Rattle.execution.specs.Performing.{result}
use Rattle.machine.specs.Step.{stepped}
use Rattle.execution.specs.declared.Registers.{Registers}
use Rattle.execution.specs.declared.Stepped.{Stepped}
use Rattle.execution.specs.declared.StepAnswer.{StepAnswer}
use Rattle.execution.specs.declared.StepAnswer.TheVariants.{Made}
use Rattle.vectors.specs.Bytes.{registers_of}
use Rattle.recorded_steps.specs.Record.{longest_image, image_of, cells_before, cells_after, Goes, AsRecorded}

same_result : (p q : StepAnswer) (r s : Registers) (m n : List ℕ) → p ≡ q → r ≡ s → m ≡ n → result p r m ≡ result q s n
same_result p q r s m n e₁ e₂ e₃ = rw (e₁, e₂, e₃)

pub step_goes : (image : List ℕ) (limits : Limits) (before : Registers) (memory : List ℕ) (r : Stepped) (m : List ℕ)
    (after : Registers) (expected : List ℕ) → limits ≡ limits_of (0x00 ∷ 0x00 ∷ 0x14 ∷ 0xFF ∷ 0x16 ∷ 0x00 ∷ 0x17 ∷ 0xFF ∷ 0xFF ∷ 0xFF ∷ 0x00 ∷ 0x00 ∷ []) →
    stepped image limits before memory ≡ (r, m) → r.answer ≡ Made → r.registers ≡ after → m ≡ expected →
    Goes image before memory after expected
unfolding Goes
step_goes image limits before memory r m after expected el es ea er em =
    (rw el at es) ∙ same_result r.answer Made r.registers after m expected ea er em

pub record_goes : (s image memory expected m n : List ℕ) (end : ℕ) (before after : Registers) →
    end ≡ 10 + get_or s 0 0 → image ≡ longest_image s → before ≡ registers_of (take 11 (drop 6 s)) → after ≡ registers_of (take 11 (drop 29 s)) →
    m ≡ cells_before s memory → n ≡ cells_after s expected → Goes (take end image) before m after n → AsRecorded s memory expected
unfolding AsRecorded image_of
record_goes s image memory expected m n end before after e₁ e₂ e₃ e₄ e₅ e₆ g = rw (e₁, e₂, e₃, e₄, e₅, e₆) at g
