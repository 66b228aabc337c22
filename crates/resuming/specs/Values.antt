-- The numbers of what resuming answers: 64 finished, 65 spent, as a run's, else the refusal's.
use Rattle.std.specs.Prelude.{ℕ, ◌≤◌, ◌≡◌, ◌⊎◌}
use Rattle.resuming.specs.declared.ResumeAnswer.{ResumeAnswer}
use Rattle.resuming.specs.declared.ResumeAnswer.TheVariants.{Finished, Spent, Refused}

abbrev pub resume_number : ResumeAnswer → ℕ
resume_number Finished = 64
resume_number Spent = 65
resume_number (Refused number offset) = number

-- the offset of a refusal, 0 where there is none
abbrev pub resume_offset : ResumeAnswer → ℕ
resume_offset Finished = 0
resume_offset Spent = 0
resume_offset (Refused number offset) = offset

-- the numbers of a refusal: 1 to 17, 34 and 35
abbrev pub RefusalNumber : ℕ → Type 0
RefusalNumber number = ((1 ≤ number) × (number ≤ 17)) ⊎ ((34 ≤ number) × (number ≤ 35))

-- What the number tells of an answer: 64 finished, 65 spent, else a refusal, and there is no other. The offset is 0 for all but 6 to 15.
pub record ResumeNumbered (answer : ResumeAnswer) : Type 0 where
  pub finished : resume_number answer ≡ 64 → answer ≡ Finished
  pub spent : resume_number answer ≡ 65 → answer ≡ Spent
  pub refused : RefusalNumber (resume_number answer) → answer ≡ Refused (resume_number answer) (resume_offset answer)
  pub known : RefusalNumber (resume_number answer) ⊎ ((resume_number answer ≡ 64) ⊎ (resume_number answer ≡ 65))
  pub nowhere : (resume_number answer ≤ 5) ⊎ (16 ≤ resume_number answer) → resume_offset answer ≡ 0
