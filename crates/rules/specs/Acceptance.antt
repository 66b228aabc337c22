-- What acceptance means, and what a check leaves in the marks.
use Rattle.std.specs.Prelude.{ℕ, ◌+◌, ◌<◌, ◌≤◌, ◌≡◌, ◌⊎◌, List, length, get_or}
use Rattle.image.specs.declared.Limits.{Limits}
use Rattle.image.specs.Image.{count_of, size_of}
use Rattle.code.specs.Code.{Start}
use Rattle.rules.specs.Rules.{reported_need, Rules, StartCount}

-- the rules hold, the marks are enough, and need and count are the ones to report
pub record Acceptable (image : List ℕ) (limits : Limits) (marks : List ℕ) (need count : ℕ) : Type 0 where
  pub depth : ℕ → ℕ
  pub needs : ℕ → ℕ
  pub rules : Rules image limits depth needs
  pub enough : size_of image ≤ length marks
  pub reported : need ≡ reported_need image needs
  pub counted : StartCount image count

-- On acceptance each start's mark holds depth + 1, every other code byte's mark 0.
pub record AcceptedMarks (image : List ℕ) (depth : ℕ → ℕ) (marks : List ℕ) : Type 0 where
  pub starts : (r o : ℕ) → r < count_of image → Start image r o → get_or marks o 0 ≡ depth o + 1
  pub others : (o : ℕ) → o < size_of image → (get_or marks o 0 ≡ 0) ⊎ ((r : ℕ) × (r < count_of image) × Start image r o)

-- After refusals 6 to 16 all code marks are 0. After 1 to 5 no mark changes.
pub record RefusedMarks (image before after : List ℕ) (number : ℕ) : Type 0 where
  pub cleared : 6 ≤ number → (o : ℕ) → o < size_of image → get_or after o 0 ≡ 0
  pub kept : number ≤ 5 → after ≡ before

-- Cells past the code never change, and no cell comes or goes.
pub record PastCode (image before after : List ℕ) : Type 0 where
  pub size : length after ≡ length before
  pub cells : (o : ℕ) → size_of image ≤ o → get_or after o 0 ≡ get_or before o 0

-- A check refuses with 1 to 16. The offset is 0 for all but 6 to 15; then it is a start of a routine, inside the code.
pub record RefusedAs (image : List ℕ) (number offset : ℕ) : Type 0 where
  pub least : 1 ≤ number
  pub most : number ≤ 16
  pub nowhere : (number ≤ 5) ⊎ (number ≡ 16) → offset ≡ 0
  pub somewhere : 6 ≤ number → number ≤ 15 → (offset < size_of image) × ((r : ℕ) × (r < count_of image) × Start image r offset)
