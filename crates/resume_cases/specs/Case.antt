-- A case as bytes. One that saves: registers, and steps at 11. One that resumes: limits, marks and memory, the length of the saved state at 15, the
-- saved state, and the budget after it.
use Rattle.std.specs.Prelude.{ℕ, ◌+◌, ◌*◌, List, get_or, take, drop}
use Rattle.image.specs.Image.{limits_of}
use Rattle.saved_state.specs.Sls.{saved}
use Rattle.saved_state.specs.declared.Saved.{Saved}
use Rattle.resuming.specs.Resuming.{Resumes}
use Rattle.resuming.specs.declared.Resumed.{Resumed}
use Rattle.vectors.specs.Bytes.{long_at, registers_of}

-- steps of 64 bits
abbrev pub steps_in : List ℕ → ℕ
steps_in bytes = long_at bytes 11 * 4294967296 + long_at bytes 15

-- what saving gives
abbrev pub saved_of : List ℕ → Saved
saved_of bytes = saved (registers_of (take 11 bytes)) (steps_in bytes)

-- the saved state of a case that resumes
abbrev pub saved_in : List ℕ → List ℕ
saved_in bytes = take (get_or bytes 15 0) (drop 16 bytes)

-- its budget
abbrev pub budget_in : List ℕ → ℕ
budget_in bytes = long_at bytes (16 + get_or bytes 15 0)

-- what resuming from it gives, on an image, marks and a memory: the answer, and the marks and the memory after it
abbrev pub ResumesCase : List ℕ → List ℕ → List ℕ → List ℕ → Resumed → List ℕ → List ℕ → Type 0
ResumesCase bytes image marks memory = Resumes image (limits_of bytes) marks memory (saved_in bytes) (budget_in bytes)
