-- The code of an image: what stands at an offset from its first byte, and where the instructions of a routine begin.
use Rattle.std.specs.Prelude.{ℕ, ◌+◌, ◌-◌, ◌<◌, ◌≡◌, List, take, drop, Ok}
use Rattle.stm8.specs.Decoding.{Decoded}
use Rattle.stm8.specs.declared.Instruction.{Instruction}
use Rattle.image.specs.Image.{version_of, code_of, size_of, start_of, end_of}
use Rattle.code.specs.Set.{decoded_for}

-- what the bytes at an offset are; they end at a bound
unfoldable pub decoded_at : List ℕ → ℕ → ℕ → Decoded
decoded_at image end o = decoded_for (version_of image) (take (end - o) (drop o (code_of image)))

-- in routine r they end with the routine,
abbrev pub instruction_at : List ℕ → ℕ → ℕ → Decoded
instruction_at image r o = decoded_at image (end_of image r) o

-- and where a step takes them, with the code
abbrev pub instruction_in : List ℕ → ℕ → Decoded
instruction_in image o = decoded_at image (size_of image) o

-- Each routine is swept from its first byte, instruction after instruction; where one begins is a start.
pub data Start (image : List ℕ) (r : ℕ) : ℕ → Type 0 where
  begins : Start image r (start_of image r)
  follows : {o n : ℕ} {i : Instruction} → Start image r o → instruction_at image r o ≡ Ok (i, n) → o + n < end_of image r → Start image r (o + n)
