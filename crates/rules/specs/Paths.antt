-- Where control goes from the instructions of a routine, which of them are reached, and the depths of the paths to them. Offsets count from the
-- first code byte.
use Rattle.std.specs.Prelude.{ℕ, zero, suc, ◌+◌, ◌-◌, ◌<◌, ◌≡◌, true, cond, List, eqb, ltb, Ok}
use Rattle.std.proofs.Math.Option.{some}
use Rattle.stm8.specs.Effects.{jump_target, effect}
use Rattle.stm8.specs.declared.Instruction.{Instruction}
use Rattle.image.specs.Image.{base_of, start_of}
use Rattle.code.specs.Code.{instruction_at}
use Rattle.code.specs.Depth.{popped, pushed, falls}

-- A call goes to the first byte of a routine earlier in the table.
pub record Callee (image : List ℕ) (r address callee : ℕ) : Type 0 where
  pub earlier : callee < r
  pub target : address ≡ base_of image + start_of image callee

-- The same as a function, which the theorems of Callees.antt are about. The routine that begins at an offset, of n routines from j on; j + n where none
-- does:
unfoldable pub beginning : List ℕ → ℕ → ℕ → ℕ → ℕ
beginning image offset zero j = j
beginning image offset (suc n) j = cond (eqb (start_of image j) offset) j (beginning image offset n (j + 1))

-- so the callee of a call from routine r; r where the call goes to the first byte of no routine earlier in the table
unfoldable pub callee : List ℕ → ℕ → ℕ → ℕ
callee image r address = cond (ltb address (base_of image)) r (beginning image (address - base_of image) r 0)

-- control goes from an offset of routine r to another one: it falls, as only JRA and RET do not, or it jumps
pub data Goes (image : List ℕ) (r o to : ℕ) : Type 0 where
  falling : {n : ℕ} {i : Instruction} → instruction_at image r o ≡ Ok (i, n) → falls (effect i).flow ≡ true → to ≡ o + n → Goes image r o to
  jumping : {n : ℕ} {i : Instruction} →
      instruction_at image r o ≡ Ok (i, n) → jump_target (base_of image + (o + n)) (effect i).flow ≡ some (base_of image + to) → Goes image r o to

-- A routine's first byte is always reached; a start is reached by falling or by any jump from a reached start of its routine.
pub data Reached (image : List ℕ) (r : ℕ) : ℕ → Type 0 where
  entered : Reached image r (start_of image r)
  followed : {o to : ℕ} → Reached image r o → Goes image r o to → Reached image r to

-- A path from the entry: either way at each conditional jump, passing over calls. It counts the bytes pushed and the bytes popped on the way; its
-- depth is their difference, which goes on below 0 and above 255.
pub data Path (image : List ℕ) (r : ℕ) : ℕ → ℕ → ℕ → Type 0 where
  entry : Path image r (start_of image r) 0 0
  onward : {o to pushes pops n : ℕ} {i : Instruction} → Path image r o pushes pops → instruction_at image r o ≡ Ok (i, n) → Goes image r o to →
      Path image r to (pushes + pushed (effect i)) (pops + popped (effect i))

-- two paths give some start different depths: pushes - pops is not pushes' - pops' (where 8, 9, 15, 13 and 10 pass, a path leads to starts alone)
pub record Disagree (image : List ℕ) (r : ℕ) : Type 0 where
  pub offset : ℕ
  pub pushes : ℕ
  pub pops : ℕ
  pub pushes' : ℕ
  pub pops' : ℕ
  pub path : Path image r offset pushes pops
  pub path' : Path image r offset pushes' pops'
  pub differ : pushes + pops' ≡ pushes' + pops → ⊥
