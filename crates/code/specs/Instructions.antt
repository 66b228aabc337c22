-- The starts and the instructions of a routine as lists, rising.
use Rattle.std.specs.Prelude.{ℕ, zero, suc, ◌+◌, ◌-◌, cond, eqb, ltb, Ok, Err}
use mathlib.Core.List.{List, [], ◌∷◌, flat_map}
use Rattle.stm8.specs.Decoding.{Decoded}
use Rattle.stm8.specs.declared.Instruction.{Instruction}
use Rattle.image.specs.Image.{start_of, end_of}
use Rattle.code.specs.Code.{instruction_at}

-- a member of a list
pub data In {A : Type 0} (x : A) : List A → Type 0 where
  head : {rest : List A} → In x (x ∷ rest)
  tail : {y : A} {rest : List A} → In x rest → In x (y ∷ rest)

-- the bytes of an instruction, 0 where there is none
abbrev pub found_size : Decoded → ℕ
found_size (Ok (i, n)) = n
found_size (Err e) = 0

-- the starts from an offset on, to the routine's end or to one where no instruction stands; fuel is at least the number of bytes left
unfoldable pub starts_from : ℕ → List ℕ → ℕ → ℕ → List ℕ
starts_from zero image r o = []
starts_from (suc fuel) image r o =
    let n = found_size (instruction_at image r o) in
    o ∷ cond (eqb n 0) [] (cond (ltb (o + n) (end_of image r)) (starts_from fuel image r (o + n)) [])

unfoldable pub starts_of : List ℕ → ℕ → List ℕ
starts_of image r = starts_from (end_of image r - start_of image r) image r (start_of image r)

-- an instruction of a routine: where it begins, what it is, and its bytes
pub record Located : Type 0 where
  pub offset : ℕ
  pub instruction : Instruction
  pub size : ℕ

abbrev pub located_at : ℕ → Decoded → List Located
located_at o (Ok (i, n)) = record { offset = o; instruction = i; size = n } ∷ []
located_at o (Err e) = []

-- the instructions at a routine's starts; that these are all of them, and nothing else, is a theorem
unfoldable pub instructions_of : List ℕ → ℕ → List Located
instructions_of image r = flat_map (λ o. located_at o (instruction_at image r o)) (starts_of image r)
