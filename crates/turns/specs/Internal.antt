-- What the private functions that sum turns ask of each other. No public contract cites it.
use Rattle.std.specs.Prelude.{ℕ, ◌+◌, ◌≤◌, min, ◌≡◌, false, List, [], get_or, Ok, true, Option, Some, None, MatchOption}
use Rattle.stm8.specs.declared.Instruction.{Instruction}
use Rattle.image.specs.Image.{end_of, main_of}
use Rattle.code.specs.Code.{instruction_at}
use Rattle.code.specs.Instructions.{found_size, located_at}
use Rattle.turns.specs.Turn.{jumps_back, routine_jumps_back, some_jumps_back, instruction_turn, turn_after, turn_of}
use Rattle.turns.specs.declared.summing.Counted.{Counted}

-- A sum above 4,294,967,295 is held as the first number above it: so it saturates, and is still known to be above.
unfoldable pub held : ℕ → ℕ
held n = min n 4294967296

-- cells that hold the turns of the routines before one, and 0 past them
abbrev pub HeldIn : List ℕ → List ℕ → Type 0
HeldIn cells turns = (k : ℕ) → get_or cells k 0 ≡ held (get_or turns k 0)

-- no cell holds more
abbrev pub Fit : List ℕ → Type 0
Fit cells = (k : ℕ) → get_or cells k 0 ≤ 4294967296

-- What stands at an offset of routine r: its turn, to what is held, and where it ends, or none where it jumps back. Where no instruction stands the
-- instructions are over.
pub data CountedAt (image turns : List ℕ) (r at : ℕ) : Option Counted → Type 0 where
  back : {i : Instruction} {n : ℕ} → instruction_at image r at ≡ Ok (i, n) →
      jumps_back image (record { offset = at; instruction = i; size = n }) ≡ true → CountedAt image turns r at None
  one : {i : Instruction} {n : ℕ} {c : Counted} → instruction_at image r at ≡ Ok (i, n) →
      jumps_back image (record { offset = at; instruction = i; size = n }) ≡ false →
      held c.turn ≡ held (instruction_turn image turns r (record { offset = at; instruction = i; size = n })) → c.next ≡ at + n →
      CountedAt image turns r at (Some c)
  nothing : {c : Counted} → located_at at (instruction_at image r at) ≡ [] → found_size (instruction_at image r at) ≡ 0 → c.turn ≡ 0 →
      c.next ≡ end_of image r → CountedAt image turns r at (Some c)

-- the sum over a routine, and over main; none where a jump goes back
abbrev pub RoutineSum : List ℕ → List ℕ → ℕ → Option ℕ → Type 0
RoutineSum image turns r sum =
    MatchOption sum (routine_jumps_back image r ≡ true) (λ turn. (routine_jumps_back image r ≡ false) × (turn ≡ held (turn_after image turns r)))

abbrev pub MainSum : List ℕ → Option ℕ → Type 0
MainSum image sum =
    MatchOption sum (some_jumps_back image ≡ true) (λ turn. (some_jumps_back image ≡ false) × (turn ≡ held (turn_of image (main_of image))))
