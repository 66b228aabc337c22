-- Document 01's rules for the code of an image: depth, reach and need. Nothing here knows how a check goes about them. A depth for each offset and
-- a need for each routine are given: the rules say whether they are the right ones.
use Rattle.std.specs.Prelude.{ℕ, zero, suc, ◌+◌, ◌-◌, ◌<◌, ◌≤◌, ◌≡◌, Bool, true, ◌↔◌, List, Ok}
use Rattle.std.proofs.Math.Option.{some}
use Rattle.numbers.specs.Bits.{flag}
use Rattle.stm8.specs.Effects.{bytes_wide, jump_target, call_target, effect}
use Rattle.stm8.specs.declared.Instruction.{Instruction}
use Rattle.stm8.specs.declared.Effect.{Effect}
use Rattle.stm8.specs.declared.Place.{Place}
use Rattle.stm8.specs.declared.Place.TheVariants.{Nowhere, Direct, OnStack, Pushed}
use Rattle.stm8.specs.declared.Flow.TheVariants.{Return}
use Rattle.image.specs.declared.Limits.{Limits}
use Rattle.image.specs.Image.{base_of, count_of, size_of, start_of, end_of, main_of}
use Rattle.image.specs.Access.{StoreGranted}
use Rattle.image.specs.Rules.{LimitsRules, ImageRules}
use Rattle.code.specs.Depth.{popped, after, falls}
use Rattle.code.specs.Code.{instruction_at, Start}
use Rattle.rules.specs.Paths.{Callee, Reached}

-- Jumps stay in the routine, land on starts, and agree on depth. `At to depth` says that a start at that depth is there.
pub record JumpRules (image : List ℕ) (r : ℕ) (At : ℕ → ℕ → Type 0) (address depth : ℕ) : Type 0 where
  pub to : ℕ
  pub target : address ≡ base_of image + to
  pub low : start_of image r ≤ to
  pub high : to < end_of image r
  pub lands : At to depth

-- A direct store, both bytes of a word included, lies wholly in one of the two grants. An SP store at offset f needs f at least 1 and its last byte at
-- most at the depth.
abbrev pub StoreRules : Limits → ℕ → Place → Type 0
StoreRules limits depth Nowhere = Unit {0}
StoreRules limits depth (Direct address w) = StoreGranted limits address (bytes_wide w)
StoreRules limits depth (OnStack f w) = (1 ≤ f) × (f + (bytes_wide w - 1) ≤ depth)
StoreRules limits depth (Pushed w) = Unit {0}

-- an instruction of n bytes at offset o of routine r, at a depth
pub record InstructionRules (image : List ℕ) (limits : Limits) (r : ℕ) (At : ℕ → ℕ → Type 0) (o depth : ℕ) (i : Instruction) (n : ℕ) : Type 0 where
  -- depth is from 0 to 255, before the instruction and after it (no instruction of the set both pops and pushes bytes of the routine's own)
  pub pops_enough : popped (effect i) ≤ depth
  pub depth_before : depth ≤ 255
  pub depth_after : after (effect i) depth ≤ 255
  -- RET needs depth 0
  pub return_empty : (effect i).flow ≡ Return → depth ≡ 0
  pub store : StoreRules limits depth (effect i).place
  pub jump : {address : ℕ} → jump_target (base_of image + (o + n)) (effect i).flow ≡ some address → JumpRules image r At address (after (effect i) depth)
  pub call : {address : ℕ} → call_target (base_of image + (o + n)) (effect i).flow ≡ some address → (callee : ℕ) × Callee image r address callee
  -- what falls through, and only JRA and RET do not, falls on a start of the routine
  pub fall : falls (effect i).flow ≡ true → At (o + n) (after (effect i) depth)

-- offset o is a start of routine r, at depth d
pub record StartAt (image : List ℕ) (depth : ℕ → ℕ) (r o d : ℕ) : Type 0 where
  pub start : Start image r o
  pub deep : depth o ≡ d

-- At a start stands a whole instruction of the set, and the start is reached. What that means is given, so that the reach of today and the one of
-- Before.antt are read side by side.
pub record StartRules (Reach : ℕ → ℕ → Type 0) (image : List ℕ) (limits : Limits) (depth : ℕ → ℕ) (r o : ℕ) : Type 0 where
  pub instruction : Instruction
  pub size : ℕ
  pub found : instruction_at image r o ≡ Ok (instruction, size)
  pub reached : Reach r o
  pub rules : InstructionRules image limits r (StartAt image depth r) o (depth o) instruction size

-- Depth is 0 at a routine's first byte.
pub record RoutineRulesBy (Reach : ℕ → ℕ → Type 0) (image : List ℕ) (limits : Limits) (depth : ℕ → ℕ) (r : ℕ) : Type 0 where
  pub entry : depth (start_of image r) ≡ 0
  pub starts : {o : ℕ} → Start image r o → StartRules Reach image limits depth r o

abbrev pub RoutineRules : List ℕ → Limits → (ℕ → ℕ) → ℕ → Type 0
RoutineRules image = RoutineRulesBy (Reached image) image

-- the stack bytes that an instruction has routine r use: its depths before and after and, at a call, depth + 2 + the callee's need
pub data InstructionUse (image : List ℕ) (need : ℕ → ℕ) (r next depth : ℕ) (e : Effect) : ℕ → Type 0 where
  before : InstructionUse image need r next depth e depth
  behind : InstructionUse image need r next depth e (after e depth)
  calling : {address callee : ℕ} → call_target next e.flow ≡ some address → Callee image r address callee →
      InstructionUse image need r next depth e (depth + 2 + need callee)

-- and those of each instruction
pub record Use (image : List ℕ) (depth need : ℕ → ℕ) (r v : ℕ) : Type 0 where
  pub offset : ℕ
  pub instruction : Instruction
  pub size : ℕ
  pub start : Start image r offset
  pub found : instruction_at image r offset ≡ Ok (instruction, size)
  pub used : InstructionUse image need r (base_of image + (offset + size)) (depth offset) (effect instruction) v

pub record Greatest (P : ℕ → Type 0) (most : ℕ) : Type 0 where
  pub is : P most
  pub bounds : {v : ℕ} → P v → v ≤ most

-- a routine's need is the greatest of what it uses
abbrev pub NeedRules : List ℕ → (ℕ → ℕ) → (ℕ → ℕ) → Type 0
NeedRules image depth need = (r : ℕ) → r < count_of image → Greatest (Use image depth need r) (need r)

-- Reported need is 2 + main's need.
abbrev pub reported_need : List ℕ → (ℕ → ℕ) → ℕ
reported_need image need = 2 + need (main_of image)

-- all rules; the stack area is not below reported need
pub record RulesBy (Reach : ℕ → ℕ → Type 0) (image : List ℕ) (limits : Limits) (depth need : ℕ → ℕ) : Type 0 where
  pub areas : LimitsRules limits
  pub layout : ImageRules image
  pub routines : (r : ℕ) → r < count_of image → RoutineRulesBy Reach image limits depth r
  pub needs : NeedRules image depth need
  pub room : limits.stack.low + reported_need image need ≤ limits.stack.high + 1

abbrev pub Rules : List ℕ → Limits → (ℕ → ℕ) → (ℕ → ℕ) → Type 0
Rules image = RulesBy (Reached image) image

-- how many of the numbers below n pass a test
unfoldable pub count_below : (ℕ → Bool) → ℕ → ℕ
count_below test zero = 0
count_below test (suc n) = count_below test n + flag (test n)

-- The count reported is the number of starts.
pub record StartCount (image : List ℕ) (count : ℕ) : Type 0 where
  pub is_start : ℕ → Bool
  pub exact : (o : ℕ) → o < size_of image → (is_start o ≡ true) ↔ ((r : ℕ) × (r < count_of image) × Start image r o)
  pub counts : count ≡ count_below is_start (size_of image)
