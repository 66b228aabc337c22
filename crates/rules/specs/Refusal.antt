-- Which refusal the code of an image gets, 6 to 16, with its offset: what each number means, and the order. Nothing here knows how a check goes
-- about it.
use Rattle.std.specs.Prelude.{ℕ, ◌+◌, ◌<◌, ◌≤◌, ◌≡◌, ◌⊎◌, true, List, [], ◌∷◌, Ok, Err}
use Rattle.std.proofs.Math.Option.{some}
use Rattle.stm8.specs.Effects.{jump_target, call_target, effect}
use Rattle.stm8.specs.declared.Instruction.{Instruction}
use Rattle.stm8.specs.declared.DecodeError.TheVariants.{Outside, Truncated}
use Rattle.stm8.specs.declared.Effect.{Effect}
use Rattle.stm8.specs.declared.Flow.TheVariants.{Return}
use Rattle.image.specs.declared.Limits.{Limits}
use Rattle.image.specs.Image.{base_of, count_of, start_of, end_of}
use Rattle.code.specs.Depth.{popped, pushed, falls}
use Rattle.code.specs.Code.{instruction_at, Start}
use Rattle.rules.specs.Paths.{Callee, Reached, Path, Disagree}
use Rattle.rules.specs.Rules.{reported_need, StoreRules, RoutineRules, NeedRules}

-- 8, outside the set; 9, runs past its routine; 15, falls off its routine
pub data CodeFault (image : List ℕ) (r : ℕ) : ℕ → ℕ → Type 0 where
  outside : {o : ℕ} → Start image r o → instruction_at image r o ≡ Err Outside → CodeFault image r o 8
  cut : {o : ℕ} → Start image r o → instruction_at image r o ≡ Err Truncated → CodeFault image r o 9
  off : {o n : ℕ} {i : Instruction} → Start image r o → instruction_at image r o ≡ Ok (i, n) → falls (effect i).flow ≡ true →
      end_of image r ≤ o + n → CodeFault image r o 15

-- 13, jump leaves its routine; 10, it stays and lands on no start. Both stand at the jump.
pub data JumpFault (image : List ℕ) (r : ℕ) : ℕ → ℕ → Type 0 where
  leaves : {o n address : ℕ} {i : Instruction} → Start image r o → instruction_at image r o ≡ Ok (i, n) →
      jump_target (base_of image + (o + n)) (effect i).flow ≡ some address →
      (address < base_of image + start_of image r) ⊎ (base_of image + end_of image r ≤ address) → JumpFault image r o 13
  inside : {o n to : ℕ} {i : Instruction} → Start image r o → instruction_at image r o ≡ Ok (i, n) →
      jump_target (base_of image + (o + n)) (effect i).flow ≡ some (base_of image + to) →
      start_of image r ≤ to → to < end_of image r → (Start image r to → ⊥) → JumpFault image r o 10

-- 6, start not reached
pub data ReachFault (image : List ℕ) (r : ℕ) : ℕ → ℕ → Type 0 where
  unreached : {o : ℕ} → Start image r o → (Reached image r o → ⊥) → ReachFault image r o 6

-- 7, depths disagree, at the routine's first byte
pub data PathFault (image : List ℕ) (r : ℕ) : ℕ → ℕ → Type 0 where
  disagree : Disagree image r → PathFault image r (start_of image r) 7

-- the depth that a path comes with, pushes - pops, is from 0 to 255 before an instruction and after it, and 0 at RET
pub record InRange (e : Effect) (pushes pops : ℕ) : Type 0 where
  pub before_low : pops ≤ pushes
  pub before_high : pushes ≤ pops + 255
  pub after_low : pops + popped e ≤ pushes + pushed e
  pub after_high : pushes + pushed e ≤ pops + popped e + 255
  pub return_empty : e.flow ≡ Return → pushes ≡ pops

-- an instruction of routine r at a start, with the depth of a path to it
pub record Arrival (image : List ℕ) (r o n : ℕ) (i : Instruction) (pushes pops : ℕ) : Type 0 where
  pub start : Start image r o
  pub found : instruction_at image r o ≡ Ok (i, n)
  pub path : Path image r o pushes pops

-- 11, depth leaves 0 to 255, or RET above 0; then 12, store not allowed; then 14, call not to an earlier routine
pub data DepthFault (image : List ℕ) (limits : Limits) (r : ℕ) : ℕ → ℕ → Type 0 where
  range : {o n pushes pops : ℕ} {i : Instruction} → Arrival image r o n i pushes pops → (InRange (effect i) pushes pops → ⊥) →
      DepthFault image limits r o 11
  store : {o n pushes pops : ℕ} {i : Instruction} → Arrival image r o n i pushes pops → InRange (effect i) pushes pops →
      (depth : ℕ) → depth + pops ≡ pushes → (StoreRules limits depth (effect i).place → ⊥) → DepthFault image limits r o 12
  call : {o n pushes pops address : ℕ} {i : Instruction} → Arrival image r o n i pushes pops → InRange (effect i) pushes pops →
      (depth : ℕ) → depth + pops ≡ pushes → StoreRules limits depth (effect i).place →
      call_target (base_of image + (o + n)) (effect i).flow ≡ some address → ((callee : ℕ) → Callee image r address callee → ⊥) → DepthFault image limits r o 14

-- the five tests of a routine, in their order
pub data Phase : Type 0 where
  codes : Phase
  jumps : Phase
  reach : Phase
  paths : Phase
  depths : Phase

abbrev pub order : List Phase
order = codes ∷ jumps ∷ reach ∷ paths ∷ depths ∷ []

-- what each refuses: at an offset, with a number
abbrev pub Fault : List ℕ → Limits → ℕ → Phase → ℕ → ℕ → Type 0
Fault image limits r codes = CodeFault image r
Fault image limits r jumps = JumpFault image r
Fault image limits r reach = ReachFault image r
Fault image limits r paths = PathFault image r
Fault image limits r depths = DepthFault image limits r

-- a fault of a phase that has none at a lower offset
pub record Lowest (At : ℕ → ℕ → Type 0) (number offset : ℕ) : Type 0 where
  pub fault : At offset number
  pub lowest : (o n : ℕ) → o < offset → At o n → ⊥

-- the lowest fault of the first phase that has one
pub data FirstOf (At : Phase → ℕ → ℕ → Type 0) : List Phase → ℕ → ℕ → Type 0 where
  here : {phase : Phase} {rest : List Phase} {number offset : ℕ} → Lowest (At phase) number offset → FirstOf At (phase ∷ rest) number offset
  later : {phase : Phase} {rest : List Phase} {number offset : ℕ} → ((o n : ℕ) → At phase o n → ⊥) → FirstOf At rest number offset →
      FirstOf At (phase ∷ rest) number offset

-- For each routine 8, 9 and 15 are tested first over all starts, rising, then 13 and 10 likewise, then 6, then 7, then 11, 12 and 14, rising.
abbrev pub RoutineRefusal : List ℕ → Limits → ℕ → ℕ → ℕ → Type 0
RoutineRefusal image limits r = FirstOf (Fault image limits r) order

-- Routines in table order; 16, stack area below reported need, comes last, at offset 0.
pub data Refusal (image : List ℕ) (limits : Limits) : ℕ → ℕ → Type 0 where
  in_routine : {r number offset : ℕ} → r < count_of image → ((k n o : ℕ) → k < r → RoutineRefusal image limits k n o → ⊥) →
      RoutineRefusal image limits r number offset → Refusal image limits number offset
  no_room : {depth need : ℕ → ℕ} → ((r : ℕ) → r < count_of image → RoutineRules image limits depth r) → NeedRules image depth need →
      limits.stack.high + 1 < limits.stack.low + reported_need image need → Refusal image limits 16 0
