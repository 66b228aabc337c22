-- What is left of a routine's turn, from a start on: less behind each instruction, by 1 at least, and behind a call by the callee's turn too.
use Prim.Native.Nat.{ℕ, ◌+◌, ◌<◌, ◌≤◌}
use mathlib.Core.Path.{◌≡◌, ap, ◌∙◌}
use mathlib.Core.Logic.{by_cases}
use mathlib.Core.List.{List}
use mathlib.Core.Option.{some}
use native.Mathlib.Decide.{dec_le}
use native.Mathlib.Omega.{arith}
use lib.ListN.{get_or}
use Rattle.std.specs.Prelude.{Ok}
use Rattle.stm8.specs.Effects.{call_target, effect}
use Rattle.stm8.specs.declared.Instruction.{Instruction}
use Rattle.image.specs.Image.{base_of, count_of, start_of, end_of}
use Rattle.image.specs.Rules.{ImageRules}
use Rattle.image.proofs.Layouts.{begins_before_end}
use Rattle.code.specs.Code.{instruction_at, Start, begins, follows}
use Rattle.code.proofs.Starts.{start_low, start_high, next_start}
use Rattle.rules.specs.Paths.{Callee, callee}
use Rattle.rules.proofs.Callees.{callee_is}
use Rattle.turns.specs.Turn.{turns_of, turn_of}
use Rattle.turns.proofs.RoutineSums.{left, left_start, left_found}
use Rattle.turns.proofs.TurnLists.{turns_at}

abbrev pub left_in : List ℕ → ℕ → ℕ → ℕ
left_in image r o = left image (turns_of image r) r o

-- at its first byte all of it
pub left_whole : (image : List ℕ) (r : ℕ) → left_in image r (start_of image r) ≡ turn_of image r
left_whole image r = left_start image (turns_of image r) r

module _ (image : List ℕ) (layout : ImageRules image) (r : ℕ) (listed : r < count_of image) where
  below_end : {o : ℕ} → Start image r o → o < end_of image r
  below_end s = start_high image r (begins_before_end image layout r listed) s

  pub left_behind : {o n : ℕ} {i : Instruction} → Start image r o → instruction_at image r o ≡ Ok (i, n) → left_in image r (o + n) + 1 ≤ left_in image r o
  left_behind s f = omega (arith, left_found image (turns_of image r) r (below_end s) f)

  -- from a start on to another one not more
  left_ahead : {o to : ℕ} → Start image r o → Start image r to → o ≤ to → left_in image r to ≤ left_in image r o
  left_ahead {o} s begins h = let same : o ≡ start_of image r = omega (arith, start_low image r s) in rw same (omega arith)
  left_ahead {o} s (follows {o = p} {n = n} t f inside) h =
      by_cases (dec_le o p)
      (λ le. omega (arith, left_ahead s t le, left_behind t f))
      (λ gt. let same : o ≡ p + n = omega (arith, next_start image r t f s (omega arith)) in rw same (omega arith))

  -- and to a later one at least 1 less
  pub left_later : {o n to : ℕ} {i : Instruction} → Start image r o → instruction_at image r o ≡ Ok (i, n) → Start image r to → o < to →
      left_in image r to + 1 ≤ left_in image r o
  left_later s f there h =
      let past = next_start image r s f there h in
      omega (arith, left_behind s f, left_ahead (follows s f (omega (arith, below_end there))) there past)

  pub left_call : {o n address k : ℕ} {i : Instruction} → Start image r o → instruction_at image r o ≡ Ok (i, n) →
      call_target (base_of image + (o + n)) (effect i).flow ≡ some address → Callee image r address k →
      left_in image r o ≡ 1 + turn_of image k + left_in image r (o + n)
  left_call {k = k} s f calls c =
      let turn : get_or (turns_of image r) (callee image r _) 0 ≡ turn_of image k =
      ap (λ j. get_or (turns_of image r) j 0) (callee_is image layout (omega arith) c) ∙ turns_at image r k c.earlier in
      rw (calls, turn) at (left_found image (turns_of image r) r (below_end s) f)
