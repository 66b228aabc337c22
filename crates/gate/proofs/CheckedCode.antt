-- What the guarantee rests on: local facts of the code, whatever order of checks gave them. Each start has a depth, each routine a need.
use Prim.Native.Nat.{ℕ, ◌+◌, ◌≤◌, ◌<◌}
use mathlib.Core.Path.{◌≡◌, refl, ◌∙◌}
use mathlib.Core.Option.{some}
use mathlib.Core.Bool.{true}
use mathlib.Core.List.{List}
use native.Mathlib.Omega.{arith}
use Rattle.std.specs.Prelude.{Ok}
use Rattle.stm8.specs.Effects.{call_target, effect}
use Rattle.stm8.proofs.EffectLaws.{by_call}
use Rattle.stm8.specs.declared.Instruction.{Instruction}
use Rattle.stm8.specs.declared.Flow.{Flow}
use Rattle.image.specs.declared.Limits.{Limits}
use Rattle.image.specs.Image.{base_of, count_of, size_of, start_of}
use Rattle.image.specs.Rules.{LimitsRules, ImageRules}
use Rattle.code.specs.Depth.{falls}
use Rattle.code.specs.Code.{instruction_at, instruction_in, Start}
use Rattle.rules.specs.Rules.{reported_need, StartAt, InstructionRules, InstructionUse, calling}
use Rattle.code.proofs.Starts.{same_found}
use Rattle.rules.proofs.Callees.{one_routine}
use Rattle.rules.proofs.Depths.{call_depth}

-- at a start stands an instruction, decoded as the machine does, that meets the rules; the routine's need covers what it uses
pub record CheckedAt (image : List ℕ) (limits : Limits) (depth need : ℕ → ℕ) (r o : ℕ) : Type 0 where
  pub inside : o < size_of image
  pub instruction : Instruction
  pub size : ℕ
  pub stands : instruction_at image r o ≡ Ok (instruction, size)
  pub found : instruction_in image o ≡ Ok (instruction, size)
  pub rules : InstructionRules image limits r (StartAt image depth r) o (depth o) instruction size
  pub covered : {v : ℕ} → InstructionUse image need r (base_of image + (o + size)) (depth o) (effect instruction) v → v ≤ need r

pub record CheckedCode (image : List ℕ) (limits : Limits) (depth need : ℕ → ℕ) : Type 0 where
  pub areas : LimitsRules limits
  pub layout : ImageRules image
  pub entries : (r : ℕ) → r < count_of image → depth (start_of image r) ≡ 0
  pub at : {r o : ℕ} → r < count_of image → Start image r o → CheckedAt image limits depth need r o
  pub room : limits.stack.low + reported_need image need ≤ limits.stack.high + 1

-- a call falls through
pub calls_fall : (next : ℕ) (flow : Flow) {address : ℕ} → call_target next flow ≡ some address → falls flow ≡ true
calls_fall next flow c = by_call next flow c (λ f. falls f ≡ true) (λ a. refl) (λ n. refl)

-- after a call of routine r, n bytes at offset o of routine c, the caller goes on at the same depth, and its need covers the callee's
pub record Resumes (image : List ℕ) (depth need : ℕ → ℕ) (r c o n : ℕ) : Type 0 where
  pub start : Start image c (o + n)
  pub deep : depth (o + n) ≡ depth o
  pub covered : depth o + 2 + need r ≤ need c

module _ (image : List ℕ) (limits : Limits) (depth need : ℕ → ℕ) (code : CheckedCode image limits depth need) where
  pub resumes : {r c o n : ℕ} {i : Instruction} → r < count_of image → c < count_of image → Start image c o → instruction_at image c o ≡ Ok (i, n) →
      call_target (base_of image + (o + n)) (effect i).flow ≡ some (base_of image + start_of image r) → Resumes image depth need r c o n
  resumes {r} {c} {o} {n} listed inside start found call =
      let k = code.at inside start in
      let same = same_found found k.stands in
      let calls : call_target (base_of image + (o + k.size)) (effect k.instruction).flow ≡ some (base_of image + start_of image r) =
      rw (same.0, same.1) at call in
      let callee = k.rules.call calls in
      let earlier = callee.1.earlier in
      let who : callee.0 ≡ r =
      one_routine image code.layout callee.0 r (omega arith) (omega arith) (omega (arith, callee.1.target)) in
      let fall = k.rules.fall (calls_fall _ _ calls) in
      record {
        start = rw same.1 fall.start;
        deep = rw same.1 (fall.deep ∙ call_depth _ (effect k.instruction) (depth o) calls);
        covered = rw who at (k.covered (calling calls callee.1));
      }
