-- A path comes with a depth in range exactly where the rules of depth hold.
use Prim.Native.Nat.{ℕ, ◌+◌, ◌≤◌}
use mathlib.Core.Path.{◌≡◌}
use mathlib.Core.Logic.{⊎_elim}
use native.Mathlib.Omega.{arith}
use Rattle.stm8.specs.Effects.{effect}
use Rattle.stm8.specs.declared.Instruction.{Instruction}
use Rattle.stm8.specs.declared.Effect.{Effect}
use Rattle.stm8.specs.declared.Flow.TheVariants.{Return}
use Rattle.code.specs.Depth.{popped, after}
use Rattle.rules.specs.Refusal.{InRange}
use Rattle.rules.proofs.Depths.{moves_one_way}

-- the rules of depth, as InstructionRules has them
pub record DepthRules (e : Effect) (depth : ℕ) : Type 0 where
  pub pops_enough : popped e ≤ depth
  pub depth_before : depth ≤ 255
  pub depth_after : after e depth ≤ 255
  pub return_empty : e.flow ≡ Return → depth ≡ 0

module _ {depth pushes pops : ℕ} (comes : depth + pops ≡ pushes) where
  pub rules_range : {e : Effect} → DepthRules e depth → InRange e pushes pops
  unfolding after
  rules_range h =
      record {
        before_low = omega arith;
        before_high = omega (arith, h.depth_before);
        after_low = omega (arith, h.pops_enough);
        after_high = omega (arith, h.pops_enough, h.depth_after);
        return_empty = λ e. omega (arith, h.return_empty e);
      }

  -- what pops does not push: where the depth after an instruction is not below 0 the routine has what it pops
  pub range_rules : (i : Instruction) → InRange (effect i) pushes pops → DepthRules (effect i) depth
  unfolding after
  range_rules i h =
      let enough : popped (effect i) ≤ depth =
      ⊎_elim (λ e. omega (arith, e)) (λ e. omega (arith, e, h.after_low)) (moves_one_way i) in
      record {
        pops_enough = enough;
        depth_before = omega (arith, h.before_high);
        depth_after = omega (arith, enough, h.after_high);
        return_empty = λ e. omega (arith, h.return_empty e);
      }
