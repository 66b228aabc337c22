-- Where no two paths disagree all depths of an instruction are one, and 11, 12 and 14 are one number at each offset.
use Prim.Native.Nat.{ℕ, ◌+◌}
use mathlib.Core.Path.{◌≡◌, refl}
use mathlib.Core.Logic.{by_cases}
use mathlib.Core.List.{List}
use native.Mathlib.Decide.{ℕ_discrete}
use native.Mathlib.Omega.{arith}
use Rattle.stm8.specs.Effects.{effect}
use Rattle.stm8.specs.declared.Instruction.{Instruction}
use Rattle.stm8.specs.declared.Effect.{Effect}
use Rattle.image.specs.declared.Limits.{Limits}
use Rattle.rules.specs.Paths.{Path, Disagree}
use Rattle.rules.specs.Rules.{StoreRules}
use Rattle.rules.specs.Refusal.{InRange, Arrival, DepthFault, range, store, call}
use Rattle.code.proofs.Starts.{same_found}
use Rattle.rules.proofs.Phases.{OneNumber}

-- paths of one depth are in range together
range_moved : {e : Effect} {pushes pops pushes' pops' : ℕ} → pushes + pops' ≡ pushes' + pops → InRange e pushes pops → InRange e pushes' pops'
range_moved same h =
    record {
      before_low = omega (arith, h.before_low);
      before_high = omega (arith, h.before_high);
      after_low = omega (arith, h.after_low);
      after_high = omega (arith, h.after_high);
      return_empty = λ e. omega (arith, h.return_empty e);
    }

module _ {image : List ℕ} {r : ℕ} (agree : Disagree image r → ⊥) where
  pub same_depth : {o pushes pops pushes' pops' : ℕ} → Path image r o pushes pops → Path image r o pushes' pops' → pushes + pops' ≡ pushes' + pops
  same_depth {o} {pushes} {pops} {pushes'} {pops'} p q =
      by_cases (ℕ_discrete (pushes + pops') (pushes' + pops)) (λ e. e)
      (λ ne.
      let d : Disagree image r =
      record { offset = o; pushes = pushes; pops = pops; pushes' = pushes'; pops' = pops'; path = p; path' = q; differ = ne } in
      absurd (agree d))

  module _ {o n n' pushes pops pushes' pops' : ℕ} {i i' : Instruction}
      (a : Arrival image r o n i pushes pops) (b : Arrival image r o n' i' pushes' pops') where
    in_range : InRange (effect i) pushes pops → InRange (effect i') pushes' pops'
    in_range h = rw (same_found a.found b.found).0 at (range_moved (same_depth a.path b.path) h)

    stores : (limits : Limits) (depth depth' : ℕ) → depth + pops ≡ pushes → depth' + pops' ≡ pushes' →
        StoreRules limits depth (effect i).place → StoreRules limits depth' (effect i').place
    stores limits depth depth' d d' h =
        let same : depth ≡ depth' = omega (arith, same_depth a.path b.path) in
        rw ((same_found a.found b.found).0, same) at h

  pub one_depth_fault : (limits : Limits) → OneNumber (DepthFault image limits r)
  one_depth_fault limits o n n' (range a out) (range b out') = refl
  one_depth_fault limits o n n' (range a out) (store b h d e none) = absurd (out (in_range b a h))
  one_depth_fault limits o n n' (range a out) (call b h d e ok c none) = absurd (out (in_range b a h))
  one_depth_fault limits o n n' (store a h d e none) (range b out) = absurd (out (in_range a b h))
  one_depth_fault limits o n n' (store a h d e none) (store b h' d' e' none') = refl
  one_depth_fault limits o n n' (store a h d e none) (call b h' d' e' ok c none') = absurd (none (stores b a limits d' d e' e ok))
  one_depth_fault limits o n n' (call a h d e ok c none) (range b out) = absurd (out (in_range a b h))
  one_depth_fault limits o n n' (call a h d e ok c none) (store b h' d' e' none') = absurd (none' (stores a b limits d d' e e' ok))
  one_depth_fault limits o n n' (call a h d e ok c none) (call b h' d' e' ok' c' none') = refl
