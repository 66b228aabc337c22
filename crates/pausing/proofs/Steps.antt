-- From a good point a run in two parts is one run, finished ones included.
use Prim.Native.Nat.{ℕ, ◌+◌}
use mathlib.Core.Path.{◌≡◌, ap}
use mathlib.Core.Logic.{inl, inr}
use mathlib.Core.List.{List}
use native.Mathlib.Omega.{arith}
use lib.ListN.{length}
use Rattle.image.specs.declared.Limits.{Limits}
use Rattle.machine.specs.Run.{Says, ran, in_parts}
use Rattle.machine.specs.declared.Ran.{Ran}
use Rattle.machine.specs.declared.RunAnswer.{RunAnswer}
use Rattle.machine.proofs.RunEnds.{run_tells}
use Rattle.machine.proofs.RunLaws.{finished_at_once}
use Rattle.machine.proofs.RunParts.{run_in_parts}
use Rattle.gate.specs.History.{Given, Point, ran_point}
use Rattle.gate.specs.GoodPoint.{GoodPoint}
use Rattle.gate.proofs.CheckedCode.{CheckedCode}
use Rattle.gate.proofs.AnyStep.{valid}
use Rattle.resuming.specs.Internal.{Untrapped}
use Rattle.resuming.proofs.GoodRuns.{ends_well, good_run}
use Rattle.pausing.specs.Pausing.{came_to}

-- by how the first part ended
two_parts : (steps budget : ℕ) (first second whole : Ran × List ℕ) (answer : RunAnswer) → Untrapped answer → Says budget first.0 answer →
    whole ≡ in_parts answer first second →
    (first.0.registers.pc ≡ 0 → (second.0.registers ≡ first.0.registers) × (second.1 ≡ first.1) × (second.0.steps ≡ 0)) →
    came_to steps whole ≡ came_to (steps + first.0.steps) second
two_parts steps budget first second whole answer (inl e) says is stays =
    let still = stays (rw e at says) in
    let sum : steps + first.0.steps + second.0.steps ≡ steps + first.0.steps = omega (arith, still.2) in
    rw (rw e at is, sum, still.0, still.1)
two_parts steps budget first second whole answer (inr e) says is stays =
    let sum : steps + first.0.steps + second.0.steps ≡ steps + (second.0.steps + first.0.steps) = omega arith in
    rw (rw e at is, sum)

module _ (image : List ℕ) (limits : Limits) (depth need : ℕ → ℕ) (code : CheckedCode image limits depth need) where
  pub in_two : (steps a b : ℕ) (p : Point) → length p.state.memory ≡ 32768 → GoodPoint image limits depth p →
      let first = ran a image limits p.state.registers p.state.memory in
      came_to steps (ran (a + b) image limits p.state.registers p.state.memory) ≡
      came_to (steps + first.0.steps) (ran b image limits first.0.registers first.1)
  in_two steps a b p size good =
      let first = ran a image limits p.state.registers p.state.memory in
      let after = good_run image limits depth need code a p size good in
      let accepted : Given = record { image = image; limits = limits } in
      two_parts steps a first (ran b image limits first.0.registers first.1) _ first.0.answer (ends_well image limits depth need code a p size good)
      (run_tells image limits a p.state.registers p.state.memory) (run_in_parts image limits b a p.state.registers p.state.memory)
      (λ end.
      let stop = finished_at_once b image limits first.0.registers first.1 (valid image limits depth need code (ran_point accepted a p) after.1) end in
      (ap (λ (r : Ran × List ℕ). r.0.registers) stop, ap (λ (r : Ran × List ℕ). r.1) stop, ap (λ (r : Ran × List ℕ). r.0.steps) stop))
