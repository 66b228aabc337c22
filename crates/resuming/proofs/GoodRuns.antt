-- A run from a good point is finished or spent, and comes to a good point.
use Prim.Native.Nat.{ℕ, zero, suc}
use mathlib.Core.Path.{◌≡◌, refl, ◌∙◌}
use mathlib.Core.Bool.{Bool, true, false, cond}
use mathlib.Core.Logic.{by_cases, inl, inr}
use mathlib.Core.List.{List}
use native.Mathlib.Decide.{ℕ_discrete}
use lib.Dec.{eqb}
use lib.ListN.{length}
use Rattle.image.specs.declared.Limits.{Limits}
use Rattle.rules.specs.Rules.{reported_need}
use Rattle.machine.specs.Run.{no_steps_left, ran}
use Rattle.machine.specs.declared.RunAnswer.TheVariants.{Finished, Spent}
use Rattle.machine.proofs.RunLaws.{finished_at_once}
use Rattle.gate.specs.History.{Given, Point, point_after, ran_point}
use Rattle.gate.specs.GoodPoint.{GoodPoint}
use Rattle.gate.proofs.CheckedCode.{CheckedCode}
use Rattle.gate.proofs.OneStep.{unchanged_none}
use Rattle.gate.proofs.AnyStep.{valid, makes_step, any_step}
use Rattle.gate.proofs.AnyList.{run_sound}
use Rattle.resuming.specs.Internal.{Untrapped}

one_of : (at_zero : Bool) → Untrapped (cond at_zero Finished Spent)
one_of true = inl refl
one_of false = inr refl

module _ (image : List ℕ) (limits : Limits) (depth need : ℕ → ℕ) (code : CheckedCode image limits depth need) where
  abbrev accepted : Given
  accepted = record { image = image; limits = limits }

  pub ends_well : (budget : ℕ) (p : Point) → length p.state.memory ≡ 32768 → GoodPoint image limits depth p →
      Untrapped (ran budget image limits p.state.registers p.state.memory).0.answer
  unfolding ran no_steps_left
  ends_well zero p size good = rw (valid image limits depth need code p size) (one_of (eqb p.state.registers.pc 0))
  ends_well (suc budget) p size good =
      by_cases (ℕ_discrete p.state.registers.pc 0)
      (λ e. rw (finished_at_once (suc budget) image limits p.state.registers p.state.memory (valid image limits depth need code p size) e) (inl refl))
      (λ on.
      let step = any_step image limits depth need code p size accepted (inl refl) good in
      rw (makes_step image limits depth need code p size good on).answer
      (ends_well budget (point_after accepted p) (step.kept.size ∙ size) step.good))

  pub good_run : (budget : ℕ) (p : Point) → length p.state.memory ≡ 32768 → GoodPoint image limits depth p →
      GoodPoint image limits depth (ran_point accepted budget p) × (length (ran budget image limits p.state.registers p.state.memory).1 ≡ 32768)
  good_run budget p size good =
      let memory = p.state.memory in
      let h = run_sound image limits depth need code memory size accepted (inl refl) budget p
      (record { good = good; kept = unchanged_none limits (reported_need image need) memory }) in
      (h.2.good, h.2.kept.size ∙ size)
