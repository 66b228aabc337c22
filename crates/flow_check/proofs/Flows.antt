-- From the depths that an exploration finds, and the tests that go by them, to what the check of a routine finds.
use Rattle.std.proofs.Common.{◌≡◌, ℕ, ◌≤◌, Bool, true, false, List, get_or, refl, ⊎_elim, arith}
use Rattle.control_flow.specs.Graph.{cells}
use Rattle.control_flow.specs.Routine.{Routine, Start, WellFormed, jump_check, depth_check}
use Rattle.control_flow.specs.Outcome.{Passes, AllReached, FlowOutcome, passing}
use Rattle.control_flow.specs.Exploring.{middle, Explored, LowestUnknown}
use Rattle.control_flow.proofs.DepthNumbers.{depth_passes}
use Rattle.control_flow.proofs.Outcomes.{tested_passes, outcome_by, disagreeing_at, tested_at}
use Rattle.flow_check.specs.Internal.{DepthsTested}

either_way : {A : Type 0} (b : Bool) → (b ≡ true → A) → (b ≡ false → A) → A
either_way true t f = t refl
either_way false t f = f refl

module _ {x : Routine} (formed : WellFormed x) {before : List ℕ} (clear : (o : ℕ) → Start x o → get_or before o 0 ≡ 0) {depths : List ℕ} {agree : Bool}
    (found : Explored middle x.graph before depths agree) (landed : Passes x (jump_check x)) where
  -- a start that passes 11 has a depth, so it is reached
  all_reached : Passes x (depth_check x middle (cells depths)) → AllReached x
  all_reached p o s =
      ⊎_elim (λ r. r) (λ z. absurd (omega (arith, z, clear o s, (depth_passes _ _ _ _ _ _ _ _ (p o s)).0.before_low))) (found.others o)

  module _ {needs given marks : List ℕ} {counted number at need count : ℕ}
      (tested : agree ≡ true → DepthsTested x needs middle (cells depths) given counted number at marks need count)
      (disagrees : agree ≡ false → (number ≡ 7) × (at ≡ x.graph.entry)) where
    pub outcome_passes : number ≡ 0 → FlowOutcome x needs given counted number at marks need count
    outcome_passes none =
        either_way agree
        (λ a.
        let t = tested a in
        let p = tested_passes t.tested none in
        rw none (passing landed (all_reached p) middle (cells depths) (found.depth a) p (t.measured none)))
        (λ a. absurd (omega (arith, none, (disagrees a).0)))

    -- where every depth is known
    pub outcome_fails : {lowest : ℕ} → LowestUnknown x depths lowest → x.end ≤ lowest → FlowOutcome x needs given counted number at marks need count
    outcome_fails w end =
        either_way agree (λ a. tested_at formed clear found w landed end a (tested a).tested (tested a).measured)
        (λ a. outcome_by (disagrees a).0 (disagrees a).1 (disagreeing_at formed clear found w landed end a))
