-- `flow_check::check_passes` meets its contract: each pass gives the next what it asks.
use Rattle.std.proofs.Common.{refl, arith}
use Rattle.std.proofs.lemmas.Result.{err_from_is_err_and}
use Rattle.control_flow.specs.Routine.{routine, WellFormed, jump_check}
use Rattle.control_flow.specs.Outcome.{Passes, strayed, Checkable}
use Rattle.control_flow.proofs.Numbers.{well_formed_lem}
use Rattle.control_flow.proofs.Outcomes.{tested_fails, tested_passes, untouched, explorable, left, measurable, unreached_at}
use Rattle.flow_check.proofs.Flows.{outcome_passes, outcome_fails}
use Rattle.flow_check.proofs.check_passes.Goals as goal
use Rattle.flow_check.proofs.check_passes.Goals.{In_ok-check_jumps}

-- every jump lands on a start
landed : (c : In_ok-check_jumps) → let x = routine c.args.span.entry c.args.span.end c.args.cells.now in Passes x (jump_check x)
landed c = tested_passes c.in_ok-check_jumps.ensures refl

formed : (c : In_ok-check_jumps) → let x = routine c.args.span.entry c.args.span.end c.args.cells.now in
    Checkable x c.args.trail.now.depths c.args.trail.now.stack → WellFormed x
formed c asks = well_formed_lem asks.decoded (landed c)

pub returns-in_err-check_jumps : goal.returns-in_err-check_jumps
returns-in_err-check_jumps c asks =
    let refusal = err_from_is_err_and c.from_residual.result c.from_residual.ensures.1 in
    rw (refusal.1, refusal.2)
    (strayed (tested_fails c.in_err-check_jumps.ensures (λ none. absurd (omega (arith, c.in_err-check_jumps.field-0.0.some)))), untouched asks.cells asks.slots)

pub returns-in_default : goal.returns-in_default
returns-in_default c asks =
    let f = formed (goal.at.returns-in_default c).In_ok-check_jumps asks in
    let found = c.explore-agree.ensures (explorable f asks.clear asks.cells asks.slots) in
    rw c.in_default.is (
      outcome_passes f asks.clear found.0 (landed (goal.at.returns-in_default c).In_ok-check_jumps)
          (λ a. c.in_default.ensures.depths_tested a (measurable f asks.clear found.0 a c.requires.1 c.requires.2))
          c.in_default.ensures.disagrees refl,
      left f asks.clear found.0 found.1,
    )

pub returns-in-Some : goal.returns-in-Some
returns-in-Some c asks =
    let f = formed (goal.at.returns-in-Some c).In_ok-check_jumps asks in
    let found = c.explore-agree.ensures (explorable f asks.clear asks.cells asks.slots) in (
      unreached_at f asks.clear found.0 c.in-Some.ensures.1 (landed (goal.at.returns-in-Some c).In_ok-check_jumps) c.in-Some.ensures.0,
      left f asks.clear found.0 found.1,
    )

pub returns-in-None : goal.returns-in-None
returns-in-None c asks =
    let f = formed (goal.at.returns-in-None c).In_ok-check_jumps asks in
    let found = c.explore-agree.ensures (explorable f asks.clear asks.cells asks.slots) in (
      outcome_fails f asks.clear found.0 (landed (goal.at.returns-in-None c).In_ok-check_jumps)
          (λ a. c.in-Err.ensures.depths_tested a (measurable f asks.clear found.0 a c.requires.1 c.requires.2))
          c.in-Err.ensures.disagrees c.in-None.ensures (omega arith),
      left f asks.clear found.0 found.1,
    )
