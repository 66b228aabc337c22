-- `turns::summing::sum_main` meets its contract. The loop's invariant: the turns of the routines so far are held, and no jump of theirs goes back.
use mathlib.Core.Path.{ap, ◌∙◌}
use native.Mathlib.Omega.{arith}
use Rattle.image.specs.Image.{end_of}
use Rattle.image.proofs.Layouts.{valid_bounds, count_is, code_is}
use Rattle.decode_pass.specs.Pass.{RoutineOf}
use Rattle.checker.proofs.Routines.{code_given}
use Rattle.turns.specs.Turn.{turns_of}
use Rattle.turns.proofs.Holding.{held_fit}
use Rattle.turns.proofs.TurnLists.{between_none, between_back, between_next, between_all}
use Rattle.turns.proofs.summing.sum_main.Goals as goal
use Rattle.turns.proofs.summing.sum_main.Goals.{After-routine_at-r}

pub loop-index-init : goal.loop-index-init
loop-index-init c = between_none _

-- in each turn of the loop the next routine is one of the image
next : (c : After-routine_at-r) → RoutineOf c.args.valid.image.now c.routine_at-r.result
next c = c.routine_at-r.ensures.routine _ c.args.valid.valid c.args.valid.routines_begin c.loop-index-test.true c.loop-index.invariant.start_is

pub slice_bounds-code-count : goal.slice_bounds-code-count
slice_bounds-code-count c = let bounds = valid_bounds _ _ _ c.args.valid.valid in omega (arith, bounds.end)

pub slice_bounds-code-start : goal.slice_bounds-code-start
slice_bounds-code-start c = let bounds = valid_bounds _ _ _ c.args.valid.valid in omega (arith, bounds.end)

pub sum_routine-requires : goal.sum_routine-requires
sum_routine-requires c =
    let routine = next (goal.at.sum_routine-requires c).After-routine_at-r in
    (routine.size, routine.index, held_fit c.loop-index.turns (turns_of c.args.valid.image.now c.loop-index.index) c.loop-index.invariant.cells_hold)

-- and what is summed is its sum
pub returns-in_err-turn : goal.returns-in_err-turn
returns-in_err-turn c =
    let routine = next (goal.at.returns-in_err-turn c).After-routine_at-r in
    let given =
    code_given (code_is _ _ _ c.args.valid.valid) routine (λ k below. c.args.valid.routines_begin k (omega (arith, c.routine_at-r.ensures.place.0, c.loop-index-test.true))) in
    let back =
    rw c.routine_at-r.ensures.place.0 at
    (c.in_err-turn.ensures.summed _ (turns_of c.args.valid.image.now c.loop-index.index) given c.loop-index.invariant.cells_hold) in
    rw c.from_residual.ensures
    (between_back _ c.loop-index.invariant (omega (arith, c.loop-index-test.true, count_is _ _ _ c.args.valid.valid)) back)

pub loop-index-preserved : goal.loop-index-preserved
loop-index-preserved c =
    let routine = next (goal.at.loop-index-preserved c).After-routine_at-r in
    let given =
    code_given (code_is _ _ _ c.args.valid.valid) routine (λ k below. c.args.valid.routines_begin k (omega (arith, c.routine_at-r.ensures.place.0, c.loop-index-test.true))) in
    let summed =
    rw c.routine_at-r.ensures.place.0 at
    (c.in_ok-turn.ensures.summed _ (turns_of c.args.valid.image.now c.loop-index.index) given c.loop-index.invariant.cells_hold) in
    between_next _ c.loop-index.invariant (omega (arith, c.loop-index-test.true, count_is _ _ _ c.args.valid.valid)) summed
    routine.layout.count.1 (routine.end_is ∙ ap (end_of _) c.routine_at-r.ensures.place.0)

pub returns : goal.returns
returns c =
    let bounds = valid_bounds _ _ _ c.args.valid.valid in
    let count = count_is _ _ _ c.args.valid.valid in
    between_all _ (omega (arith, bounds.count.0, count)) c.loop-index.invariant (omega (arith, c.loop-index-test.false, count))
