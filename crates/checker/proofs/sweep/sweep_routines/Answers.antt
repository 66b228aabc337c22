-- `checker::sweep::sweep_routines` meets its contract. The loop's invariant: the routines so far pass, and from the next one on nothing is a start
-- yet.
use Rattle.std.proofs.Common.{◌≡◌, arith}
use Rattle.std.proofs.lemmas.Result.{err_from_is_err_and}
use Rattle.checker.proofs.Routines.{between_none, zeros_clean, routine_ready, need_fits, swept_stopped, between_more, swept_ended}
use Rattle.decode_pass.specs.Pass.{RoutineOf}
use Rattle.checker.proofs.sweep.sweep_routines.Goals as goal
use Rattle.checker.proofs.sweep.sweep_routines.Goals.{After-routine_at-r}

pub loop-index-init : goal.loop-index-init
loop-index-init c = (between_none c.requires, zeros_clean _)

-- in each turn the next routine is one of the image
next : (c : After-routine_at-r) → RoutineOf c.args.valid.image.now c.routine_at-r.result
next c = c.routine_at-r.ensures.routine _ c.args.valid.valid c.args.valid.routines_begin c.loop-index-test.true c.loop-index.invariant.0.start_is

pub check_routine-requires : goal.check_routine-requires
check_routine-requires c =
    let routine = next (goal.at.check_routine-requires c).After-routine_at-r in (
      routine,
      λ k below. c.args.valid.routines_begin k (omega (arith, c.routine_at-r.ensures.place.0, c.loop-index-test.true)),
      rw c.routine_at-r.ensures.place.1 c.loop-index.invariant.1,
      routine_ready c.args.valid.valid c.loop-index.invariant.0 routine c.routine_at-r.ensures.place,
    )

pub returns-in_err-measured : goal.returns-in_err-measured
returns-in_err-measured c =
    let refusal = err_from_is_err_and c.from_residual.result c.from_residual.ensures.1 in
    let routine = next (goal.at.returns-in_err-measured c).After-routine_at-r in
    let stopped =
    swept_stopped c.args.valid.valid c.loop-index.invariant.0 routine c.routine_at-r.ensures.place c.in_err-measured.field-0.0
    c.in_err-measured.ensures.routine_checked in
    rw (refusal.1, refusal.2) (record { swept = stopped.0; small = stopped.1 })

pub overflow_cast-done : goal.overflow_cast-done
overflow_cast-done c =
    let routine = next (goal.at.overflow_cast-done c).After-routine_at-r in
    omega (arith, need_fits c.args.valid.valid c.loop-index.invariant.0 routine c.routine_at-r.ensures.place c.in_ok-measured.ensures.routine_checked)

pub loop-index-preserved : goal.loop-index-preserved
loop-index-preserved c =
    let routine = next (goal.at.loop-index-preserved c).After-routine_at-r in (
      between_more c.args.valid.valid c.loop-index.invariant.0 routine c.routine_at-r.ensures.place c.in_ok-measured.ensures.routine_checked,
      c.in_ok-measured.ensures.clean,
    )

pub returns : goal.returns
returns c =
    let all : c.loop-index.index ≡ c.args.valid.layout.count = omega (arith, c.loop-index.auto.index-end, c.loop-index-test.false) in
    let done = swept_ended c.args.valid.valid c.loop-index.invariant.0 all in
    record { swept = done.0; small = done.1 }

pub bounds-done-index : goal.bounds-done-index
bounds-done-index c = let routine = next (goal.at.bounds-done-index c).After-routine_at-r in omega (arith, routine.index, c.routine_at-r.ensures.place.0)

pub offset_bounds-done-index : goal.offset_bounds-done-index
offset_bounds-done-index c =
    let routine = next (goal.at.offset_bounds-done-index c).After-routine_at-r in omega (arith, routine.index, c.routine_at-r.ensures.place.0)
