-- `resuming::frames::frames_hold` meets its contract. The loop's invariant: the frames of the first routine hold exactly where those of this one do.
use Prim.Native.Nat.{ℕ, ◌-◌}
use mathlib.Core.Path.{◌≡◌}
use mathlib.Core.List.{List}
use native.Mathlib.Omega.{arith}
use lib.Dec.{eqb}
use Rattle.image.specs.Image.{count_of, main_of}
use Rattle.resuming.proofs.MarkedCode.{marked_code}
use Rattle.resuming.proofs.Walking.{past_top, off_top, main_told, fails, holds, reaches_caller, reaches_told}
use Rattle.resuming.proofs.frames.frames_hold.Goals as goal

-- the last routine is main
main_is : (image : List ℕ) {count r : ℕ} → count ≡ count_of image → r ≡ count - 1 → r ≡ main_of image
unfolding main_of
main_is image e is = rw (← e) is

is_main : (image : List ℕ) {count r : ℕ} → count ≡ count_of image → r ≡ main_of image → r ≡ count - 1
unfolding main_of
is_main image e is = rw e is

pub overflow_sub-main : goal.overflow_sub-main
overflow_sub-main c = omega (arith, c.count_of.ensures, (marked_code c.requires.0).code.layout.count.0)

pub loop-r-init : goal.loop-r-init
loop-r-init c =
    record { listed = c.requires.1; low = c.requires.2; down = λ limits a h. h; up = λ limits a h. h }

pub overflow_add-f : goal.overflow_add-f
overflow_add-f c = omega (arith, c.loop-r.invariant.low)

pub returns-then-top-f : goal.returns-then-top-f
returns-then-top-f c =
    let m = marked_code c.requires.0 in
    λ h. past_top _ _ _ m _ (omega (arith, c.if-top-f.true)) (c.loop-r.invariant.up _ c.requires.0 h)

pub caller_of-caller-requires : goal.caller_of-caller-requires
caller_of-caller-requires c =
    let m = marked_code c.requires.0 in
    (m.code.layout, m.enough, c.loop-r.invariant.listed, omega (arith, c.if-top-f.false, m.code.areas.stack.high))

pub returns-then-not-caller : goal.returns-then-not-caller
returns-then-not-caller c =
    λ h. (rw (fails c.caller_of-caller.result.found c.if-not-caller.true) at (c.caller_of-caller.ensures.caller_told _ c.requires.0 (λ is. c.loop-r-test.true (is_main c.args.image.now c.count_of.ensures is)))) (c.loop-r.invariant.up _ c.requires.0 h)

pub loop-r-smaller : goal.loop-r-smaller
loop-r-smaller c =
    omega (arith, c.if-top-f.false, c.caller_of-caller.ensures.routine_bound.1)

pub loop-r-preserved : goal.loop-r-preserved
loop-r-preserved c =
    reaches_caller c.loop-r.invariant c.caller_of-caller.ensures.routine_bound (λ limits a. rw (holds c.caller_of-caller.result.found c.if-not-caller.false) at (c.caller_of-caller.ensures.caller_told limits a (λ is. c.loop-r-test.true (is_main c.args.image.now c.count_of.ensures is))))

pub overflow_add-f-2 : goal.overflow_add-f-2
overflow_add-f-2 c = omega (arith, c.loop-r.invariant.low)

pub returns-then-f-top : goal.returns-then-f-top
returns-then-f-top c =
    λ h. off_top _ _ _ (marked_code c.requires.0) _ (main_is c.args.image.now c.count_of.ensures c.loop-r-test.false) c.if-f-top.true (c.loop-r.invariant.up _ c.requires.0 h)

pub overflow_add-f-3 : goal.overflow_add-f-3
overflow_add-f-3 c = omega (arith, c.loop-r.invariant.low)

pub returns : goal.returns
returns c =
    reaches_told c.loop-r.invariant _ c.requires.0 (eqb c.word_at.result 0)
    (main_told _ _ _ (marked_code c.requires.0) _ c.loop-r.r c.loop-r.f c.word_at.result (main_is c.args.image.now c.count_of.ensures c.loop-r-test.false) c.if-f-top.false c.word_at.ensures)
