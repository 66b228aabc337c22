-- `resuming::good::is_good` meets its contract.
use Prim.Native.Nat.{ℕ, ◌+◌, ◌-◌}
use mathlib.Core.Path.{◌≡◌, ap}
use native.Mathlib.Omega.{arith}
use mathlib.Core.List.{List}
use lib.ListN.{length}
use Rattle.image.specs.Image.{code_at, size_of}
use Rattle.image.specs.Rules.{ImageRules}
use Rattle.resuming.proofs.MarkedCode.{marked_code}
use Rattle.resuming.proofs.GoodStates.{end_told, below_code, past_code, unmarked, start_told}
use Rattle.resuming.proofs.good.is_good.Goals as goal

-- the image ends with its code
size_is : (image : List ℕ) {code : ℕ} → ImageRules image → code ≡ code_at image → length image - code ≡ size_of image
size_is image layout is = omega (arith, layout.end)

pub returns-then-pc-eq0 : goal.returns-then-pc-eq0
returns-then-pc-eq0 c =
    end_told c.args.image.now c.args.limits c.args.marks.now (marked_code c.requires) c.args.memory.now c.args.registers c.if-pc-eq0.true

pub returns-then-pc-base : goal.returns-then-pc-base
returns-then-pc-base c =
    below_code c.args.image.now c.args.limits c.args.marks.now (marked_code c.requires) c.args.memory.now c.args.registers c.if-pc-eq0.false
    (rw (← c.base_of-base.ensures) c.if-pc-base.true)

pub overflow_sub-image : goal.overflow_sub-image
overflow_sub-image c = omega (arith, c.code_at.ensures.value, (marked_code c.requires).code.layout.end)

pub returns-then-image-code_at : goal.returns-then-image-code_at
returns-then-image-code_at c =
    past_code c.args.image.now c.args.limits c.args.marks.now (marked_code c.requires) c.args.memory.now c.args.registers c.if-pc-eq0.false
    (omega (arith, size_is c.args.image.now (marked_code c.requires).code.layout c.code_at.ensures.value, c.if-image-code_at.true, c.base_of-base.ensures))

pub bounds-marks-o : goal.bounds-marks-o
bounds-marks-o c =
    omega (arith, size_is c.args.image.now (marked_code c.requires).code.layout c.code_at.ensures.value, c.if-image-code_at.false, (marked_code c.requires).enough)

pub returns-then-mark-eq0 : goal.returns-then-mark-eq0
returns-then-mark-eq0 c =
    unmarked c.args.image.now c.args.limits c.args.marks.now (marked_code c.requires) c.args.memory.now c.args.registers c.if-pc-eq0.false
    (rw (← c.base_of-base.ensures) c.if-mark-eq0.true)

pub routine_of-r-requires : goal.routine_of-r-requires
routine_of-r-requires c =
    rw c.count_of.ensures (marked_code c.requires).code.layout.count

pub overflow_add-place : goal.overflow_add-place
overflow_add-place c = omega (arith, c.depth_in.ensures, (c.shared_slice_known-4-1.given (c.args.registers.pc - c.base_of-base.result)).fits)

pub frames_hold-requires : goal.frames_hold-requires
frames_hold-requires c = (
  c.requires,
  rw (← c.count_of.ensures) c.routine_of-r.ensures.upper_bound,
  omega (arith, c.depth_in.ensures, (c.shared_slice_known-4-1.given (c.args.registers.pc - c.base_of-base.result)).fits),
)

pub returns : goal.returns
returns c =
    let image = c.args.image.now in
    start_told image c.args.limits c.args.marks.now (marked_code c.requires) c.args.memory.now c.args.registers
    c.if-pc-eq0.false (c.args.registers.pc - c.base_of-base.result) c.routine_of-r.result
    (omega (arith, c.base_of-base.ensures, c.if-pc-base.false)) (omega (arith, size_is c.args.image.now (marked_code c.requires).code.layout c.code_at.ensures.value, c.if-image-code_at.false)) (omega (arith, c.if-mark-eq0.false))
    (rw c.count_of.ensures at (c.routine_of-r.ensures.by_index image (rw (← c.count_of.ensures) at c.requires.begin)))
    c.frames_hold.result _ (ap (λ d. c.args.registers.sp + d) c.depth_in.ensures) c.frames_hold.ensures
