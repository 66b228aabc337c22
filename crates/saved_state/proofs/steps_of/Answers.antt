-- `saved_state::steps_of` meets its contract. The loop's invariant: what is read so far is the number in so many bytes.
use Prim.Native.Nat.{ℕ, ◌<◌, ◌≤◌}
use mathlib.Core.List.{List}
use mathlib.Core.Path.{◌≡◌, refl}
use native.Mathlib.Numerals.{add-one}
use native.Mathlib.Omega.{arith}
use Rattle.numbers.specs.Lists.{Bytes}
use Rattle.saved_state.specs.Sls.{number_at}
use Rattle.saved_state.proofs.NumberLaws.{range_rises, number_below}
use Rattle.saved_state.proofs.steps_of.Goals as goal

pub loop-read-init : goal.loop-read-init
unfolding number_at
loop-read-init c = (omega arith, refl)

-- of seven bytes at most, so that there is room for one more
few : (steps read width : ℕ) (bytes : List ℕ) → Bytes bytes → read < width → width ≤ 8 → steps ≡ number_at bytes 15 read → steps < 0x100000000000000
few steps read width bytes small more most is =
    omega (arith, number_below bytes small 15 read, range_rises read 7 (omega arith))

pub overflow_mul-steps : goal.overflow_mul-steps
overflow_mul-steps c =
    omega (arith, few c.loop-read.steps c.loop-read.read c.args.width c.args.bytes.now (λ k. (c.shared_slice_known-1.given k).fits) c.loop-read-test.true c.requires c.loop-read.invariant.1)

pub overflow_add-steps : goal.overflow_add-steps
overflow_add-steps c =
    omega (arith, few c.loop-read.steps c.loop-read.read c.args.width c.args.bytes.now (λ k. (c.shared_slice_known-1.given k).fits) c.loop-read-test.true c.requires c.loop-read.invariant.1)

pub loop-read-preserved : goal.loop-read-preserved
unfolding number_at
loop-read-preserved c = (
  omega (arith, c.loop-read-test.true),
  rw (add-one, c.byte_at.ensures, c.loop-read.invariant.1),
)

pub returns : goal.returns
returns c =
    let all : c.loop-read.read ≡ c.args.width = omega (arith, c.loop-read-test.false, c.loop-read.invariant.0) in
    rw all at c.loop-read.invariant.1
