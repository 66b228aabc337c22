-- `hexadecimal::parse` meets its contract: at each turn the bytes so far, and those that the rest spells, are the whole.
use Prim.Native.Nat.{◌<◌}
use mathlib.Core.Path.{◌≡◌, refl}
use native.Mathlib.Omega.{arith}
use lib.ListN.{length, length-set}
use Rattle.hexadecimal.proofs.Spelling.{begun, stored, skipped, full, ended, after_stored, both_parts}
use Rattle.hexadecimal.proofs.parse.Goals as goal

pub loop-i-init : goal.loop-i-init
loop-i-init c =
    (omega arith, omega arith, refl, begun c.args.text.now c.args.bytes.now, refl)

pub returns-then-n-bytes : goal.returns-then-n-bytes
returns-then-n-bytes c =
    let e : c.loop-i.n ≡ length c.args.bytes.now = omega arith in
    let front = full c.args.text.now c.loop-i.bytes _ (length c.args.bytes.now) c.loop-i.n c.loop-i.i e c.loop-i.invariant.3 in record {
      upper_bound = c.loop-i.invariant.0;
      bytes_after = both_parts c.args.bytes.now c.loop-i.bytes _ c.loop-i.n front c.loop-i.invariant.4;
    }

pub loop-i-preserved-then-value-lt256 : goal.loop-i-preserved-then-value-lt256
loop-i-preserved-then-value-lt256 c =
    let room : c.loop-i.n < length c.loop-i.bytes = omega arith in (
      simp length-set (omega arith),
      omega arith,
      simp length-set c.loop-i.invariant.2,
      stored c.args.text.now c.loop-i.bytes _ _ (length c.args.bytes.now) c.loop-i.n c.loop-i.i c.pair-value.result c.loop-i-test.true
          c.pair-value.ensures c.if-value-lt256.true room c.loop-i.invariant.2 refl c.loop-i.invariant.3,
      after_stored c.args.bytes.now c.loop-i.bytes c.loop-i.n c.pair-value.result c.loop-i.invariant.4,
    )

pub loop-i-preserved : goal.loop-i-preserved
loop-i-preserved c = (
  c.loop-i.invariant.0,
  omega arith,
  c.loop-i.invariant.2,
  skipped c.args.text.now c.loop-i.bytes _ (length c.args.bytes.now) c.loop-i.n c.loop-i.i c.pair-value.result c.loop-i-test.true c.pair-value.ensures
      c.if-value-lt256.false c.loop-i.invariant.3,
  c.loop-i.invariant.4,
)

pub returns : goal.returns
returns c =
    let front = ended c.args.text.now c.loop-i.bytes _ (length c.args.bytes.now) c.loop-i.n c.loop-i.i c.loop-i-test.false c.loop-i.invariant.3 in record {
      upper_bound = c.loop-i.invariant.0;
      bytes_after = both_parts c.args.bytes.now c.loop-i.bytes _ c.loop-i.n front c.loop-i.invariant.4;
    }

pub shape_of-bytes-then-n-bytes : goal.shape_of-bytes-then-n-bytes
shape_of-bytes-then-n-bytes c = c.loop-i.invariant.2

pub shape_of-bytes : goal.shape_of-bytes
shape_of-bytes c = c.loop-i.invariant.2
