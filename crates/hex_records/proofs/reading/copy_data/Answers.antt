-- `hex_records::reading::copy_data` meets its contract. The loop's invariant: the first k bytes of the data are put.
use Prim.Native.Nat.{◌+◌, ◌-◌, ◌<◌, ◌≤◌}
use mathlib.Core.Path.{refl, ap, ◌∙◌}
use native.Mathlib.Omega.{arith}
use lib.ListN.{length}
use lib.Seq.{take_all, length-take-le}
use Rattle.hex_records.specs.Judging.{line_bytes, length_in, data_in}
use Rattle.hex_records.specs.Internal.{put_at}
use Rattle.hex_records.proofs.Puts.{put_begun, put_one, put_turn}
use Rattle.hex_records.proofs.WellFormed.{data_count, data_at}
use Rattle.hex_records.proofs.reading.copy_data.Goals as goal

pub loop-k-init : goal.loop-k-init
loop-k-init c =
    (omega (arith, c.requires.body_in_bounds, c.data_length-count.ensures), omega arith, put_begun _ _)

pub bounds-out-n : goal.bounds-out-n
bounds-out-n c =
    omega (arith, c.loop-k.invariant.0, c.loop-k.invariant.2.size, c.loop-k-test.true)

pub loop-k-preserved : goal.loop-k-preserved
loop-k-preserved c =
    let body = c.args.body.now in
    let below : c.loop-k.k < length_in (line_bytes body) = omega (arith, c.data_length-count.ensures, c.loop-k-test.true) in
    let contents = data_in (line_bytes body) in
    let size = data_count body c.requires.body_value in
    let byte = c.byte_in.ensures ∙ data_at body c.requires.body_value c.loop-k.k below in
    let one = put_one c.loop-k.out (c.args.n + c.loop-k.k) _ (omega (arith, c.loop-k.invariant.0, c.loop-k.invariant.2.size, below, c.data_length-count.ensures)) in (
      c.loop-k.invariant.0,
      omega (arith, c.loop-k-test.true),
      put_turn (λ s. s) (λ s t. refl) contents c.loop-k.k (omega (arith, size)) c.args.out.now c.loop-k.out _ c.args.n (c.args.n + c.loop-k.k)
          (omega (arith, size, c.requires.body_in_bounds)) (rw (length-take-le c.loop-k.k contents (omega (arith, size))) refl) (one ∙ rw byte) c.loop-k.invariant.2,
    )

pub returns : goal.returns
returns c =
    let body = c.args.body.now in
    let past : length (data_in (line_bytes body)) ≤ c.loop-k.k = omega (arith, data_count body c.requires.body_value, c.data_length-count.ensures, c.loop-k-test.false) in
    c.loop-k.invariant.2.is ∙ ap (put_at c.args.out.now c.args.n) (take_all c.loop-k.k (data_in (line_bytes body)) past)

pub shape_of-out : goal.shape_of-out
shape_of-out c = c.loop-k.invariant.2.size
