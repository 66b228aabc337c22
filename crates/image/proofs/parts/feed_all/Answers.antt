-- `image::parts::feed_all` meets its contract.
use Rattle.std.proofs.Common.{◌<◌, length, sym, ◌∙◌, arith}
use Rattle.image.specs.Lengths.{after_all}
use Rattle.image.proofs.Feeding.{cut_whole, fed_more}
use Rattle.image.proofs.parts.feed_all.Goals as goal

pub loop-length-init : goal.loop-length-init
unfolding after_all
loop-length-init c = (c.new-state.ensures, rw c.new-state.ensures (omega arith))

pub loop-length-preserved : goal.loop-length-preserved
loop-length-preserved c =
    let lengths = c.args.lengths.now in
    let k = c.loop-length.length-index in
    let below : k < length lengths = c.loop-length-test.true in
    let next = c.feed-state.ensures ∙ cut_whole _ (omega (arith, c.loop-length.invariant.1, c.requires, below, c.type_inv.lengths k)) in (
      next ∙ rw c.loop-length.invariant.0 (sym (fed_more lengths k below)),
      rw next (omega (arith, c.loop-length.invariant.1, c.type_inv.lengths k)),
    )
