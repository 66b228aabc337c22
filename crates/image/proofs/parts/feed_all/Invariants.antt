-- `image::parts::feed_all` meets its contract. The loop's invariant: the state is that after the lengths before this one.
use Rattle.std.proofs.Common.{◌≡◌, ◌*◌, ◌≤◌, take}
use Rattle.image.specs.Lengths.{after_all}
use Rattle.image.proofs.parts.feed_all.Given as goal

abbrev pub invariant-loop-length : goal.invariant-loop-length
invariant-loop-length l = (l.state ≡ after_all (take l.length-index l.lengths)) × (l.state.sum ≤ 65535 * l.length-index)
