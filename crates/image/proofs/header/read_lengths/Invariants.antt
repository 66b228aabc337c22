-- `image::header::read_lengths` meets its contract. The loop's invariant: the state is that after the lengths before k, and the routines before k
-- begin as gathered.
use Rattle.std.proofs.Common.{◌≡◌, ◌*◌, ◌≤◌, length, take}
use Rattle.image.specs.Image.{lengths_of}
use Rattle.image.specs.Lengths.{after_all, BeginsTo16}
use Rattle.image.proofs.header.read_lengths.Given as goal

abbrev pub invariant-loop-k : goal.invariant-loop-k
invariant-loop-k l = record {
  size : length l.begins ≡ 32;
  state : l.state ≡ after_all (take l.k (lengths_of l.image));
  small : l.state.sum ≤ 65535 * l.k;
  gathered : BeginsTo16 l.image l.begins l.k;
}
