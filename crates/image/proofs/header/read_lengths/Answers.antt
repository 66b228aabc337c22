-- `image::header::read_lengths` meets its contract.
use Rattle.std.proofs.Common.{◌≡◌, ◌<◌, length-set, refl, ap, ◌∙◌, arith, take, take_all}
use Rattle.image.specs.Image.{count_of, lengths_of}
use Rattle.image.specs.Lengths.{after_all}
use Rattle.image.proofs.Measuring.{lengths_count}
use Rattle.image.proofs.Feeding.{cut_whole, state_next, state_sum, gathered, past_32}
use Rattle.image.proofs.header.read_lengths.Goals as goal
use Rattle.image.proofs.header.read_lengths.Goals.{then-k-lt32, else-k-lt32}

pub loop-k-init : goal.loop-k-init
unfolding after_all
loop-k-init c = record {
  size = refl;
  state = c.new-state.ensures;
  small = rw c.new-state.ensures (omega arith);
  gathered = λ k below. absurd (omega arith);
}

pub loop-k-preserved : goal.loop-k-preserved
loop-k-preserved c =
    let image = c.args.image.now in
    let k = c.loop-k.k in
    let before = c.loop-k.invariant in
    let below : k < count_of image = omega (arith, c.count_of-count.ensures) in
    let next = c.feed-state.ensures ∙ cut_whole _ (omega (arith, before.small)) in record {
      size = elim c.if-k-lt32.branch [ then-k-lt32 w ↦ rw w.begins-is (length-set _ k _ ∙ before.size) | else-k-lt32 w ↦ rw w.begins-is before.size ];
      state = state_next image k below before.state c.word_at.ensures next;
      small = rw next (omega (arith, before.small));
      gathered = elim c.if-k-lt32.branch [
        | then-k-lt32 w ↦ rw w.begins-is (gathered image k _ before.size (state_sum image k before.state) before.gathered)
        | else-k-lt32 w ↦ rw w.begins-is (past_32 image k _ w.if-k-lt32.false before.gathered)
      ];
    }

pub returns-clause-after_lengths : goal.returns-clause-after_lengths
returns-clause-after_lengths c =
    let image = c.args.image.now in
    let all : c.loop-k.k ≡ count_of image = omega (arith, c.count_of-count.ensures) in
    let whole = take_all (count_of image) (lengths_of image) (omega (arith, lengths_count image)) in
    c.loop-k.invariant.state ∙ ap (λ k. after_all (take k (lengths_of image))) all ∙ ap after_all whole
