-- One more read: what it put behind the front of the buffer is what it took from the input.
use Rattle.std.proofs.Common.{◌≡◌, ℕ, ◌+◌, ◌-◌, ◌≤◌, List, ◌++◌, rules, arith, length, take, slice_range, sym, ap, ◌∙◌, subst, le_refl, drop_at, length-take-le}
use Rattle.std.proofs.lemmas.Slice.{take-put_mid_below}
use Rattle.std.specs.Io.KnownBytes.{Consumes}
use Rattle.std.proofs.KnownBytes.{Consumes-trans}
use borrow.Rule.Slice.PartMut.{put_mid, post_of}
use Rattle.std.proofs.Math.Seq.{take-add, take-append-le}
use Rattle.console.proofs.read_full.Goals as goal

joined : (a b : ℕ) (old new : List ℕ) → a ≤ b → take a new ≡ take a old → take a old ++ slice_range new a b ≡ take b new
joined a b old new h front =
    let same : a + (b - a) ≡ b = omega arith in
    ap (λ l. l ++ slice_range new a b) (sym front) ∙ sym (take-add a (b - a) new) ∙ ap (λ n. take n new) same

behind : (a k n : ℕ) (xs ys : List ℕ) → a ≤ length xs → n ≤ length ys → slice_range (put_mid a k xs ys) a (a + n) ≡ take n ys
behind a k n xs ys within fits =
    let same : (a + n) - a ≡ n = omega arith in
    let after = post_of a k xs in
    ap (take ((a + n) - a)) (drop_at (take a xs) (ys ++ after) a (length-take-le a xs within)) ∙ ap (λ m. take m (ys ++ after)) same ∙
    take-append-le n ys after fits

pub loop-n-preserved : goal.loop-n-preserved
loop-n-preserved g c =
    let from = c.loop-n.n in
    let room = length c.loop-n.buffer - from in
    let within = c.loop-n.invariant.within in
    let more = c.in_ok-more.more in
    let after = put_mid from room c.loop-n.buffer c.read.new.buf in
    let part = behind from room more c.loop-n.buffer c.read.new.buf within c.in_ok-more.ensures.bound.0 in
    let front = joined from (from + more) c.loop-n.buffer after (omega arith) (take-put_mid_below _ _ _ _ _ (le_refl _) within) in
    record {
      size = search rules;
      within = search rules;
      taken =
          subst (Consumes _ _) (ap (λ l. take from c.loop-n.buffer ++ l) (sym part) ∙ front)
          (Consumes-trans _ _ _ _ _ c.loop-n.invariant.taken c.in_ok-more.ensures.bytes.0);
    }
