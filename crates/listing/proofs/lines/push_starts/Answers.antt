-- `listing::lines::push_starts` meets its contract. The loop's invariant: the lines of the code bytes before the offset are written, and there is
-- room for 35 bytes for each one left.
use Prim.Native.Nat.{ℕ, ◌-◌}
use mathlib.Core.Path.{◌≡◌}
use mathlib.Core.List.{List, flat_map}
use native.Mathlib.Omega.{arith}
use lib.ListN.{length}
use Rattle.image.specs.Image.{code_at, size_of}
use Rattle.image.specs.Rules.{ImageRules}
use Rattle.listing.specs.Listing.{line_at}
use Rattle.listing.proofs.Appending.{◌then◌, wrote_none, lines_next}
use Rattle.listing.proofs.Sizes.{line_size}
use Rattle.listing.proofs.lines.push_starts.Goals as goal

-- the code ends with the image
code_size : {image : List ℕ} {code : ℕ} → ImageRules image → code ≡ code_at image → length image - code ≡ size_of image
code_size rules e = omega (arith, rules.end, e)

pub overflow_sub-size : goal.overflow_sub-size
overflow_sub-size c = omega (arith, c.requires.0.end, c.code_at.ensures.value)

pub loop-offset-init : goal.loop-offset-init
unfolding flat_map
loop-offset-init c =
    (omega arith, wrote_none _ _ (omega (arith, c.requires.1)), omega (arith, code_size c.requires.0 c.code_at.ensures.value))

pub push_line-end-requires : goal.push_line-end-requires
push_line-end-requires c =
    let size = code_size c.requires.0 c.code_at.ensures.value in record {
      image_rules = (c.requires.0, size);
      offset_bound = (omega (arith, c.requires.0.top, size), omega arith);
    }

pub loop-offset-preserved : goal.loop-offset-preserved
loop-offset-preserved c =
    let image = c.args.image.now in
    let marks = c.args.marks.now in (
      omega arith,
      rw (lines_next (line_at image marks) c.loop-offset.offset) (c.loop-offset.invariant.1 then c.push_line-end.ensures),
      omega (arith, line_size image marks c.loop-offset.offset),
    )

pub returns : goal.returns
returns c =
    let all : c.loop-offset.offset ≡ size_of c.args.image.now = omega (arith, code_size c.requires.0 c.code_at.ensures.value) in
    rw all at c.loop-offset.invariant.1

pub shape_of-buffer : goal.shape_of-buffer
shape_of-buffer c = c.loop-offset.invariant.1.room
