-- `listing::lines::push_line` meets its contract.
use Prim.Native.Nat.{◌+◌, ◌-◌}
use borrow.Author.Tests.{eq-eqb}
use native.Mathlib.Omega.{arith}
use Rattle.code.specs.Code.{instruction_in}
use Rattle.listing.specs.Listing.{start_line, line_at}
use Rattle.listing.proofs.Appending.{◌then◌, wrote_none}
use Rattle.listing.proofs.Placing.{line_start}
use Rattle.listing.proofs.Sizes.{front_size, text_at_size}
use Rattle.listing.proofs.lines.push_line.Goals as goal

pub returns-then-mark-eq0 : goal.returns-then-mark-eq0
unfolding line_at
returns-then-mark-eq0 c = rw (← c.mark_at-mark.ensures, eq-eqb _ 0 c.if-mark-eq0.true) (wrote_none _ _ (omega (arith, c.requires.offset_bound.1)))

pub push_decoded-at-requires : goal.push_decoded-at-requires
push_decoded-at-requires c =
    (c.requires.image_rules.0, c.requires.image_rules.1, omega (arith, front_size (c.base_of.result + c.args.offset) (c.mark_at-mark.result - 1)))

pub push-requires : goal.push-requires
push-requires c =
    let address = c.base_of.result + c.args.offset in
    omega (
      arith,
      c.push_decoded-at.ensures.end,
      c.push_decoded-at.ensures.room,
      c.push_front-at.ensures.end,
      front_size address (c.mark_at-mark.result - 1),
      text_at_size address (instruction_in c.args.image.now c.args.offset),
    )

pub returns : goal.returns
unfolding start_line
returns c =
    rw (
      c.base_of.ensures,
      line_start c.args.image.now c.args.marks.now c.args.offset c.mark_at-mark.result c.mark_at-mark.ensures c.if-mark-eq0.false,
    ) at (c.push_front-at.ensures then c.push_decoded-at.ensures then c.push.ensures)
