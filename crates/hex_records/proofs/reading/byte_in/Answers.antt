-- `hex_records::reading::byte_in` meets its contract.
use native.Mathlib.Omega.{arith}
use borrow.Author.Rules.{part_to_end}
use Rattle.hex_records.proofs.WellFormed.{some_character, value_in, bytes_in}
use Rattle.hex_records.proofs.reading.byte_in.Goals as goal

pub returns : goal.returns
returns c =
    let body = c.args.body.now in
    value_in body c.requires c.args.k _ (rw (part_to_end body 1) at c.value_at.ensures)

pub overflow_cast-result : goal.overflow_cast-result
overflow_cast-result c =
    let body = c.args.body.now in
    let is = value_in body c.requires c.args.k _ (rw (part_to_end body 1) at c.value_at.ensures) in
    omega (arith, is, bytes_in body c.requires c.args.k)

pub slice_bounds-value_at-count : goal.slice_bounds-value_at-count
slice_bounds-value_at-count c = some_character c.args.body.now c.requires

pub slice_bounds-value_at-start : goal.slice_bounds-value_at-start
slice_bounds-value_at-start c = some_character c.args.body.now c.requires
