-- `hex_records::writing::put_line` meets its contract.
use Rattle.hex_records.specs.Records.{record_bytes}
use Rattle.hex_records.proofs.RecordLaws.{record_length}
use Rattle.hex_records.proofs.Puts.{row_length, row_whole}
use mathlib.Core.Path.{refl}
use Prim.Native.Nat.{◌-◌, ◌+◌}
use lib.ListN.{length-set}
use native.Mathlib.Omega.{arith}
use borrow.Author.Rules.{rules}
use Rattle.hex_records.proofs.writing.put_line.Goals as goal

pub bounds-out-n : goal.bounds-out-n
bounds-out-n c = search rules

pub overflow_add-n : goal.overflow_add-n
overflow_add-n c = search rules

pub put_digits-requires : goal.put_digits-requires
put_digits-requires c = record {
  row_len_bound = c.requires.row_len_bound;
  row_in_bounds = rw (length-set c.args.out.now c.args.n 0x3A) (omega (arith, c.requires.row_in_bounds));
}

pub overflow_add-out : goal.overflow_add-out
overflow_add-out c = search rules

pub overflow_mul-out : goal.overflow_mul-out
overflow_mul-out c = search rules

pub overflow_add-out-2 : goal.overflow_add-out-2
overflow_add-out-2 c = search rules

pub bounds-out-n-2 : goal.bounds-out-n-2
bounds-out-n-2 c = let bytes = record_bytes c.args.address c.args.kind c.args.row.now in
    let count = record_length c.args.address c.args.kind c.args.row.now in
    let size = row_length c.args.out.now _ c.args.n (c.args.n + 1) bytes (omega (arith, c.requires.row_in_bounds)) refl (omega (arith, c.requires.row_in_bounds, count)) c.put_digits.ensures in
    omega (arith, size, c.requires.row_in_bounds)

pub shape_of-out : goal.shape_of-out
shape_of-out c = let bytes = record_bytes c.args.address c.args.kind c.args.row.now in
    let count = record_length c.args.address c.args.kind c.args.row.now in
    let size = row_length c.args.out.now _ c.args.n (c.args.n + 1) bytes (omega (arith, c.requires.row_in_bounds)) refl (omega (arith, c.requires.row_in_bounds, count)) c.put_digits.ensures in
    simp length-set size

pub returns : goal.returns
returns c = let bytes = record_bytes c.args.address c.args.kind c.args.row.now in
    let count = record_length c.args.address c.args.kind c.args.row.now in
    let size = row_length c.args.out.now _ c.args.n (c.args.n + 1) bytes (omega (arith, c.requires.row_in_bounds)) refl (omega (arith, c.requires.row_in_bounds, count)) c.put_digits.ensures in
    row_whole c.args.out.now _ c.args.n (c.args.n + 1) _ c.args.address c.args.kind c.args.row.now refl (omega (arith, count)) (omega (arith, c.requires.row_in_bounds)) c.put_digits.ensures
