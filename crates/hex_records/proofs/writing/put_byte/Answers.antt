-- `hex_records::writing::put_byte` meets its contract.
use Rattle.hex_records.proofs.Puts.{put_byte}
use lib.ListN.{length-set}
use native.Mathlib.Omega.{arith}
use borrow.Author.Rules.{rules}
use Rattle.hex_records.proofs.writing.put_byte.Goals as goal

pub digit_of-requires : goal.digit_of-requires
digit_of-requires c = search rules

pub bounds-out-n : goal.bounds-out-n
bounds-out-n c = search rules

pub digit_of-requires-2 : goal.digit_of-requires-2
digit_of-requires-2 c = search rules

pub overflow_add-out : goal.overflow_add-out
overflow_add-out c = search rules

pub bounds-out-n-2 : goal.bounds-out-n-2
bounds-out-n-2 c = rw (length-set c.args.out.now c.args.n c.digit_of.result) (omega (arith, c.requires))

pub shape_of-out : goal.shape_of-out
shape_of-out c = search rules

pub returns : goal.returns
returns c = put_byte c.args.out.now c.args.n c.args.byte _ _ c.requires c.digit_of.ensures c.digit_of-2.ensures
