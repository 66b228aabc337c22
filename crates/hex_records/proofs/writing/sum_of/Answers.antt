-- `hex_records::writing::sum_of` meets its contract.
use Rattle.hex_records.proofs.Puts.{sum_next, sum_end, sum_none}
use Prim.Native.Nat.{◌-◌}
use borrow.Author.Rules.{rules}
use native.Mathlib.Omega.{arith}
use Rattle.hex_records.proofs.writing.sum_of.Goals as goal

pub loop-k-init : goal.loop-k-init
loop-k-init c = (omega arith, sum_none c.args.row.now)

pub byte_at-byte-requires : goal.byte_at-byte-requires
byte_at-byte-requires c = search rules

pub overflow_cast-sum : goal.overflow_cast-sum
overflow_cast-sum c = search rules

pub overflow_add-sum : goal.overflow_add-sum
overflow_add-sum c = omega (arith, c.loop-k.invariant.0)

pub overflow_add-k : goal.overflow_add-k
overflow_add-k c = search rules

pub loop-k-smaller : goal.loop-k-smaller
loop-k-smaller c = omega arith

pub loop-k-preserved : goal.loop-k-preserved
loop-k-preserved c = (omega arith, sum_next _ c.loop-k.k _ c.loop-k.sum c.loop-k-test.true c.byte_at-byte.ensures c.loop-k.invariant.1)

pub returns : goal.returns
returns c = sum_end _ c.loop-k.k c.loop-k.sum c.loop-k-test.false c.loop-k.invariant.1
