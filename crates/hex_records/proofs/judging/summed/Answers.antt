-- `hex_records::judging::summed` meets its contract.
use Rattle.hex_records.proofs.Sums.{sums_begun, sums_more, sums_all}
use Rattle.hex_records.proofs.Values.{value_small}
use Prim.Native.Nat.{◌-◌}
use borrow.Author.Rules.{rules}
use native.Mathlib.Omega.{arith}
use Rattle.hex_records.proofs.judging.summed.Goals as goal

pub count_of-n-requires : goal.count_of-n-requires
count_of-n-requires c = search rules

pub loop-k-init : goal.loop-k-init
loop-k-init c = sums_begun _ _ c.count_of-n.ensures

pub value_at-value-requires : goal.value_at-value-requires
value_at-value-requires c = search rules

pub good_with-good-requires : goal.good_with-good-requires
good_with-good-requires c = search rules

pub overflow_add-sum : goal.overflow_add-sum
overflow_add-sum c = let line = c.args.line in omega (arith, c.loop-k.invariant.small, value_small line.now c.loop-k.k, c.value_at-value.ensures)

pub overflow_add-k : goal.overflow_add-k
overflow_add-k c = search rules

pub loop-k-smaller : goal.loop-k-smaller
loop-k-smaller c = omega arith

pub loop-k-preserved : goal.loop-k-preserved
loop-k-preserved c = sums_more _ _ c.loop-k.sum c.loop-k.good c.loop-k.k _ _ c.loop-k-test.true c.value_at-value.ensures c.good_with-good.ensures c.loop-k.invariant

pub returns : goal.returns
returns c = sums_all _ _ c.loop-k.sum c.loop-k.good c.loop-k.k c.loop-k-test.false c.loop-k.invariant
