-- `hex_records::writing::record_byte` meets its contract.
use native.Mathlib.Omega.{arith}
use mathlib.Core.Path.{◌∙◌}
use Rattle.hex_records.proofs.Puts.{byte_0, byte_1, byte_2, byte_3, byte_data, byte_check}
use borrow.Author.Rules.{rules}
use Rattle.hex_records.proofs.writing.record_byte.Goals as goal

pub overflow_cast-result : goal.overflow_cast-result
overflow_cast-result c = search rules

pub returns-then-k-eq0 : goal.returns-then-k-eq0
returns-then-k-eq0 c = byte_0 c.args.address c.args.kind c.args.k c.args.row.now c.if-k-eq0.true

pub high-requires : goal.high-requires
high-requires c = search rules

pub returns-then-k-eq1 : goal.returns-then-k-eq1
returns-then-k-eq1 c = c.high.ensures ∙ byte_1 c.args.address c.args.kind c.args.k c.args.row.now c.if-k-eq1.true

pub low-requires : goal.low-requires
low-requires c = search rules

pub returns-then-k-eq2 : goal.returns-then-k-eq2
returns-then-k-eq2 c = c.low.ensures ∙ byte_2 c.args.address c.args.kind c.args.k c.args.row.now c.if-k-eq2.true

pub returns-then-k-eq3 : goal.returns-then-k-eq3
returns-then-k-eq3 c = byte_3 c.args.address c.args.kind c.args.k c.args.row.now c.if-k-eq3.true

pub overflow_add-row : goal.overflow_add-row
overflow_add-row c = search rules

pub overflow_sub-result : goal.overflow_sub-result
overflow_sub-result c = search rules

pub bounds-row-k : goal.bounds-row-k
bounds-row-k c = search rules

pub returns-then-k-row : goal.returns-then-k-row
returns-then-k-row c = byte_data c.args.address c.args.kind c.args.k c.args.row.now (omega arith) c.if-k-row.true

pub checksum_of-requires : goal.checksum_of-requires
checksum_of-requires c = search rules

pub returns : goal.returns
returns c = c.checksum_of.ensures ∙ byte_check c.args.address c.args.kind c.args.k c.args.row.now (omega arith)
