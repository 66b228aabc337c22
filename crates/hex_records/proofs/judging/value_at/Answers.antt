-- `hex_records::judging::value_at` meets its contract.
use Rattle.hex_records.proofs.Values.{value_two, counted_last, counted_none}
use mathlib.Core.Path.{sym, ◌∙◌}
use borrow.Author.Rules.{rules}
use Rattle.hex_records.proofs.judging.value_at.Goals as goal

pub overflow_mul-k : goal.overflow_mul-k
overflow_mul-k c = search rules

pub bounds-line-k : goal.bounds-line-k
bounds-line-k c = search rules

pub overflow_mul-k-then-k-line : goal.overflow_mul-k-then-k-line
overflow_mul-k-then-k-line c = search rules

pub overflow_add-k : goal.overflow_add-k
overflow_add-k c = search rules

pub bounds-line-k-then-k-line : goal.bounds-line-k-then-k-line
bounds-line-k-then-k-line c = search rules

pub byte_of-requires : goal.byte_of-requires
byte_of-requires c = search rules

pub returns-then-k-line : goal.returns-then-k-line
returns-then-k-line c = c.byte_of.ensures ∙ sym (value_two _ _ c.if-k-line.true)

pub count_of-requires : goal.count_of-requires
count_of-requires c = search rules

pub returns-then-k-count_of : goal.returns-then-k-count_of
returns-then-k-count_of c = counted_last _ _ _ c.count_of.ensures c.if-k-line.false c.if-k-count_of.true

pub returns-else-k-count_of : goal.returns-else-k-count_of
returns-else-k-count_of c = counted_none _ _ _ c.count_of.ensures c.if-k-count_of.false
