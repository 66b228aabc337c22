-- `hex_records::judging::count_of` meets its contract.
use Rattle.hex_records.proofs.Values.{pairs_count}
use native.Mathlib.Omega.{arith}
use mathlib.Core.Path.{sym, ◌∙◌}
use borrow.Author.Rules.{rules}
use Rattle.hex_records.proofs.judging.count_of.Goals as goal

pub lone-requires : goal.lone-requires
lone-requires c = search rules

pub overflow_add-result : goal.overflow_add-result
overflow_add-result c = search rules

pub returns-then-lone : goal.returns-then-lone
returns-then-lone c = sym (pairs_count _ ∙ rw (← c.lone.ensures, c.if-lone.true))

pub returns-else-lone : goal.returns-else-lone
returns-else-lone c = sym (pairs_count _ ∙ rw (← c.lone.ensures, c.if-lone.false) (omega arith))
