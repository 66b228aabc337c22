-- `hex_records::judging::lone` meets its contract.
use Rattle.hex_records.proofs.Values.{lone_even, lone_odd}
use native.Mathlib.Omega.{arith}
use mathlib.Core.Path.{sym}
use borrow.Author.Rules.{rules}
use Rattle.hex_records.proofs.judging.lone.Goals as goal

pub returns-then-line-eq0 : goal.returns-then-line-eq0
returns-then-line-eq0 c = sym (lone_even _ c.if-line-eq0.true)

pub overflow_sub-result : goal.overflow_sub-result
overflow_sub-result c = search rules

pub bounds-line-line : goal.bounds-line-line
bounds-line-line c = search rules

pub returns : goal.returns
returns c = sym (lone_odd _ _ (omega arith) (omega arith))
