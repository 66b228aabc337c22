-- `hex_records::judging::follow_check` meets its contract.
use Rattle.hex_records.specs.Judging.{follow_check}
use borrow.Author.Rules.{rules}
use Rattle.hex_records.proofs.judging.follow_check.Goals as goal

pub enum_told-1 : goal.enum_told-1
enum_told-1 c = search rules

pub enum_known-place : goal.enum_known-place
enum_known-place c = search rules

pub overflow_cast-n : goal.overflow_cast-n
overflow_cast-n c = search rules

pub differ-requires : goal.differ-requires
differ-requires c = search rules

pub enum_told-in-Ended : goal.enum_told-in-Ended
enum_told-in-Ended c = search rules

pub returns-in-First : goal.returns-in-First
unfolding follow_check
returns-in-First c = search rules

pub returns-in-Next : goal.returns-in-Next
unfolding follow_check
returns-in-Next c = rw (c.in-Next.is, c.differ.ensures)

pub returns-in-Ended : goal.returns-in-Ended
unfolding follow_check
returns-in-Ended c = search rules
