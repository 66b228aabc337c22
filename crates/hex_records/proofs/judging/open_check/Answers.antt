-- `hex_records::judging::open_check` meets its contract.
use Rattle.hex_records.specs.Judging.{open_check}
use borrow.Author.Rules.{rules}
use Rattle.hex_records.proofs.judging.open_check.Goals as goal

pub enum_told-1 : goal.enum_told-1
enum_told-1 c = search rules

pub enum_told-in-Next : goal.enum_told-in-Next
enum_told-in-Next c = search rules

pub enum_told-in-Ended : goal.enum_told-in-Ended
enum_told-in-Ended c = search rules

pub returns-in-First : goal.returns-in-First
unfolding open_check
returns-in-First c = search rules

pub returns-in-Next : goal.returns-in-Next
unfolding open_check
returns-in-Next c = search rules

pub returns-in-Ended : goal.returns-in-Ended
unfolding open_check
returns-in-Ended c = search rules
