-- `records::recording::record_of` meets its contract.
use borrow.Author.Rules.{rules}
use Rattle.records.proofs.recording.record_of.Goals as goal

pub enum_told-1 : goal.enum_told-1
enum_told-1 c = search rules

pub returns-in-Made : goal.returns-in-Made
returns-in-Made c memory addresses made = rw c.in-Made.is (made c.in-Made.is)

pub returns-in-Finished : goal.returns-in-Finished
returns-in-Finished c memory addresses made = rw c.in-Finished.is (c.without_bytes.ensures memory)

pub returns-in-Trap : goal.returns-in-Trap
returns-in-Trap c memory addresses made = rw c.in-Trap.is (c.without_bytes-in-Trap.ensures memory)

pub returns-in-Refused : goal.returns-in-Refused
returns-in-Refused c memory addresses made = rw c.in-Refused.is (c.without_bytes-in-Refused.ensures memory)
