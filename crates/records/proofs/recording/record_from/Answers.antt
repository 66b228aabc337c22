-- `records::recording::record_from` meets its contract.
use borrow.Author.Rules.{rules}
use Rattle.records.proofs.recording.record_from.Goals as goal

pub enum_told-1 : goal.enum_told-1
enum_told-1 c = search rules

pub returns-in-Byte : goal.returns-in-Byte
returns-in-Byte c = rw (c.byte_at-lower.ensures, c.in-Byte.is)

pub returns-in-Word : goal.returns-in-Word
returns-in-Word c = rw (c.byte_at.ensures, c.byte_at-lower.ensures, c.in-Word.is)
