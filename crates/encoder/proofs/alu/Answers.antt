-- `encoder::alu` meets its contract. In each arm the variant is known: a line for what the arm's calls ask, then one for what it returns.
use Rattle.encoder.proofs.alu.Goals as goal

pub returns-in-Accumulator : goal.returns-in-Accumulator
returns-in-Accumulator c = rw c.in-Accumulator.is

pub returns-in-Immediate : goal.returns-in-Immediate
returns-in-Immediate c = rw (c.two_bytes.ensures, c.alu_column-column.ensures.0, c.in-Immediate.is)

pub returns-in-ImmediateWord : goal.returns-in-ImmediateWord
returns-in-ImmediateWord c = rw c.in-ImmediateWord.is

pub returns-in-Short : goal.returns-in-Short
returns-in-Short c = rw (c.two_bytes-in-Short.ensures, c.alu_column-column.ensures.0, c.in-Short.is)

pub returns-in-Long : goal.returns-in-Long
returns-in-Long c = rw (c.append_word.ensures, c.one_byte.ensures, c.alu_column-column.ensures.0, c.in-Long.is)

pub returns-in-Indexed : goal.returns-in-Indexed
returns-in-Indexed c = rw (c.indexed.ensures, c.alu_column-column.ensures.0, c.in-Indexed.is)

pub returns-in-Sp : goal.returns-in-Sp
returns-in-Sp c = rw (c.two_bytes-in-Sp.ensures, c.alu_sp.ensures, c.in-Sp.is)
