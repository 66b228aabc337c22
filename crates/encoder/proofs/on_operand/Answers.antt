-- `encoder::on_operand` meets its contract. In each arm the variant is known: a line for what the arm's calls ask, then one for what it returns.
use Rattle.encoder.proofs.on_operand.Goals as goal

pub returns-in-Accumulator : goal.returns-in-Accumulator
returns-in-Accumulator c = rw (c.opcode.ensures, c.in-Accumulator.is)

pub returns-in-Immediate : goal.returns-in-Immediate
returns-in-Immediate c = rw (c.append.ensures, c.opcode-in-Immediate.ensures, c.in-Immediate.is)

pub returns-in-ImmediateWord : goal.returns-in-ImmediateWord
returns-in-ImmediateWord c = rw (c.append_word.ensures, c.opcode-in-ImmediateWord.ensures, c.in-ImmediateWord.is)

pub returns-in-Short : goal.returns-in-Short
returns-in-Short c = rw (c.append-in-Short.ensures, c.opcode-in-Short.ensures, c.in-Short.is)

pub returns-in-Long : goal.returns-in-Long
returns-in-Long c = rw (c.append_word-in-Long.ensures, c.opcode-in-Long.ensures, c.in-Long.is)

pub returns-in-Indexed : goal.returns-in-Indexed
returns-in-Indexed c = rw c.in-Indexed.is

pub returns-in-Sp : goal.returns-in-Sp
returns-in-Sp c = rw (c.append-in-Sp.ensures, c.opcode-in-Sp.ensures, c.in-Sp.is)
