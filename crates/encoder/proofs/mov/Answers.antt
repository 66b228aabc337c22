-- `encoder::mov` meets its contract. In each arm the variant is known: a line for what the arm's calls ask, then one for what it returns.
use Rattle.encoder.proofs.Forms.{mov_long_lem, mov_short_lem}
use Rattle.encoder.proofs.mov.Goals as goal

pub returns-in-Accumulator : goal.returns-in-Accumulator
returns-in-Accumulator c = rw c.in-Accumulator.is

pub returns-in-Immediate : goal.returns-in-Immediate
returns-in-Immediate c = rw c.in-Immediate.is

pub returns-in-ImmediateWord : goal.returns-in-ImmediateWord
returns-in-ImmediateWord c = rw c.in-ImmediateWord.is

pub returns-in-Short : goal.returns-in-Short
returns-in-Short c = rw (c.append.ensures, c.on_operand.ensures, c.in-Short.is, mov_short_lem)

pub returns-in-Long : goal.returns-in-Long
returns-in-Long c = rw (c.append_word.ensures, c.on_operand-in-Long.ensures, c.in-Long.is, mov_long_lem)

pub returns-in-Indexed : goal.returns-in-Indexed
returns-in-Indexed c = rw c.in-Indexed.is

pub returns-in-Sp : goal.returns-in-Sp
returns-in-Sp c = rw c.in-Sp.is
