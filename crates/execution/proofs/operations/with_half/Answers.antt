-- `execution::operations::with_half` meets its contract.
use Rattle.execution.proofs.operations.with_half.Goals as goal

pub returns-in-Low : goal.returns-in-Low
returns-in-Low c = rw (c.word.ensures, c.high.ensures, c.in-Low.is)

pub returns-in-High : goal.returns-in-High
returns-in-High c = rw (c.word-in-High.ensures, c.low.ensures, c.in-High.is)
