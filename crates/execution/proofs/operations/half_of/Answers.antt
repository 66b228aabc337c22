-- `execution::operations::half_of` meets its contract.
use Rattle.execution.proofs.operations.half_of.Goals as goal

pub returns-in-Low : goal.returns-in-Low
returns-in-Low c = rw (c.low.ensures, c.in-Low.is)

pub returns-in-High : goal.returns-in-High
returns-in-High c = rw (c.high.ensures, c.in-High.is)
