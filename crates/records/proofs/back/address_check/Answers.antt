-- `records::back::address_check` meets its contract.
use Rattle.records.proofs.back.address_check.Goals as goal

pub returns : goal.returns
returns c = rw (c.both.ensures, c.under-2.ensures, c.under.ensures)
