-- `records::step_back` meets its contract.
use mathlib.Core.Path.{refl}
use Rattle.records.proofs.GivingBack.{back_by}
use Rattle.records.proofs.step_back.Goals as goal

pub returns : goal.returns
returns c =
    back_by _ _ _ _ _ c.refusal-number.ensures c.put_unless.ensures refl
