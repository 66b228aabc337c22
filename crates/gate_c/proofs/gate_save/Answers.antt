-- `gate_c::gate_save` meets its contract.
use mathlib.Core.Path.{refl}
use Rattle.gate_c.proofs.gate_save.Goals as goal

pub returns : goal.returns
returns c = record {
  value = rw (← c.registers_in.ensures, ← c.save-record.ensures) refl;
  saved_after = rw (← c.registers_in.ensures, ← c.save-record.ensures) refl;
}
