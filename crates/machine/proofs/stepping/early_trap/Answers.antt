-- `machine::stepping::early_trap` meets its contract.
use mathlib.Core.Path.{sym, ap, ◌∙◌}
use Rattle.numbers.proofs.Checking.{first_pass}
use Rattle.storage.specs.Traps.{number_of}
use Rattle.storage.proofs.TrapLaws.{first_trap, passed_on}
use Rattle.machine.proofs.StepLaws.{pc_trap_is}
use Rattle.machine.proofs.stepping.early_trap.Goals as goal

pub returns-in_err-sp_trap : goal.returns-in_err-sp_trap
returns-in_err-sp_trap c image at =
    rw (passed_on c.in_err-sp_trap.field-0.0 c.from_residual.result c.from_residual.ensures.1, ← c.in_err-sp_trap.ensures) (first_trap c.in_err-sp_trap.field-0.0 _)

pub returns : goal.returns
returns c image at = rw (← c.in_ok-sp_trap.ensures) (c.pc_trap.ensures ∙ pc_trap_is image c.args.layout at c.args.registers.pc ∙ sym (first_pass _))
