-- `machine::stepping::step_valid` meets its contract, by the ways through a step.
use mathlib.Core.Path.{refl, sym, ap, ◌∙◌}
use borrow.Author.Tests.{eq-eqb, ne_eqb}
use Rattle.numbers.proofs.Checking.{first_zero}
use Rattle.storage.specs.Traps.{number_of}
use Rattle.storage.proofs.TrapLaws.{trap_some}
use Rattle.machine.proofs.StepLaws.{finished, trapped_early, decodes}
use Rattle.machine.proofs.stepping.step_valid.Goals as goal

pub returns-then-registers-eq0 : goal.returns-then-registers-eq0
returns-then-registers-eq0 c = record {
  outcome = rw (
    finished c.args.image.now c.args.limits c.args.registers c.args.memory.now (eq-eqb _ _ c.if-registers-eq0.true),
    c.without_cycles.ensures,
    c.answer.ensures,
  );
  cost = rw (c.without_cycles.ensures, c.answer.ensures);
}

pub returns-in-Err : goal.returns-in-Err
returns-in-Err c =
    let found = sym (ap number_of c.in-Err.is) ∙ c.early_trap.ensures c.args.image.now c.requires.valid.is in record {
      outcome = rw (
        trapped_early c.args.image.now c.args.limits c.args.registers c.args.memory.now (ne_eqb _ _ c.if-registers-eq0.false) _ found (trap_some c.in-Err.trap),
        c.without_cycles-in-Err.ensures,
        c.answer-in-Err.ensures,
        c.from.ensures,
      );
      cost = rw (c.without_cycles-in-Err.ensures, c.answer-in-Err.ensures);
    }

pub step_inside-requires : goal.step_inside-requires
step_inside-requires c =
    let none = first_zero _ _ (sym (c.early_trap.ensures c.args.image.now c.requires.valid.is) ∙ ap number_of c.in_default.is) in
    record { valid = c.requires.valid; stack = none.0; inside = none.1 }

pub returns : goal.returns
returns c =
    let none = sym (ap number_of c.in_default.is) ∙ c.early_trap.ensures c.args.image.now c.requires.valid.is in record {
      outcome = decodes c.args.image.now c.args.limits c.args.registers c.args.memory.now (ne_eqb _ _ c.if-registers-eq0.false) _ none refl ∙ c.step_inside.ensures.outcome;
      cost = c.step_inside.ensures.cost;
    }
