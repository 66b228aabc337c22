-- `checker::check_begins` meets its contract: its outcome is a declared one, and there is one only.
use mathlib.Core.Path.{sym, subst, ◌∙◌, ap}
use Prim.Native.Nat.{ℕ}
use Rattle.image.specs.Image.{layout_of}
use Rattle.image.specs.Lengths.{Begins}
use Rattle.image.proofs.Layouts.{count_is}
use Rattle.image.specs.Validated.{Refused}
use Rattle.rules.specs.Outcome.{invalid}
use Rattle.rules.proofs.EveryOutcome.{verdict_numbered}
use Rattle.acceptance.proofs.Accepting.{outcome_checked}
use Rattle.checker.proofs.check_begins.Goals as goal

pub check_valid-verdict-requires : goal.check_valid-verdict-requires
check_valid-verdict-requires c =
    let told = c.in-Ok.ensures in
    (sym told.answer, told.begins)

pub returns-in-Ok : goal.returns-in-Ok
unfolding layout_of
returns-in-Ok c =
    let told = c.in-Ok.ensures in
    let measured = c.in-Ok.measured in record {
      marks_value = outcome_checked _ _ _ c.check_valid-verdict.ensures;
      verdict_numbered = verdict_numbered c.check_valid-verdict.ensures;
      by_index = λ need count e.
          subst (λ (n : ℕ). Begins c.args.image.now measured.begins n) (count_is _ _ _ (sym told.answer)) told.begins;
    }

pub returns-in-Err : goal.returns-in-Err
returns-in-Err c =
    let outcome = invalid (sym c.in-Err.ensures.answer ∙ ap Refused (sym c.number.ensures)) in record {
      marks_value = rw c.of_rule.ensures (outcome_checked _ _ _ outcome);
      verdict_numbered = rw c.of_rule.ensures (verdict_numbered outcome);
      by_index = λ need count e. absurd (cc);
    }
