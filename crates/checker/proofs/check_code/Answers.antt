-- `checker::check_code` meets its contract.
use Rattle.std.proofs.Common.{rules}
use mathlib.Core.Path.{◌≡◌, ap, ◌∙◌}
use lib.ListN.{length, replicate, length-replicate}
use Rattle.image.proofs.Layouts.{valid_bounds, size_is}
use Rattle.checker.proofs.Verdicts.{code_outcome}
use Rattle.checker.proofs.check_code.Goals as goal
use Rattle.checker.proofs.check_code.Goals.{After-fill}

cleared : (c : After-fill) → c.fill.new.self ≡ replicate (length c.args.marks.now) 0
cleared c = c.fill.ensures.after (λ y e. search rules)

pub sweep_routines-swept-requires : goal.sweep_routines-swept-requires
sweep_routines-swept-requires c =
    cleared (goal.at.sweep_routines-swept-requires c).After-fill ∙ ap (λ n. replicate n 0) (c.requires ∙ size_is _ _ _ c.args.valid.valid)

pub verdict_of-v-requires : goal.verdict_of-v-requires
verdict_of-v-requires c =
    let bounds = valid_bounds _ _ _ c.args.valid.valid in
    (bounds.count.0, bounds.count.1, c.sweep_routines-swept.ensures.small)

pub returns : goal.returns
returns c =
    let size = c.sweep_routines-swept.auto.marks ∙ ap length (cleared (goal.at.returns c).After-fill) ∙ length-replicate _ 0 ∙ c.requires ∙ size_is _ _ _ c.args.valid.valid in
    code_outcome c.args.valid.valid _ size c.sweep_routines-swept.ensures.swept c.verdict_of-v.ensures c.clear_refused.ensures
