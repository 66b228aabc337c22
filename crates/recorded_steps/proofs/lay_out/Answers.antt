-- `recorded_steps::lay_out` puts the cells where the record has them.
use Rattle.std.proofs.Common.{ℕ, List, take, drop, ap, ◌∙◌}
use Rattle.vectors.specs.Bytes.{with_cells}
use Rattle.recorded_steps.specs.Record.{cells_before, cells_after}
use Rattle.recorded_steps.proofs.lay_out.Goals as goal

pub returns-clause-memory_after : goal.returns-clause-memory_after
unfolding cells_before
returns-clause-memory_after c = c.put_cells.ensures

pub returns-clause-expected_after : goal.returns-clause-expected_after
unfolding cells_after
returns-clause-expected_after c =
    c.put_cells-3.ensures ∙ ap (λ (m : List ℕ). with_cells m (take 6 (drop 40 c.args.recorded.now))) c.put_cells-2.ensures
