-- `flow_check::jumps::check_jump` meets its contract.
use Rattle.std.proofs.Common.{refl, arith, ⊎_elim}
use Rattle.control_flow.specs.Graph.{column}
use Rattle.flow_check.proofs.Rows.{row_read, no_jump, jump_strays, jump_misses, jump_lands}
use Rattle.flow_check.proofs.jumps.check_jump.Goals as goal

pub returns-then-row-eq0-clause-passes : goal.returns-then-row-eq0-clause-passes
returns-then-row-eq0-clause-passes c =
    let row = row_read _ _ c.index-cells-at.is c.row.view_is c.told-cells c.requires in
    rw row (λ start. ⊎_elim (λ none. no_jump _ _ none) (λ none. absurd (omega arith)) c.then-row-eq0.either)

pub returns-then-row-gt4096-clause-fails : goal.returns-then-row-gt4096-clause-fails
returns-then-row-gt4096-clause-fails c =
    let row = row_read _ _ c.index-cells-at.is c.row.view_is c.told-cells c.requires in
    rw row (refl, omega arith, jump_strays _ _ c.if-row-eq0.false c.if-row-gt4096.true)

pub returns-then-target-eq0-clause-fails : goal.returns-then-target-eq0-clause-fails
returns-then-target-eq0-clause-fails c =
    let row = row_read _ _ c.index-cells-at.is c.row.view_is c.told-cells c.requires in
    let target = row_read _ _ c.index-cells-row.is c.target.view_is c.told-cells (omega arith) in
    rw row (refl, omega arith, jump_misses (column 0 c.args.cells.now) _ c.if-row-eq0.false c.if-row-gt4096.false (rw target c.if-target-eq0.true))

pub returns-clause-passes : goal.returns-clause-passes
returns-clause-passes c =
    let row = row_read _ _ c.index-cells-at.is c.row.view_is c.told-cells c.requires in
    let target = row_read _ _ c.index-cells-row.is c.target.view_is c.told-cells (omega arith) in
    rw row (λ start. jump_lands (column 0 c.args.cells.now) _ c.if-row-eq0.false c.if-row-gt4096.false (rw target c.if-target-eq0.false))
