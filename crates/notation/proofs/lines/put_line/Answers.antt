use Rattle.std.proofs.Common.{◌∙◌}
use Rattle.std.proofs.lemmas.List.{drop_all}
use Rattle.notation.proofs.Growing.{appended_none}
use Rattle.notation.proofs.Separating.{next_shown}
use Rattle.notation.proofs.lines.put_line.Goals as goal

pub loop-operand-preserved : goal.loop-operand-preserved
loop-operand-preserved g c = (
  c.spell-end.ensures.within,
  rw (c.spell-end.ensures.written, c.put-end.ensures.written)
      (next_shown g.row.N _ c.loop-operand.separator c.args.operands.now c.loop-operand.operand-index _ c.loop-operand-test.true ∙ c.loop-operand.invariant.1),
)

pub returns : goal.returns
returns g c =
    let loop = c.loop-operand in
    record {
      within = loop.invariant.0;
      written = rw (drop_all loop.operand-index c.args.operands.now c.loop-operand-test.false, appended_none) at loop.invariant.1;
    }
