use Rattle.std.proofs.Common.{[], ◌∷◌}
use Rattle.notation.proofs.Separating.{with_another}
use Rattle.notation.proofs.text.Text.push_with_three.Goals as goal

pub returns : goal.returns
returns g c = rw (c.put_another-self-inside.ensures.written, c.put_another-end.ensures.written, c.put_with_one-end.ensures.written, with_another, ← c.self.view_is) (with_another g.row.N _ c.args.name.now _ (_ ∷ []) _)
