-- `code::versions::lengths_of` meets its contract.
use mathlib.Core.Path.{ap, sym, ◌∙◌}
use mathlib.Core.List.{[]}
use lib.ListN.{get_or, set}
use Rattle.code.proofs.Tables.{lengths_cut, lengths_kept}
use Rattle.code.proofs.versions.lengths_of.Goals as goal

pub returns-then-left_out : goal.returns-then-left_out
returns-then-left_out c =
    ap (λ t. set t 0 (set (get_or t 0 []) 0xAD 0)) c.map_lengths-lengths.ensures ∙
    sym (lengths_cut c.args.version (sym c.left_out.ensures ∙ c.if-left_out.true))

pub returns-else-left_out : goal.returns-else-left_out
returns-else-left_out c =
    c.map_lengths-lengths.ensures ∙ sym (lengths_kept c.args.version (sym c.left_out.ensures ∙ c.if-left_out.false))
