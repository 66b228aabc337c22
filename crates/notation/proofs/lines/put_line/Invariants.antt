-- What is written, with what is left to write after it, is the line after what was there.
use Rattle.std.proofs.Common.{◌≡◌, ◌≤◌, map, take, drop}
use Rattle.notation.specs.Notation.{line}
use Rattle.notation.specs.Writing.{appended, shown_text}
use Rattle.notation.proofs.Separating.{after}
use Rattle.notation.proofs.lines.put_line.Given as goal

abbrev pub invariant-loop-operand : goal.invariant-loop-operand
invariant-loop-operand g l =
    (l.end ≤ g.row.N) × (appended g.row.N (take l.end l.cells) (after l.separator (map shown_text (drop l.operand-index l.operands))) ≡
    appended g.row.N (take l.fn.length l.fn.cells) (line l.name (map shown_text l.operands)))
