use Rattle.std.proofs.Common.{◌≡◌, ◌≤◌, take}
use Rattle.notation.specs.Writing.{appended}
use Rattle.notation.proofs.text.put_all.Given as goal

abbrev pub invariant-loop-letter : goal.invariant-loop-letter
invariant-loop-letter g l =
    (l.end ≤ g.row.N) × (take l.end l.cells ≡ appended g.row.N (take l.fn.length l.fn.cells) (take l.letter-index l.letters))
