use Rattle.std.proofs.Common.{◌≡◌, ◌≤◌, take}
use Rattle.notation.specs.Writing.{appended}
use Rattle.notation.proofs.text.put_name.Given as goal

abbrev pub invariant-loop-k : goal.invariant-loop-k
invariant-loop-k g l =
    (l.end ≤ g.row.N) × (take l.end l.cells ≡ appended g.row.N (take l.fn.length l.fn.cells) (take l.k l.letters))
