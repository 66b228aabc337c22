-- `hexadecimal::parse` meets its contract: at each turn the bytes so far, and those that the rest spells, are the whole.
use Prim.Native.Nat.{◌≤◌, ◌-◌}
use mathlib.Core.Path.{◌≡◌}
use lib.ListN.{length, take, drop}
use Rattle.hexadecimal.specs.Text.{spelled}
use Rattle.hexadecimal.proofs.Spelling.{Whole}
use Rattle.hexadecimal.proofs.parse.Given as goal

abbrev pub invariant-loop-i : goal.invariant-loop-i
invariant-loop-i l =
    (l.n ≤ length l.bytes) × (l.i ≤ length l.text) × (length l.bytes ≡ length l.initial.bytes) ×
    Whole l.text l.bytes (take (length l.initial.bytes) (spelled l.text)) (length l.initial.bytes) l.n l.i × (drop l.n l.bytes ≡ drop l.n l.initial.bytes)

abbrev pub decreases-loop-i : goal.decreases-loop-i
decreases-loop-i l = length l.text - l.i
