-- `decode_pass::decoding::decode_starts` meets its contract. The loop's invariant: the starts below the next offset are decoded and stored.
use Rattle.std.proofs.Common.{ℕ, ◌-◌, ◌≤◌, List}
use Rattle.decode_pass.specs.Pass.{Given, NoStarts}
use Rattle.decode_pass.specs.Internal.{DecodedTo}
use Rattle.decode_pass.proofs.decoding.decode_starts.Given as goal

abbrev pub invariant-loop-at : goal.invariant-loop-at
invariant-loop-at l =
    (l.r.start ≤ l.at) × ((image : List ℕ) → Given image l.code l.begins l.r → NoStarts l.r.start l.initial.cells → DecodedTo image l.r l.cells l.at × (l.at ≤ l.r.end))

abbrev pub decreases-loop-at : goal.decreases-loop-at
decreases-loop-at l = l.r.end - l.at
