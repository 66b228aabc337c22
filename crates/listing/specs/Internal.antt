-- What the private functions of the listing ask of each other. No public contract cites it.
use Rattle.std.specs.Prelude.{ℕ, ◌+◌, ◌≡◌, ◌≤◌, List, length}
use Rattle.std.proofs.lemmas.List.Edits.{sets}

-- bytes are written to a buffer from one index on, up to another
pub record Wrote (from : ℕ) (before bytes : List ℕ) (to : ℕ) (after : List ℕ) : Type 0 where
  pub end : to ≡ from + length bytes
  pub room : length after ≡ length before
  pub holds : after ≡ sets before from bytes
  pub within : to ≤ length after
