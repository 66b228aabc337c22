-- `vectors::long_at` meets its contract: past the end of a list both words are 0.
use Prim.Native.Nat.{◌+◌}
use native.Mathlib.Omega.{arith}
use lib.ListN.{get_or-eq_default}
use Rattle.numbers.specs.Words.{word, word_at}
use Rattle.vectors.proofs.long_at.Goals as goal

pub returns-else-at-bytes : goal.returns-else-at-bytes
unfolding word_at word
returns-else-at-bytes c =
    let s = c.args.bytes.now in
    let at = c.args.at in
    rw (
      get_or-eq_default s 0 c.if-at-bytes.false,
      get_or-eq_default s 0 {n = at + 1} (omega arith),
      get_or-eq_default s 0 {n = at + 2} (omega arith),
      get_or-eq_default s 0 {n = at + 2 + 1} (omega arith),
    )
