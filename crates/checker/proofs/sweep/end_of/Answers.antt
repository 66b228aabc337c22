-- `checker::sweep::end_of` meets its contract.
use Prim.Native.Nat.{◌+◌}
use native.Mathlib.Omega.{arith}
use borrow.Author.Tests.{lt-ltb}
use Rattle.image.proofs.Layouts.{valid_bounds}
use Rattle.checker.proofs.Routines.{next_begins, last_ends}
use Rattle.checker.proofs.sweep.end_of.Goals as goal
use Rattle.checker.proofs.sweep.end_of.Goals.{else-index-lt31-via-then-index-lt31+else-index-layout, else-index-lt31-via-else-index-lt31}

pub returns-then-index-layout : goal.returns-then-index-layout
returns-then-index-layout c image limits valid told below =
    rw (c.begin_at.ensures, lt-ltb (c.args.index + 1) 32 (omega (arith, c.if-index-layout.true, (valid_bounds image limits _ valid).count.1)))
    (next_begins image limits c.args.layout c.args.index valid c.args.begins.now told c.if-index-layout.true)

pub returns-else-index-lt31 : goal.returns-else-index-lt31
returns-else-index-lt31 c image limits valid told below =
    last_ends image limits _ _ valid below
    (elim c.else-index-lt31.branch [
      | else-index-lt31-via-then-index-lt31+else-index-layout w ↦ omega (arith, w.if-index-layout.false)
      | else-index-lt31-via-else-index-lt31 w ↦ omega (arith, w.if-index-lt31.false, (valid_bounds image limits _ valid).count.1)
    ])
