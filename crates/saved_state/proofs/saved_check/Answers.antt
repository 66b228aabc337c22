-- `saved_state::saved_check` meets its contract.
use Prim.Native.Nat.{◌≤◌}
use mathlib.Core.Path.{ap, ◌∙◌}
use native.Mathlib.Omega.{arith}
use lib.ListN.{length}
use lib.Seq.{length-take-le}
use borrow.Author.Tests.{ne_eqb}
use Rattle.numbers.specs.Checks.{first, differ}
use Rattle.numbers.specs.Folds.{first_in}
use Rattle.numbers.proofs.Checking.{first_pass, differ_pass}
use Rattle.numbers.proofs.Folding.{first_none}
use Rattle.numbers.proofs.Comparing.{same_is}
use Rattle.saved_state.specs.Sls.{step_bytes, saved_check}
use Rattle.saved_state.proofs.Saving.{step_bytes_most}
use Rattle.saved_state.proofs.saved_check.Goals as goal

pub overflow_add-step_bytes : goal.overflow_add-step_bytes
overflow_add-step_bytes c = omega (arith, c.step_bytes.ensures, step_bytes_most c.word_at-version.result)

pub returns-then-bytes-step_bytes : goal.returns-then-bytes-step_bytes
unfolding first_in saved_check differ first
returns-then-bytes-step_bytes c =
    let size = c.step_bytes.ensures ∙ ap step_bytes c.word_at-version.ensures in
    rw (ne_eqb _ _ (rw size at c.if-bytes-step_bytes.true))

pub slice_bounds-same-end : goal.slice_bounds-same-end
slice_bounds-same-end c =
    let long : 3 ≤ length c.args.bytes.now = omega (arith, c.if-bytes-step_bytes.false) in
    simp length-take-le

pub returns : goal.returns
unfolding first_in saved_check
returns c =
    let size = c.step_bytes.ensures ∙ ap step_bytes c.word_at-version.ensures in
    rw (
      c.first.ensures,
      c.unless-2.ensures,
      c.known.ensures,
      c.word_at-version.ensures,
      c.unless.ensures,
      same_is c.same.result _ _ c.same.ensures.0 c.same.ensures.1,
      differ_pass _ _ 34 (rw size at c.if-bytes-step_bytes.false),
      first_pass,
      first_none,
    )
