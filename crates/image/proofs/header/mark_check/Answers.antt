-- `image::header::mark_check` meets its contract.
use Rattle.std.proofs.Common.{◌≡◌, ℕ, Bool, List, take, sym, ◌∙◌, eqb, lt-ltb, le-ltb}
use lib.Pointwise.{pointwise, bytes_decides}
use Rattle.numbers.specs.Ascii.{ascii}
use Rattle.numbers.specs.Checks.{first, under, unless}
use Rattle.numbers.specs.Folds.{first_in}
use Rattle.numbers.specs.Lists.{same}
use Rattle.numbers.proofs.Comparing.{same_is}
use Rattle.image.specs.Validation.{mark_check}
use Rattle.image.proofs.header.mark_check.Goals as goal
use Rattle.image.proofs.header.mark_check.Goals.{then-image-lt8-via-then-image-lt8, then-image-lt8-via-else-image-lt8+then-not-starts_with}

begins_with : (image : List ℕ) {b : Bool} → b ≡ pointwise eqb (ascii "SLU") (take 3 image) → b ≡ same (take 3 image) (ascii "SLU")
begins_with image is =
    let decided = bytes_decides (ascii "SLU") (take 3 image) in
    same_is _ _ _ (λ e. sym (decided.0 (sym is ∙ e))) (λ e. is ∙ decided.1 (sym e))

pub returns-then-image-lt8 : goal.returns-then-image-lt8
unfolding mark_check first_in first under unless
returns-then-image-lt8 c =
    elim c.then-image-lt8.branch [
      | then-image-lt8-via-then-image-lt8 w ↦ rw (lt-ltb _ _ w.if-image-lt8.true)
      | then-image-lt8-via-else-image-lt8+then-not-starts_with w ↦
          rw (le-ltb _ _ w.if-image-lt8.false, ← begins_with c.args.image.now w.starts_with.ensures.value, w.if-not-starts_with.true)
    ]

pub returns : goal.returns
unfolding mark_check first_in first under unless
returns c =
    rw (le-ltb _ _ c.if-image-lt8.false, ← begins_with c.args.image.now c.starts_with.ensures.value, c.if-not-starts_with.false)
