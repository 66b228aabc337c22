-- `listing::list_input` meets its contract.
use Prim.Native.Nat.{ℕ}
use mathlib.Core.Path.{refl, sym, ap, ◌∙◌}
use mathlib.Core.List.{List}
use native.Mathlib.Omega.{arith}
use Rattle.rules.specs.Verdict.{Verdict}
use Rattle.listing.specs.Listing.{image_in, checked_input}
use Rattle.listing.proofs.Placing.{listed_short, listed_fits, refused_listing, input_short, input_listed}
use Rattle.listing.proofs.Sizes.{input_listing_size}
use Rattle.listing.proofs.list_input.Goals as goal

pub returns-then-buffer-lt-LONGEST-clause-listing : goal.returns-then-buffer-lt-LONGEST-clause-listing
returns-then-buffer-lt-LONGEST-clause-listing c =
    sym (listed_short (image_in c.args.input.now) c.args.marks.now c.args.buffer.now (checked_input c.args.input.now c.args.marks.now) c.if-buffer-lt-LONGEST.true)

pub returns-then-input-lt12 : goal.returns-then-input-lt12
returns-then-input-lt12 c =
    let input = c.args.input.now in
    let marks = c.args.marks.now in
    let refused = input_short input marks (omega (arith, c.if-input-lt12.true)) in
    let first = rw c.of_rule.ensures at c.write_verdict.ensures in
    record {
      listing =
          listed_fits (image_in input) marks c.args.buffer.now (checked_input input marks) c.if-buffer-lt-LONGEST.false (input_listing_size input marks) _ _ _
          (rw (refused_listing (image_in input) marks (checked_input input marks) _ refused refl) at first)
          (sym (ap (λ (o : Verdict × List ℕ). o.1) refused));
      within = first.within;
    }

pub returns-clause-listing : goal.returns-clause-listing
returns-clause-listing c =
    c.list.ensures.listing ∙ input_listed c.args.input.now c.args.marks.now c.args.buffer.now _ c.if-input-lt12.false c.limits_of.ensures
