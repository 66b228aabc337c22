-- `listing::list` meets its contract.
use Prim.Native.Nat.{ℕ}
use mathlib.Core.Path.{sym, ap, ◌∙◌}
use mathlib.Core.List.{List}
use Rattle.acceptance.specs.Check.{checked}
use Rattle.acceptance.proofs.Accepting.{accept_sound}
use Rattle.rules.specs.Verdict.{Verdict}
use Rattle.listing.proofs.Appending.{◌then◌}
use Rattle.listing.proofs.Placing.{listed_short, listed_fits, accepted_listing, refused_listing}
use Rattle.listing.proofs.Sizes.{starts_room, listing_size}
use Rattle.listing.proofs.list.Goals as goal

pub returns-then-buffer-lt-LONGEST-clause-listing : goal.returns-then-buffer-lt-LONGEST-clause-listing
returns-then-buffer-lt-LONGEST-clause-listing c =
    sym (listed_short c.args.image.now c.args.marks.now c.args.buffer.now (checked c.args.image.now c.args.limits c.args.marks.now) c.if-buffer-lt-LONGEST.true)

pub push_starts-requires : goal.push_starts-requires
push_starts-requires c =
    let accepts = ap (λ (o : Verdict × List ℕ). o.0) c.check-verdict.ensures.marks_value ∙ c.in-Ok.is in
    let rules = (accept_sound c.args.image.now c.args.limits c.args.marks.now accepts).0.rules.layout in
    (rules, starts_room _ _ c.check-verdict.result _ _ c.write_verdict-end.ensures c.if-buffer-lt-LONGEST.false rules.code)

pub returns-in-Ok : goal.returns-in-Ok
returns-in-Ok c =
    let image = c.args.image.now in
    let marks = c.args.marks.now in
    let outcome = checked image c.args.limits marks in
    let first = c.write_verdict-end.ensures in
    record {
      listing =
          listed_fits image marks c.args.buffer.now outcome c.if-buffer-lt-LONGEST.false (listing_size image c.args.limits marks) _ _ _
          (rw (accepted_listing image _ outcome c.check-verdict.result c.check-verdict.ensures.marks_value c.in-Ok.is) at (first then c.push_starts.ensures))
          (sym (ap (λ (o : Verdict × List ℕ). o.1) c.check-verdict.ensures.marks_value));
      within = c.push_starts.ensures.within;
    }

pub returns-in-Err : goal.returns-in-Err
returns-in-Err c =
    let image = c.args.image.now in
    let marks = c.args.marks.now in
    let outcome = checked image c.args.limits marks in
    let first = c.write_verdict-end.ensures in
    record {
      listing =
          listed_fits image marks c.args.buffer.now outcome c.if-buffer-lt-LONGEST.false (listing_size image c.args.limits marks) _ _ _
          (rw (refused_listing image _ outcome c.check-verdict.result c.check-verdict.ensures.marks_value c.in-Err.is) at first)
          (sym (ap (λ (o : Verdict × List ℕ). o.1) c.check-verdict.ensures.marks_value));
      within = first.within;
    }
