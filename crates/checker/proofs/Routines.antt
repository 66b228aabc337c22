-- The routines of a valid image, one after the other.
use Prim.Native.Nat.{ℕ, zero, suc, ◌+◌, ◌-◌, ◌<◌, ◌≤◌}
use mathlib.Core.Path.{◌≡◌, refl, sym, ap, ◌∙◌, subst}
use mathlib.Core.Logic.{⊎_elim}
use mathlib.Core.Bool.{Bool, true, false}
use mathlib.Core.List.{List}
use native.Mathlib.Omega.{arith}
use lib.ListN.{length, get_or, take, drop, set, replicate, length-replicate}
use Rattle.numbers.specs.Bits.{flag}
use Rattle.image.specs.Image.{count_of, code_at, size_of, start_of, end_of, main_of}
use Rattle.image.specs.Lengths.{Begins}
use Rattle.image.specs.Validation.{validated}
use Rattle.image.specs.declared.Limits.{Limits}
use Rattle.image.specs.declared.Layout.{Layout}
use Rattle.image.specs.Validated.{Valid}
use Rattle.image.proofs.Layouts.{valid_bounds, version_is, base_is, count_is, size_is}
use Rattle.image.proofs.Measuring.{start_zero, start_next, start_inside, end_inside}
use Rattle.image.proofs.Validity.{valid_rules}
use Rattle.code.specs.Code.{Start}
use Rattle.code.proofs.Parts.{code_cut}
use Rattle.rules.specs.Rules.{count_below}
use Rattle.rules.proofs.RefusalNumbers.{routine_refusal_at}
use Rattle.control_flow.specs.Graph.{column}
use Rattle.control_flow.specs.Routine as cells
use Rattle.control_flow.specs.Outcome.{Checkable, Left}
use Rattle.acceptance.specs.Cells.{Filled}
use Rattle.acceptance.specs.Passed.{marked, RoutineChecked, RoutinesPassed}
use Rattle.acceptance.proofs.Graphs.{decoded}
use Rattle.acceptance.proofs.OneRoutine.{code_refused, checked_refused, checked_passed}
use Rattle.acceptance.proofs.AllRoutines.{zeros_at, none_yet, one_more}
use Rattle.acceptance.proofs.NeedBounds.{need_bound, no_needs, needs_bound}
use Rattle.decode_pass.specs.Pass.{RoutineOf, Given, NoStarts, cells_of, RoutineDecoded, refused, filled}
use Rattle.decode_pass.specs.declared.Routine.{Routine}
use Rattle.decode_pass.proofs.DecodePass.{fault_some, start_below}
use Rattle.checker.specs.Internal.{Clean, NeedsBelow, Swept, ended, stopped, Small}
use Rattle.checker.specs.declared.sweep.Sweep.{Sweep}
use Rattle.checker.specs.declared.sweep.Workspace.{Workspace}
use Rattle.control_flow.specs.declared.Refusal.{Refusal}
use Rattle.std.specs.Prelude.{Ok, Err}

-- a routine with the code cut out of its image
pub code_given : {image begins : List ℕ} {r : Routine} {at : ℕ} → at ≡ code_at image → RoutineOf image r → Begins image begins r.index →
    Given image (take (length image - at) (drop at image)) begins r
code_given {image} {at = at} own routine earlier = record { routine = routine; own = code_cut image at own; earlier = earlier }

flag_most : (b : Bool) → flag b ≤ 1
flag_most true = omega arith
flag_most false = omega arith

-- no more numbers than there are pass a test
pub count_most : (test : ℕ → Bool) (n : ℕ) → count_below test n ≤ n
unfolding count_below
count_most test zero = omega arith
count_most test (suc n) = omega (arith, count_most test n, flag_most (test n))

-- a routine of a valid image ends where the next one begins, and the last one with the code
module _ (image : List ℕ) (limits : Limits) (layout : Layout) (index : ℕ) (valid : validated image limits ≡ Valid layout) where
  pub next_begins : (begins : List ℕ) → Begins image begins layout.count → index + 1 < layout.count → get_or begins (index + 1) 0 ≡ end_of image index
  next_begins begins told more = told (index + 1) more ∙ start_next image index (omega (arith, count_is image limits layout valid))

  pub last_ends : index < layout.count → layout.count ≤ index + 1 → layout.size ≡ end_of image index
  unfolding main_of
  last_ends below last =
      let main : count_of image - 1 ≡ index = omega (arith, count_is image limits layout valid) in
      sym (valid_bounds image limits layout valid).main ∙ ap (end_of image) main

-- the next routine of a valid image
pub routine_of : {image : List ℕ} {limits : Limits} {layout : Layout} {index start end : ℕ} → validated image limits ≡ Valid layout →
    index < layout.count → start ≡ start_of image index → end ≡ end_of image index →
    RoutineOf image (record { index = index; start = start; end = end; version = layout.version; base = layout.base; limits = limits })
routine_of {image} {limits} {layout} {index} valid below start_is end_is =
    let b = valid_bounds image limits layout valid in
    let rules = (valid_rules image limits layout valid).1 in
    record {
      layout = rules;
      inside = omega (arith, count_is image limits layout valid);
      version_is = version_is image limits layout valid;
      base_is = base_is image limits layout valid;
      start_is = start_is;
      end_is = end_is;
      index = omega (arith, b.count.1);
      some = omega (arith, b.begins index below);
      size = omega (arith, b.ends index below, b.size.1);
    }

-- a routine after the decode pass
module _ {image : List ℕ} {r : Routine} {rows : List (List ℕ)} where
  pub decode_refused : {number at need count : ℕ} {needs given marks : List ℕ} → 1 ≤ number → RoutineDecoded image r rows number at →
      RoutineChecked image r.limits needs r.index given number at marks need count
  decode_refused some (refused l) = code_refused l
  decode_refused some (filled f rest) = absurd (omega arith)

  pub decode_filled : {number at : ℕ} → RoutineDecoded image r rows number at → number ≡ 0 →
      Filled image r.limits r.index (cells_of r rows) × NoStarts r.end rows
  decode_filled (refused l) none = absurd (omega (arith, fault_some l.fault))
  decode_filled (filled f rest) none = (f, rest)

-- what it is checked with, before and after
module _ {image : List ℕ} {r : Routine} (routine : RoutineOf image r) {work : Workspace} (clean : Clean r.start work) {x : cells.Routine}
    (f : Filled image r.limits r.index x) where
  pub checkable : Checkable x work.trail.depths work.trail.stack
  checkable =
      record {
        decoded = decoded f routine.layout routine.inside;
        cells = clean.depths_cells;
        slots = clean.slots;
        clear = λ o s. clean.no_depths o (omega (arith, s.low, f.entry, routine.start_is));
      }

  pub clean_after : {after : Workspace} → NoStarts r.end after.cells → Left x work.trail.depths after.trail.depths after.trail.stack →
      Clean r.end after
  clean_after rest left =
      record {
        no_starts = rest;
        depths_cells = left.cells;
        slots = left.slots;
        no_depths = λ o past.
            ⊎_elim (λ s. absurd (omega (arith, s.high, f.end, routine.end_is))) (λ e. e ∙ clean.no_depths o (omega (arith, routine.some)))
            (left.others o);
      }

-- what the flow's check asks of the marks and of the count
module _ {image : List ℕ} {r : Routine} (routine : RoutineOf image r) {needs marks : List ℕ} {counted : ℕ}
    (passed : RoutinesPassed image r.limits r.index needs marks counted) where
  pub enough_marks : r.end ≤ length marks
  enough_marks = omega (arith, routine.end_is, passed.size, end_inside image r.index routine.inside)

  pub few_starts : counted ≤ r.start
  few_starts = omega (arith, routine.start_is, passed.counted, count_most (marked marks) (start_of image r.index))

-- the state between routines, where the next one is that at an index and begins at an offset
pub record Between (image : List ℕ) (limits : Limits) (marks : List ℕ) (s : Sweep) (index start : ℕ) : Type 0 where
  pub start_is : start ≡ start_of image index
  pub passed : RoutinesPassed image limits index s.needs marks s.count
  pub needs : NeedsBelow s.needs index

-- no routine yet
pub between_none : {image : List ℕ} {limits : Limits} {marks : List ℕ} → marks ≡ replicate (size_of image) 0 →
    Between image limits marks (record { count = 0; needs = replicate 32 0 }) 0 0
between_none {image} {limits} clear =
    record { start_is = sym (start_zero image); passed = rw clear (none_yet image limits); needs = no_needs }

blank_row : (n o : ℕ) → column 0 (replicate n (replicate {A = ℕ} 7 0)) o ≡ 0
blank_row zero o = refl
blank_row (suc n) zero = refl
blank_row (suc n) (suc o) = blank_row n o

pub zeros_clean : (from : ℕ) → Clean from (record {
  cells = replicate 4096 (replicate {A = ℕ} 7 0);
  trail = record { depths = replicate 4096 0; stack = replicate 4096 0 };
})
zeros_clean from =
    record {
      no_starts = record { size = length-replicate 4096 (replicate {A = ℕ} 7 0); clear = λ o past. blank_row 4096 o };
      depths_cells = length-replicate {A = ℕ} 4096 0;
      slots = length-replicate {A = ℕ} 4096 0;
      no_depths = λ o past. zeros_at 4096 o;
    }

module _ {image : List ℕ} {limits : Limits} {layout : Layout} (valid : validated image limits ≡ Valid layout) {marks : List ℕ} {s : Sweep}
    {index start : ℕ} (between : Between image limits marks s index start) where
  -- all routines pass
  pub swept_ended : index ≡ layout.count → Swept image limits marks (Ok s) × Small (Ok s)
  swept_ended all =
      let b = valid_bounds image limits layout valid in
      let every : index ≡ count_of image = omega (arith, count_is image limits layout valid) in
      let inside : start_of image index ≤ 4096 = omega (arith, start_inside image index, size_is image limits layout valid, b.size.1) in (
        ended (subst (λ (k : ℕ). RoutinesPassed image limits k s.needs marks s.count) every between.passed),
        (
          omega (arith, between.passed.counted, count_most (marked marks) (start_of image index)),
          λ k. omega (arith, between.needs k, b.count.1),
        ),
      )

  -- the next routine
  module _ {r : Routine} (routine : RoutineOf image r) (is : (r.index ≡ index) × (r.start ≡ start) × (r.limits ≡ limits)) where
    pub routine_ready : RoutinesPassed image r.limits r.index s.needs marks s.count
    routine_ready = rw (is.0, is.2) between.passed

    pub swept_stopped : (refusal : Refusal) {marks' : List ℕ} {need count : ℕ} →
        RoutineChecked image r.limits s.needs r.index marks refusal.number refusal.at marks' need count →
        Swept image limits marks' (Err refusal) × Small (Err refusal)
    swept_stopped refusal x =
        let refused = checked_refused x (λ none. absurd (omega (arith, refusal.some))) in
        let low = start_below routine (routine_refusal_at refused).start in (
          stopped {given = marks} (omega (arith, is.0, routine.inside)) between.passed (rw (← is.0, ← is.2) refused),
          omega (arith, low, routine.size),
        )

    module _ {marks' : List ℕ} {at need count : ℕ} (x : RoutineChecked image r.limits s.needs r.index marks 0 at marks' need count) where
      here : RoutineChecked image limits s.needs index marks 0 at marks' need count
      here = rw (← is.0, ← is.2) x

      pub need_fits : need ≤ 65535
      need_fits = omega (arith, need_bound (checked_passed here refl) (λ k below. between.needs k), is.0, routine.index)

      pub between_more : Between image limits marks' (record { count = count; needs = set s.needs index need }) (index + 1) r.end
      between_more =
          let passed = checked_passed here refl in
          let inside : index < count_of image = omega (arith, is.0, routine.inside) in
          record {
            start_is = routine.end_is ∙ ap (end_of image) is.0 ∙ sym (start_next image index inside);
            passed = one_more routine.layout inside between.passed passed;
            needs = needs_bound passed between.needs;
          }
