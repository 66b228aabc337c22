-- A routine whose cells pass every check passes: its rules hold, its need is measured, its starts are marked and counted.
use Prim.Native.Nat.{ℕ, zero, suc, ◌+◌, ◌-◌, ◌<◌, ◌≤◌}
use mathlib.Core.Path.{◌≡◌, sym, ◌∙◌}
use mathlib.Core.Logic.{◌⊎◌, inl, ⊎_elim, by_cases}
use mathlib.Core.Bool.{Bool}
use mathlib.Core.List.{List}
use native.Mathlib.Decide.{dec_lt}
use native.Mathlib.Nat.{add-zero, add-suc}
use native.Mathlib.Omega.{arith}
use lib.Dec.{ltb}
use lib.ListN.{get_or}
use borrow.Author.Tests.{lt-ltb, le-ltb}
use Rattle.image.specs.declared.Limits.{Limits}
use Rattle.image.specs.Image.{start_of, end_of}
use Rattle.image.proofs.Layouts.{begins_before_end}
use Rattle.code.specs.Code.{Start}
use Rattle.rules.specs.Rules.{count_below}
use Rattle.rules.proofs.Counting.{count_same}
use Rattle.control_flow.specs.Routine as cells
use Rattle.control_flow.specs.Outcome.{Passes, Measured}
use Rattle.acceptance.specs.Passed.{depth_in, marked, RoutinePassed}
use Rattle.acceptance.proofs.DepthFaults.{Explored}
use Rattle.acceptance.proofs.RoutineRules.{mark_held, routine_rules}
use Rattle.acceptance.proofs.RoutineNeed.{need_greatest}

-- counting on from an offset, by a test that the starts pass
count_on : (test : ℕ → Bool) (starts : ℕ → ℕ) (from n : ℕ) → ((o : ℕ) → from ≤ o → o < from + n → test o ≡ ltb 0 (starts o)) →
    count_below test (from + n) ≡ count_below test from + cells.count_from starts from n
unfolding count_below cells.count_from
count_on test starts from zero same = rw (add-zero from) (omega arith)
count_on test starts from (suc n) same =
    rw (add-suc from n, same (from + n) (omega arith) (omega arith))
    (omega (arith, count_on test starts from n (λ o low high. same o low (omega arith))))

module _ {image : List ℕ} {limits : Limits} {r : ℕ} {x : cells.Routine} {bias : ℕ} {held : ℕ → ℕ} (h : Explored image limits r x bias held)
    (passes : Passes x (cells.depth_check x bias held)) {needs given marks : List ℕ} {counted need count : ℕ}
    (m : Measured x needs bias held given marks counted need count)
    (clear : (o : ℕ) → start_of image r ≤ o → get_or given o 0 ≡ 0) (before : counted ≡ count_below (marked given) (start_of image r)) where
  mark_is : {o : ℕ} → Start image r o → (1 ≤ get_or marks o 0) × (depth_in marks o + bias ≡ held o)
  mark_is s = mark_held h passes marks m.starts s

  unchanged : (o : ℕ) → (o < start_of image r) ⊎ (end_of image r ≤ o) → get_or marks o 0 ≡ get_or given o 0
  unchanged o out =
      ⊎_elim
      (λ s. ⊎_elim (λ l. absurd (omega (arith, s.low, h.filled.entry))) (λ l. absurd (omega (arith, s.high, h.filled.end))) out)
      (λ e. e)
      (m.others o)

  exact : (o : ℕ) → start_of image r ≤ o → 1 ≤ get_or marks o 0 → Start image r o
  exact o low some = ⊎_elim (h.filled.start o) (λ e. absurd (omega (arith, clear o low))) (m.others o)

  marked_start : (o : ℕ) → start_of image r ≤ o → o < end_of image r → marked marks o ≡ ltb 0 (x.starts o)
  marked_start o low high =
      by_cases (dec_lt 0 (x.starts o))
      (λ l.
      let s = h.filled.start o (record { low = omega (arith, h.filled.entry); high = omega (arith, h.filled.end); is = l }) in
      lt-ltb _ _ (mark_is s).0 ∙ sym (lt-ltb _ _ l))
      (λ l.
      let none : get_or marks o 0 ≤ 0 =
      by_cases (dec_lt 0 (get_or marks o 0)) (λ k. absurd (l (h.filled.starts o (exact o low k)).is)) (λ k. omega arith) in
      le-ltb _ _ none ∙ sym (le-ltb 0 (x.starts o) (omega arith)))

  counts : count ≡ count_below (marked marks) (end_of image r)
  counts =
      let start = start_of image r in
      let size : start + (end_of image r - start) ≡ end_of image r = omega (arith, begins_before_end image h.layout r h.inside) in
      let same = count_same (marked given) (marked marks) start (λ o l. rw (unchanged o (inl l))) in
      m.number ∙ rw (before, same, h.filled.entry, h.filled.end)
      (sym (count_on (marked marks) x.starts start (end_of image r - start) (λ o low high. marked_start o low (omega arith))) ∙ rw size)

  pub routine_passed : RoutinePassed image limits needs r given marks need count
  routine_passed =
      let rules = routine_rules h passes marks m.starts in
      record {
        size = m.size;
        outside = unchanged;
        rules = rules;
        most =
            need_greatest h.layout h.inside h.filled (depth_in marks) rules needs bias held (λ o s. (mark_is s).1)
            m.attained m.bounds;
        starts = λ s. (mark_is s).0;
        exact = λ o low high some. exact o low some;
        counted = counts;
      }
