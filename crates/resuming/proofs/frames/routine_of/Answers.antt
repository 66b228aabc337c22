-- `resuming::frames::routine_of` meets its contract. The loop's invariant: all routines after this one begin past the offset.
use Prim.Native.Nat.{ℕ, ◌<◌, ◌≤◌}
use mathlib.Core.Path.{◌≡◌, ◌∙◌}
use mathlib.Core.Bool.{cond}
use mathlib.Core.Logic.{by_cases}
use mathlib.Core.List.{List}
use native.Mathlib.Decide.{ℕ_discrete}
use native.Mathlib.Omega.{arith}
use borrow.Author.Tests.{lt-ltb}
use lib.Dec.{ltb}
use lib.ListN.{get_or}
use Rattle.image.specs.Image.{start_of}
use Rattle.image.specs.Lengths.{Begins}
use Rattle.image.proofs.Measuring.{start_zero}
use Rattle.resuming.proofs.frames.routine_of.Goals as goal

begin_is : (image begins : List ℕ) (count k : ℕ) {x : ℕ} → x ≡ cond (ltb k 32) (get_or begins k 0) 0 → Begins image begins count → k < count → count ≤ 32 →
    x ≡ start_of image k
begin_is image begins count k is at below few = rw (lt-ltb k 32 (omega arith)) at is ∙ at k below

pub overflow_sub-r : goal.overflow_sub-r
overflow_sub-r c = omega (arith, c.requires.0)

pub loop-r-init : goal.loop-r-init
loop-r-init c = (omega arith, λ image begins j above below. absurd (omega arith))

pub returns-then-begin_at-o : goal.returns-then-begin_at-o
returns-then-begin_at-o c = record {
  upper_bound = c.loop-r.invariant.0;
  by_index = λ image begins.
      let is = begin_is image c.args.begins.now _ c.loop-r.r c.begin_at.ensures begins c.loop-r.invariant.0 c.requires.1 in
      record { listed = c.loop-r.invariant.0; begun = omega (arith, c.if-begin_at-o.true); later = c.loop-r.invariant.1 image begins };
}

pub overflow_sub-r-in-loop-r : goal.overflow_sub-r-in-loop-r
overflow_sub-r-in-loop-r c = omega (arith, c.loop-r-test.true)

pub loop-r-smaller : goal.loop-r-smaller
loop-r-smaller c = omega (arith, c.loop-r-test.true)

pub loop-r-preserved : goal.loop-r-preserved
loop-r-preserved c = (
  omega (arith, c.loop-r.invariant.0),
  λ image begins j above below.
      let is = begin_is image c.args.begins.now _ c.loop-r.r c.begin_at.ensures begins c.loop-r.invariant.0 c.requires.1 in
      by_cases (ℕ_discrete j c.loop-r.r) (λ e. rw e (omega (arith, c.if-begin_at-o.false))) (λ other. c.loop-r.invariant.1 image begins j (omega arith) below),
)

pub returns : goal.returns
returns c = record {
  upper_bound = c.loop-r.invariant.0;
  by_index = λ image begins.
      let none : c.loop-r.r ≡ 0 = omega (arith, c.loop-r-test.false) in
      record { listed = c.loop-r.invariant.0; begun = rw (none, start_zero image) (omega arith); later = c.loop-r.invariant.1 image begins };
}
