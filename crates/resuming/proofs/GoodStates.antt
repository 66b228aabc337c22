-- When registers and a memory are good: PC 0 and SP at stack high, or a start below the frames of its callers.
use Prim.Native.Nat.{ℕ, ◌+◌, ◌-◌, ◌<◌, ◌≤◌}
use mathlib.Core.Path.{◌≡◌, refl}
use mathlib.Core.Bool.{Bool, true, false}
use mathlib.Core.List.{List, []}
use native.Mathlib.Omega.{arith}
use lib.Dec.{eqb}
use lib.ListN.{get_or}
use borrow.Author.Tests.{eqb-true, eqb-false}
use Rattle.image.specs.declared.Limits.{Limits}
use Rattle.image.specs.Image.{base_of, count_of, size_of}
use Rattle.image.proofs.Measuring.{end_inside}
use Rattle.code.specs.Code.{Start}
use Rattle.acceptance.specs.Passed.{depth_in}
use Rattle.execution.specs.declared.Registers.{Registers}
use Rattle.gate.specs.History.{Book}
use Rattle.gate.specs.GoodPoint.{GoodPoint, finished, running}
use Rattle.gate.proofs.Frames.{stands_good}
use Rattle.resuming.specs.Good.{point_at, Good}
use Rattle.resuming.specs.Internal.{Tells, Framed, LastBegun}
use Rattle.resuming.proofs.MarkedCode.{MarkedCode}
use Rattle.resuming.proofs.Callers.{inside, routine_is}
use Rattle.resuming.proofs.Walking.{told}

module _ (image : List ℕ) (limits : Limits) (marks : List ℕ) (m : MarkedCode image limits marks) (memory : List ℕ) where
  -- a start, below the frames of its callers
  record AtFrames (regs : Registers) : Type 0 where
    routine : ℕ
    listed : routine < count_of image
    offset : ℕ
    start : Start image routine offset
    here : regs.pc ≡ base_of image + offset
    framed : Framed image limits marks memory routine (regs.sp + depth_in marks offset)

  good_frames : (regs : Registers) → (regs.pc ≡ 0 → ⊥) → (book : Book) → GoodPoint image limits (depth_in marks) (point_at regs memory book) → AtFrames regs
  good_frames regs on book (finished y) = absurd (on y.here)
  good_frames regs on book (running y h) =
      record {
        routine = y.at.routine;
        listed = y.at.listed;
        offset = y.at.offset;
        start = y.at.start;
        here = y.at.here;
        framed = (book.addresses, y.callers, h);
      }

  frames_good : (regs : Registers) → AtFrames regs → Good image limits marks regs memory
  frames_good regs f =
      let book : Book = record { addresses = f.framed.0; returned = false } in
      (book, stands_good image limits (depth_in marks) (point_at regs memory book) f.routine f.offset f.listed f.start f.here refl (f.framed.1, f.framed.2))

  -- PC 0
  end_top : (regs : Registers) → regs.pc ≡ 0 → (book : Book) → GoodPoint image limits (depth_in marks) (point_at regs memory book) →
      regs.sp ≡ limits.stack.high
  end_top regs at_zero book (finished y) = y.top
  end_top regs at_zero book (running y h) = let z : ⊥ = omega (arith, y.at.here, m.code.layout.base) in absurd z

  module _ (regs : Registers) where
    pub end_told : regs.pc ≡ 0 → Tells (eqb regs.sp limits.stack.high) (Good image limits marks regs memory)
    end_told at_zero =
        told (eqb regs.sp limits.stack.high)
        (λ e.
        (record { addresses = []; returned = true }, finished (record { here = at_zero; top = eqb-true _ _ e; empty = refl; returned = refl })))
        (λ e g. eqb-false _ _ e (end_top regs at_zero g.0 g.1))

    module _ (on : regs.pc ≡ 0 → ⊥) where
      -- PC outside the code, or at no start
      pub below_code : regs.pc < base_of image → Good image limits marks regs memory → ⊥
      below_code low g = omega (arith, (good_frames regs on g.0 g.1).here)

      pub past_code : size_of image ≤ regs.pc - base_of image → Good image limits marks regs memory → ⊥
      past_code high g =
          let f = good_frames regs on g.0 g.1 in
          let h = inside image limits (depth_in marks) m.needs m.code f.listed f.start in
          omega (arith, f.here, end_inside image f.routine f.listed)

      pub unmarked : get_or marks (regs.pc - base_of image) 0 ≡ 0 → Good image limits marks regs memory → ⊥
      unmarked none g =
          let f = good_frames regs on g.0 g.1 in
          let here : regs.pc - base_of image ≡ f.offset = omega (arith, f.here) in
          omega (arith, rw here at none, m.starts f.listed f.start)

      -- a start
      module _ (o r : ℕ) (here : regs.pc ≡ base_of image + o) (below : o < size_of image) (marked : 1 ≤ get_or marks o 0)
          (last : LastBegun image (count_of image) o r) where
        good_framed : Good image limits marks regs memory → Framed image limits marks memory r (regs.sp + depth_in marks o)
        good_framed g =
            let f = good_frames regs on g.0 g.1 in
            let same : o ≡ f.offset = omega (arith, f.here) in
            let who : r ≡ f.routine =
            routine_is image limits (depth_in marks) m.needs m.code f.listed f.start (rw same at last) in
            rw (who, same) f.framed

        framed_good : Framed image limits marks memory r (regs.sp + depth_in marks o) → Good image limits marks regs memory
        framed_good h =
            let at = m.exact o below marked in
            let who : r ≡ at.0 = routine_is image limits (depth_in marks) m.needs m.code at.1 at.2 last in
            frames_good regs (record { routine = at.0; listed = at.1; offset = o; start = at.2; here = here; framed = rw who at h })

        pub start_told : (b : Bool) (f : ℕ) → f ≡ regs.sp + depth_in marks o → Tells b (Framed image limits marks memory r f) →
            Tells b (Good image limits marks regs memory)
        start_told true f is h = framed_good (rw is at h)
        start_told false f is h = λ g. (rw is at h) (good_framed g)
