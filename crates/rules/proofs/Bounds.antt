-- What acceptance tells: needs cover every depth and every call, stores stay where they may, the stack area has room, and marks and count tell the
-- starts.
use Prim.Native.Nat.{ℕ, ◌+◌, ◌<◌, ◌≤◌}
use mathlib.Core.Path.{◌≡◌}
use mathlib.Core.Option.{some}
use mathlib.Core.Logic.{◌↔◌, ⊎_elim}
use mathlib.Core.List.{List}
use native.Mathlib.Omega.{arith}
use lib.ListN.{get_or}
use Rattle.std.specs.Prelude.{Ok}
use Rattle.stm8.specs.Effects.{bytes_wide, call_target, effect}
use Rattle.stm8.specs.declared.Instruction.{Instruction}
use Rattle.stm8.specs.declared.Width.{Width}
use Rattle.stm8.specs.declared.Place.TheVariants.{Direct, OnStack}
use Rattle.image.specs.declared.Limits.{Limits}
use Rattle.image.specs.Image.{base_of, count_of, size_of, start_of}
use Rattle.image.specs.Access.{Granted}
use Rattle.image.specs.Rules.{ImageRules}
use Rattle.image.proofs.Granting.{granted_byte}
use Rattle.image.proofs.Layouts.{begins_before_end}
use Rattle.image.proofs.Measuring.{end_inside}
use Rattle.code.specs.Depth.{after}
use Rattle.code.specs.Code.{instruction_at, Start, begins}
use Rattle.rules.specs.Paths.{Callee}
use Rattle.rules.specs.Rules.{StoreRules, InstructionUse, before, behind, calling, Use, Greatest, StartCount}
use Rattle.rules.specs.Acceptance.{Acceptable, AcceptedMarks}
use Rattle.rules.proofs.Counting.{count_some}

-- a routine's need covers the depths before and after each of its instructions, and at a call the return address and the callee's need too
module _ {image : List ℕ} {depth need : ℕ → ℕ} {r most : ℕ} (g : Greatest (Use image depth need r) most)
    {o n : ℕ} {i : Instruction} (s : Start image r o) (f : instruction_at image r o ≡ Ok (i, n)) where
  pub need_covers : {v : ℕ} → InstructionUse image need r (base_of image + (o + n)) (depth o) (effect i) v → v ≤ most
  need_covers u = g.bounds (record { offset = o; instruction = i; size = n; start = s; found = f; used = u })

  pub need_before : depth o ≤ most
  need_before = need_covers before

  pub need_after : after (effect i) (depth o) ≤ most
  need_after = need_covers behind

  pub need_call : {address callee : ℕ} → call_target (base_of image + (o + n)) (effect i).flow ≡ some address → Callee image r address callee →
      depth o + 2 + need callee ≤ most
  need_call c to = need_covers (calling c to)

-- each byte of a store is granted, or of the routine's own
module _ (limits : Limits) (depth : ℕ) (w : Width) where
  pub direct_granted : (address : ℕ) → StoreRules limits depth (Direct address w) → (k : ℕ) → k < bytes_wide w → Granted limits (address + k)
  direct_granted address h = granted_byte limits address (bytes_wide w) h

  pub stack_own : (f : ℕ) → StoreRules limits depth (OnStack f w) → (k : ℕ) → k < bytes_wide w → (1 ≤ f + k) × (f + k ≤ depth)
  stack_own f h k below = (omega (arith, h.0), omega (arith, h.1))

-- the reported need has main's return address, and it fits
pub acceptable_room : {image : List ℕ} {limits : Limits} {marks : List ℕ} {need count : ℕ} → Acceptable image limits marks need count →
    (2 ≤ need) × (limits.stack.low + need ≤ limits.stack.high + 1)
acceptable_room h = (omega (arith, h.reported), omega (arith, h.reported, h.rules.room))

-- a code byte is a start exactly where its mark is not 0
pub marks_tell : {image : List ℕ} {depth : ℕ → ℕ} {marks : List ℕ} → AcceptedMarks image depth marks → (o : ℕ) → o < size_of image →
    (1 ≤ get_or marks o 0) ↔ ((r : ℕ) × (r < count_of image) × Start image r o)
marks_tell m o below = (
  λ some. ⊎_elim (λ z. absurd (omega arith)) (λ s. s) (m.others o below),
  λ s. omega (arith, m.starts s.0 o s.1 s.2),
)

-- a routine has a start, so the count is not 0
pub some_counted : {image : List ℕ} {count : ℕ} → ImageRules image → StartCount image count → 1 ≤ count
some_counted {image} layout c =
    let some : 0 < count_of image = layout.count.0 in
    let below : start_of image 0 < size_of image = omega (arith, begins_before_end image layout 0 some, end_inside image 0 some) in
    let here = (c.exact (start_of image 0) below).1 (0, some, begins) in
    omega (arith, c.counts, count_some c.is_start (size_of image) (start_of image 0) below here)
