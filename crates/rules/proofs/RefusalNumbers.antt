-- The numbers of the code's refusals are 6 to 16. Up to 15 they stand at a start of some routine, 16 at offset 0.
use Prim.Native.Nat.{ℕ, ◌<◌, ◌≤◌}
use mathlib.Core.Path.{◌≡◌, refl}
use mathlib.Core.Bool.{and-eq-true_iff}
use mathlib.Core.List.{List}
use native.Mathlib.Omega.{arith}
use lib.Dec.{leb}
use borrow.Author.Tests.{leb-true}
use Rattle.numbers.proofs.Numbering.{Listed}
use Rattle.image.specs.declared.Limits.{Limits}
use Rattle.image.specs.Image.{count_of}
use Rattle.code.specs.Code.{Start, begins}
use Rattle.rules.specs.Refusal.{outside, cut, off, leaves, inside, unreached, disagree, range, store, call}
use Rattle.rules.specs.Refusal.{Phase, codes, jumps, reach, paths, depths, Fault, RoutineRefusal, Refusal, in_routine, no_room}
use Rattle.rules.proofs.Phases.{first_fault}

pub record FaultAt (image : List ℕ) (r o n : ℕ) : Type 0 where
  pub least : 6 ≤ n
  pub most : n ≤ 15
  pub start : Start image r o

stands : {image : List ℕ} {r o : ℕ} (n : ℕ) → Listed 6 15 n → Start image r o → FaultAt image r o n
stands n listed s =
    let ends = (and-eq-true_iff (leb 6 n) (leb n 15)).0 listed in
    record { least = leb-true _ _ ends.0; most = leb-true _ _ ends.1; start = s }

pub fault_at : {image : List ℕ} (limits : Limits) {r : ℕ} (phase : Phase) (o n : ℕ) → Fault image limits r phase o n → FaultAt image r o n
fault_at limits codes o n (outside s f) = stands 8 refl s
fault_at limits codes o n (cut s f) = stands 9 refl s
fault_at limits codes o n (off s f t past) = stands 15 refl s
fault_at limits jumps o n (leaves s f j out) = stands 13 refl s
fault_at limits jumps o n (inside s f j low high none) = stands 10 refl s
fault_at limits reach o n (unreached s none) = stands 6 refl s
fault_at limits paths o n (disagree d) = stands 7 refl begins
fault_at limits depths o n (range a out) = stands 11 refl a.start
fault_at limits depths o n (store a h d e none) = stands 12 refl a.start
fault_at limits depths o n (call a h d e ok c none) = stands 14 refl a.start

module _ {image : List ℕ} {limits : Limits} where
  pub routine_refusal_at : {r n o : ℕ} → RoutineRefusal image limits r n o → FaultAt image r o n
  routine_refusal_at {n = n} {o} x = let f = first_fault x in fault_at limits f.0 o n f.1

  pub refusal_number : {n o : ℕ} → Refusal image limits n o → (6 ≤ n) × (n ≤ 16) × (n ≡ 16 → o ≡ 0)
  refusal_number (in_routine below none x) =
      let f = routine_refusal_at x in
      (f.least, omega (arith, f.most), λ e. absurd (omega (arith, f.most)))
  refusal_number (no_room rules needs short) = (omega arith, omega arith, λ e. refl)

  pub refusal_inside : {n o : ℕ} → Refusal image limits n o → n ≤ 15 → (r : ℕ) × (r < count_of image) × Start image r o
  refusal_inside (in_routine {r = r} below none x) most = (r, below, (routine_refusal_at x).start)
  refusal_inside (no_room rules needs short) most = absurd (omega arith)
