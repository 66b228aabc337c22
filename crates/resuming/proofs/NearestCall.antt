-- The call before an address stands at the nearest start below it, or nowhere.
use Prim.Native.Nat.{ℕ, ◌+◌, ◌-◌, ◌<◌, ◌≤◌}
use mathlib.Core.Path.{◌≡◌, refl, sym, ap, ◌∙◌}
use mathlib.Core.Bool.{Bool, true, false, cond, false≢true}
use mathlib.Core.Option.{Option, none, some}
use mathlib.Core.Logic.{by_cases}
use mathlib.Core.List.{List}
use native.Mathlib.Decide.{ℕ_discrete, dec_lt}
use native.Mathlib.Omega.{arith}
use lib.Dec.{eqb}
use lib.ListN.{get_or}
use borrow.Author.Tests.{eqb-true, eq-eqb}
use Rattle.std.specs.Prelude.{Ok, Err}
use Rattle.stm8.specs.Decoding.{Decoded}
use Rattle.stm8.specs.Effects.{call_target, effect}
use Rattle.stm8.specs.declared.Instruction.{Instruction}
use Rattle.image.specs.declared.Limits.{Limits}
use Rattle.image.specs.Image.{base_of, count_of, size_of, start_of}
use Rattle.image.proofs.Measuring.{start_zero, end_inside}
use Rattle.acceptance.specs.Passed.{depth_in}
use Rattle.code.specs.Code.{instruction_in, Start, begins}
use Rattle.code.proofs.Starts.{same_found, found_inside, next_start}
use Rattle.resuming.specs.Internal.{calls_to, is_call_to, CallBefore, CallTold, NearestBelow}
use Rattle.resuming.proofs.MarkedCode.{MarkedCode}
use Rattle.resuming.proofs.Callers.{inside, one_place}

-- what the test says where it passes
record IsCall (base o next address : ℕ) (d : Decoded) : Type 0 where
  instruction : Instruction
  size : ℕ
  found : d ≡ Ok (instruction, size)
  ends : o + size ≡ next
  calls : call_target (base + next) (effect instruction).flow ≡ some address

calls_address : (target : Option ℕ) (address : ℕ) → calls_to target address ≡ true → target ≡ some address
calls_address none address e = absurd (false≢true e)
calls_address (some called) address e = ap some (eqb-true called address e)

both_pass : (t : Bool) (r : Bool) → cond t r false ≡ true → (t ≡ true) × (r ≡ true)
both_pass true r e = (refl, e)
both_pass false r e = absurd (false≢true e)

is_call : (base o next address : ℕ) (d : Decoded) → is_call_to base o next address d ≡ true → IsCall base o next address d
is_call base o next address (Ok (i, n)) e =
    let h = both_pass (eqb (o + n) next) (calls_to (call_target (base + next) (effect i).flow) address) e in
    record { instruction = i; size = n; found = refl; ends = eqb-true (o + n) next h.0; calls = calls_address _ address h.1 }
is_call base o next address (Err error) e = absurd (false≢true e)

call_passes : (base o next address : ℕ) (d : Decoded) {i : Instruction} {n : ℕ} → d ≡ Ok (i, n) → o + n ≡ next →
    call_target (base + next) (effect i).flow ≡ some address → is_call_to base o next address d ≡ true
call_passes base o next address d {n = n} found ends calls = rw (found, eq-eqb (o + n) next ends, calls) (eq-eqb address address refl)

module _ (image : List ℕ) (limits : Limits) (marks : List ℕ) (m : MarkedCode image limits marks) (word target : ℕ) where
  -- a call has bytes, and lies in the code
  pub call_low : word ≤ base_of image → (o : ℕ) → CallBefore image word target o → ⊥
  call_low low o b = omega (arith, b.after, found_inside image b.routine o b.found)

  pub call_high : size_of image < word - base_of image → (o : ℕ) → CallBefore image word target o → ⊥
  call_high high o b = omega (arith, b.after, found_inside image b.routine o b.found, end_inside image b.routine b.listed)

  module _ {next o : ℕ} (word-is : word ≡ base_of image + next) (inside-code : next ≤ size_of image) (near : NearestBelow marks next o) where
    -- offset 0 is a start, so what is nearest is marked
    near_marked : 1 ≤ get_or marks o 0
    near_marked =
        by_cases (ℕ_discrete (get_or marks o 0) 0)
        (λ none.
        let begin : Start image 0 (start_of image 0) = begins in
        let first : Start image 0 0 = rw (start_zero image) at begin in
        absurd (omega (arith, rw (near.last none) at none, m.starts m.code.layout.count.0 first)))
        (λ some. omega arith)

    near_start : (r : ℕ) × (r < count_of image) × Start image r o
    near_start = m.exact o (omega (arith, near.below)) near_marked

    -- a call before the address stands there
    stands_there : {p : ℕ} → CallBefore image word target p → p ≡ o
    stands_there {p} b =
        let at = near_start in
        let long = found_inside image b.routine p b.found in
        let after = b.after in
        by_cases (ℕ_discrete p o) (λ e. e)
        (λ ne. by_cases (dec_lt p o)
        (λ lower.
        let here = inside image limits (depth_in marks) m.needs m.code b.listed b.start in
        let there = inside image limits (depth_in marks) m.needs m.code at.1 at.2 in
        let who : at.0 ≡ b.routine =
        one_place image limits (depth_in marks) m.needs m.code at.1 b.listed at.2 b.start (omega arith) (omega (arith, near.below)) in
        absurd (omega (arith, near.below, next_start image b.routine b.start b.found (rw who at at.2) lower)))
        (λ higher. absurd (omega (arith, near.between p (omega arith) (omega arith), m.starts b.listed b.start))))

    found_call : is_call_to (base_of image) o next target (instruction_in image o) ≡ true → CallBefore image word target o
    found_call e =
        let c = is_call (base_of image) o next target (instruction_in image o) e in
        let at = near_start in
        let k = m.code.at at.1 at.2 in
        let same = same_found k.found c.found in
        record {
          routine = at.0;
          listed = at.1;
          start = at.2;
          instruction = c.instruction;
          size = c.size;
          found = rw (same.0, same.1) at k.stands;
          calls = rw c.ends c.calls;
          after = rw c.ends word-is;
        }

    no_call : is_call_to (base_of image) o next target (instruction_in image o) ≡ false → (p : ℕ) → CallBefore image word target p → ⊥
    no_call e p b =
        let here = stands_there b in
        let k = m.code.at b.listed b.start in
        let same = same_found k.stands b.found in
        let ends : p + b.size ≡ next = omega (arith, b.after) in
        let found : instruction_in image p ≡ Ok (b.instruction, b.size) = k.found ∙ sym k.stands ∙ b.found in
        let passes = call_passes (base_of image) p next target (instruction_in image p) found ends (rw ends at b.calls) in
        false≢true (sym e ∙ rw here at passes)

    pub call_told : {b : Bool} → b ≡ is_call_to (base_of image) o next target (instruction_in image o) → CallTold image word target b o
    call_told {b = true} e = found_call (sym e)
    call_told {b = false} e = no_call (sym e)
