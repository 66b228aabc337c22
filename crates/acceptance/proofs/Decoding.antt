-- 8, 9 and 15 over the list of starts: the lowest fault, or cells that say what the instructions say.
use Prim.Native.Nat.{ℕ, ◌+◌, ◌<◌, ◌≤◌}
use mathlib.Core.Path.{◌≡◌, refl, ap, ◌∙◌}
use mathlib.Core.Bool.{Bool, true, false, cond}
use mathlib.Core.List.{List}
use native.Mathlib.Omega.{arith}
use lib.Dec.{ltb}
use borrow.Author.Tests.{ltb-true, ltb-false}
use Rattle.std.specs.Prelude.{Ok, Err}
use Rattle.numbers.specs.Bits.{flag}
use Rattle.numbers.specs.Checks.{unless}
use Rattle.stm8.specs.Decoding.{Decoded}
use Rattle.stm8.specs.Effects.{effect}
use Rattle.stm8.specs.declared.Instruction.{Instruction}
use Rattle.stm8.specs.declared.DecodeError.TheVariants.{Outside, Truncated}
use Rattle.image.specs.declared.Limits.{Limits}
use Rattle.image.specs.Image.{base_of, start_of, end_of}
use Rattle.code.specs.Depth.{popped, pushed, falls}
use Rattle.code.specs.Code.{instruction_at, Start}
use Rattle.rules.specs.Refusal.{CodeFault, outside, cut, off, Lowest}
use Rattle.code.proofs.Starts.{same_found, start_low, start_high}
use Rattle.acceptance.specs.Cells.{fall_cell, jump_cell, store_cell, call_cell, Stored, Filled}
use Rattle.acceptance.specs.Starts.{code_number, cell_at, cells_of}
use Rattle.acceptance.specs.Check.{first_at}
use Rattle.acceptance.proofs.Offsets.{listed_in, in_listed, first_none, first_found}
use Rattle.code.specs.Instructions.{starts_of}
use Rattle.code.proofs.StartList.{starts_rise, listed_start, start_listed}

-- a start at which 8, 9 and 15 pass
pub record Decodes (image : List ℕ) (r o : ℕ) : Type 0 where
  pub instruction : Instruction
  pub size : ℕ
  pub found : instruction_at image r o ≡ Ok (instruction, size)
  pub inside : falls (effect instruction).flow ≡ true → o + size < end_of image r

falls_inside : (b below : Bool) → cond b (unless below 15) 0 ≡ 0 → b ≡ true → below ≡ true
unfolding unless
falls_inside true true e t = refl
falls_inside true false e t = absurd (omega arith)
falls_inside false below e t = let z : ◌≡◌ {A = ℕ} 0 1 = cc in absurd (omega arith)

falls_past : (b below : Bool) → (cond b (unless below 15) 0 ≡ 0 → ⊥) → (b ≡ true) × (below ≡ false) × (cond b (unless below 15) 0 ≡ 15)
unfolding unless
falls_past true true some = absurd (some refl)
falls_past true false some = (refl, refl, refl)
falls_past false below some = absurd (some refl)

module _ (image : List ℕ) (r : ℕ) where
  abbrev pub code_check : ℕ → ℕ
  code_check o = code_number (end_of image r) o (instruction_at image r o)

  decodes_as : (o : ℕ) (d : Decoded) → instruction_at image r o ≡ d → code_number (end_of image r) o d ≡ 0 → Decodes image r o
  decodes_as o (Ok (i, n)) f e =
      record {
        instruction = i;
        size = n;
        found = f;
        inside = λ t. ltb-true _ _ (falls_inside (falls (effect i).flow) (ltb (o + n) (end_of image r)) e t);
      }
  decodes_as o (Err Outside) f e = absurd (omega arith)
  decodes_as o (Err Truncated) f e = absurd (omega arith)

  decodes : (o : ℕ) → code_check o ≡ 0 → Decodes image r o
  decodes o e = decodes_as o (instruction_at image r o) refl e

  -- a fault has the number of the check, and only where the check fails
  fault_as : (o : ℕ) (d : Decoded) → instruction_at image r o ≡ d → Start image r o → (code_number (end_of image r) o d ≡ 0 → ⊥) →
      CodeFault image r o (code_number (end_of image r) o d)
  fault_as o (Ok (i, n)) f s some =
      let p = falls_past (falls (effect i).flow) (ltb (o + n) (end_of image r)) some in
      rw p.2 (off s f p.0 (ltb-false _ _ p.1))
  fault_as o (Err Outside) f s some = outside s f
  fault_as o (Err Truncated) f s some = cut s f

  no_fault : {o n : ℕ} → Decodes image r o → CodeFault image r o n → ⊥
  no_fault d (outside s f) = let z : ◌≡◌ {A = ℕ} 0 1 = cc in omega arith
  no_fault d (cut s f) = let z : ◌≡◌ {A = ℕ} 0 1 = cc in omega arith
  no_fault d (off s f t past) =
      let same = same_found f d.found in
      omega (arith, same.1, d.inside (rw same.0 at t))

  fault_start : {o n : ℕ} → CodeFault image r o n → Start image r o
  fault_start (outside s f) = s
  fault_start (cut s f) = s
  fault_start (off s f t past) = s

  module _ (some : start_of image r < end_of image r) where
    pub code_lowest : ((first_at code_check (starts_of image r)).number ≡ 0 → ⊥) →
        Lowest (CodeFault image r) (first_at code_check (starts_of image r)).number (first_at code_check (starts_of image r)).at
    code_lowest fails =
        let f = first_found code_check (starts_of image r) (starts_rise image r) fails in
        record {
          fault = rw f.is (fault_as _ _ refl (listed_start image r f.inside) (λ z. fails (f.is ∙ z)));
          lowest = λ o n below fault. no_fault (decodes o (f.lower o below (start_listed image r some (fault_start fault)))) fault;
        }

    module _ (passes : (first_at code_check (starts_of image r)).number ≡ 0) (limits : Limits) where
      decodes_at : {o : ℕ} → Start image r o → Decodes image r o
      decodes_at {o} s = decodes o (first_none code_check (starts_of image r) passes (start_listed image r some s))

      stored : (o : ℕ) → Start image r o → Stored image limits r (cells_of image limits r) o
      stored o s =
          let d = decodes_at s in
          record {
            instruction = d.instruction;
            size = d.size;
            found = d.found;
            inside = d.inside;
            fall = ap (cell_at (λ e n. fall_cell e.flow n) o) d.found;
            jump = ap (cell_at (λ e n. jump_cell (base_of image) (start_of image r) (end_of image r) n e.flow) o) d.found;
            pop = ap (cell_at (λ e n. popped e) o) d.found;
            push = ap (cell_at (λ e n. pushed e) o) d.found;
            store = ap (cell_at (λ e n. store_cell limits e.place) o) d.found;
            call = ap (cell_at (λ e n. call_cell image r n e.flow) o) d.found;
          }

      flag_listed : (b : Bool) → 1 ≤ flag b → b ≡ true
      flag_listed true h = refl
      flag_listed false h = absurd (omega arith)

      pub filled : Filled image limits r (cells_of image limits r)
      filled =
          record {
            entry = refl;
            end = refl;
            start = λ o s. listed_start image r (listed_in o (starts_of image r) (flag_listed _ s.is));
            starts = λ o s.
                record {
                  low = start_low image r s;
                  high = start_high image r some s;
                  is = rw (in_listed (start_listed image r some s)) (omega arith);
                };
            cells = stored;
          }
