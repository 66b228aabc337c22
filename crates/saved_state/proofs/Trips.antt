-- Saving and reading are each other's return trip, in each version.
use Prim.Native.Nat.{ℕ, ◌+◌, ◌*◌, ◌<◌, ◌≤◌}
use mathlib.Core.Path.{◌≡◌, refl, sym, ap, ◌∙◌}
use mathlib.Core.Bool.{true}
use mathlib.Core.List.{List, ◌++◌, map}
use native.Mathlib.Nat.{zero-add}
use native.Mathlib.Omega.{arith}
use borrow.Author.Tests.{eq-eqb}
use lib.ListN.{length, get_or, take}
use lib.Seq.{ext_get_or, get_or-take, take_all, length-take-le}
use Rattle.numbers.specs.Ascii.{ascii}
use Rattle.numbers.specs.Checks.{unless}
use Rattle.numbers.specs.Computed.{counting}
use Rattle.numbers.specs.Folds.{first_in}
use Rattle.numbers.specs.Lists.{Bytes, same}
use Rattle.numbers.specs.Words.{word, word_at}
use Rattle.numbers.proofs.Checking.{under_pass, differ_zero, differ_pass, unless_zero}
use Rattle.numbers.proofs.Comparing.{same_true}
use Rattle.numbers.proofs.Computing.{mapped_at, mapped_length}
use Rattle.numbers.proofs.Folding.{passed, ◌&◌}
use Rattle.numbers.proofs.WordLaws.{high_word, low_word, word_high_low}
use Rattle.execution.specs.declared.Registers.{Registers}
use Rattle.saved_state.specs.Sls.{known, step_bytes, number_bytes, state_bytes, saving_number, saved, version_of, saved_check, state_in}
use Rattle.saved_state.specs.declared.Saved.{Saved}
use Rattle.saved_state.specs.declared.SavedState.{SavedState}
use Rattle.saved_state.proofs.NumberLaws.{range, range_rises, length_number, number_below, number_reads, number_writes}
use Rattle.saved_state.proofs.Saving.{step_bytes_most}

-- A record is read as one,
pub written_passes : (version : ℕ) → known version ≡ true → (regs : Registers) (steps : ℕ) → saved_check (state_bytes version regs steps) ≡ 0
unfolding saved_check state_bytes first_in unless same word_at
written_passes version is regs steps =
    let width = step_bytes version in
    rw (word_high_low version, is) (differ_pass _ (15 + width) 34 (omega (arith, length_number width steps)) & refl & refl & refl)

-- and says what was saved.
pub written_says : (version : ℕ) (regs : Registers) (steps : ℕ) → steps < range (step_bytes version) →
    state_in (state_bytes version regs steps) ≡ record { registers = regs; steps = steps }
unfolding state_in state_bytes word_at
written_says version regs steps fits =
    let header = take 15 (state_bytes version regs steps) in
    rw (
      word_high_low version,
      word_high_low regs.pc,
      word_high_low regs.sp,
      word_high_low regs.x,
      word_high_low regs.y,
      number_reads header (step_bytes version) steps fits,
    )

-- No version has more than 64 bits for the steps.
range_most : (version : ℕ) → range (step_bytes version) ≤ 0x10000000000000000
range_most version = range_rises (step_bytes version) 8 (step_bytes_most version)

-- So every saved state reads back.
pub saved_reads : (regs : Registers) (steps : ℕ) → (saved regs steps).number ≡ 0 → steps ≤ 0xFFFFFFFFFFFFFFFF →
    let bytes = (saved regs steps).bytes in
    (saved_check bytes ≡ 0) × (state_in bytes ≡ record { registers = regs; steps = steps })
unfolding saved
saved_reads regs steps e few =
    rw (eq-eqb (saving_number regs) 0 e) (written_passes 0x0002 refl regs steps, written_says 0x0002 regs steps (omega arith))

-- A record of version 0001 reads as the record of version 0002 with the same registers and total.
pub older_reads : (regs : Registers) (steps : ℕ) → steps ≤ 0xFFFFFFFF →
    (saved_check (state_bytes 0x0001 regs steps) ≡ saved_check (state_bytes 0x0002 regs steps)) ×
    (state_in (state_bytes 0x0001 regs steps) ≡ state_in (state_bytes 0x0002 regs steps))
older_reads regs steps few = (
  written_passes 0x0001 refl regs steps ∙ sym (written_passes 0x0002 refl regs steps),
  written_says 0x0001 regs steps (omega arith) ∙ sym (written_says 0x0002 regs steps (omega arith)),
)

-- What bytes say fits.
pub state_fits : (bytes : List ℕ) → Bytes bytes → (saving_number (state_in bytes).registers ≡ 0) × ((state_in bytes).steps ≤ 0xFFFFFFFFFFFFFFFF)
unfolding saving_number state_in word_at word
state_fits bytes small = (
  under_pass 0xFFFF (get_or bytes 5 0 * 256 + get_or bytes 6 0) 35 (omega (arith, small 5, small 6)),
  omega (arith, number_below bytes small 15 (step_bytes (version_of bytes)), range_most (version_of bytes)),
)

-- The first bytes are those at each index.
front_cells : (bytes : List ℕ) (n : ℕ) → n ≤ length bytes → map (λ k. get_or bytes k 0) (counting n 0) ≡ take n bytes
front_cells bytes n long =
    ext_get_or 0 (map (λ k. get_or bytes k 0) (counting n 0)) (take n bytes) (size ∙ sym (length-take-le n bytes long))
    (λ i below.
    let inside : i < n = rw size at below in
    mapped_at (λ k. get_or bytes k 0) n 0 i 0 inside ∙ ap (λ k. get_or bytes k 0) (zero-add i) ∙ sym (get_or-take n bytes i 0 inside))
  where
    size : length (map (λ k. get_or bytes k 0) (counting n 0)) ≡ n
    size = mapped_length (λ k. get_or bytes k 0) n 0

-- Every record that is read is written as its own bytes again, in its version;
module _ (bytes : List ℕ) (small : Bytes bytes) (passes : saved_check bytes ≡ 0) where
  abbrev at : ℕ → ℕ
  at k = get_or bytes k 0

  abbrev width : ℕ
  width = step_bytes (version_of bytes)

  abbrev says : SavedState
  says = state_in bytes

  -- its length and its mark
  header : (length bytes ≡ 15 + width) × (take 3 bytes ≡ ascii "SLS")
  unfolding saved_check
  header = let h = passed _ passes in (differ_zero _ _ 33 h.0, same_true _ _ (unless_zero _ 33 h.1.0))

  mark_at : (k : ℕ) → k < 3 → at k ≡ get_or (ascii "SLS") k 0
  mark_at k below = sym (get_or-take 3 bytes k 0 below) ∙ ap (λ (l : List ℕ). get_or l k 0) header.1

  writes_cells : state_bytes (version_of bytes) says.registers says.steps ≡ map at (counting 15 0) ++ number_bytes width says.steps
  unfolding state_bytes state_in word_at
  writes_cells =
      rw (
        mark_at 0 (omega arith),
        mark_at 1 (omega arith),
        mark_at 2 (omega arith),
        high_word (at 3) (at 4) (small 4),
        low_word (at 3) (at 4) (small 4),
        high_word (at 5) (at 6) (small 6),
        low_word (at 5) (at 6) (small 6),
        high_word (at 7) (at 8) (small 8),
        low_word (at 7) (at 8) (small 8),
        high_word (at 10) (at 11) (small 11),
        low_word (at 10) (at 11) (small 11),
        high_word (at 12) (at 13) (small 13),
        low_word (at 12) (at 13) (small 13),
      )

  pub read_writes : state_bytes (version_of bytes) says.registers says.steps ≡ bytes
  unfolding state_in
  read_writes =
      let long = header.0 in
      writes_cells ∙ ap (λ l. l ++ number_bytes width says.steps) (front_cells bytes 15 (omega arith)) ∙
      sym (number_writes bytes small 15 width (omega arith)) ∙ take_all (15 + width) bytes (omega arith)

  -- and so one of version 0002 is saved as it is.
  pub read_saves : version_of bytes ≡ 0x0002 → saved says.registers says.steps ≡ record { number = 0; bytes = bytes }
  unfolding saved
  read_saves newer = rw (state_fits bytes small).0 (ap (λ b. let s : Saved = record { number = 0; bytes = b } in s) (rw newer at read_writes))
