-- The starts of a routine lie inside it, one after the other: none inside an instruction.
use Prim.Native.Nat.{ℕ, ◌+◌, ◌-◌, ◌<◌, ◌≤◌}
use mathlib.Core.Path.{◌≡◌, sym, ap, ◌∙◌}
use mathlib.Core.Logic.{by_cases}
use mathlib.Core.List.{List}
use native.Mathlib.Decide.{ℕ_discrete, dec_lt}
use native.Mathlib.Omega.{arith}
use lib.ListN.{take, drop, length-take}
use lib.Seq.{take-add}
use Rattle.std.specs.Prelude.{Ok}
use Rattle.numbers.specs.Lists.{Bytes}
use Rattle.numbers.proofs.Bytes.{bytes_taken, bytes_dropped}
use Rattle.stm8.specs.Decoding.{Decoded}
use Rattle.stm8.specs.declared.Instruction.{Instruction}
use Rattle.stm8.proofs.Opening.{one_found}
use Rattle.stm8.proofs.Longer.{found_within, longer}
use Rattle.image.specs.Image.{version_of, code_of, size_of, start_of, end_of}
use Rattle.code.specs.Set.{decoded_for}
use Rattle.code.specs.Code.{decoded_at, instruction_at, instruction_in, Start, begins, follows}
use Rattle.code.proofs.Sets.{found_in_set, set_has}

-- bytes are one instruction, of one length
pub same_found : {x : Decoded} {i i' : Instruction} {n n' : ℕ} → x ≡ Ok (i, n) → x ≡ Ok (i', n') → (i ≡ i') × (n ≡ n')
same_found p q = one_found (sym p ∙ q)

module _ (image : List ℕ) where
  -- an instruction has bytes, and ends where the bytes end that it is found in
  pub found_before : (end o : ℕ) {n : ℕ} {i : Instruction} → decoded_at image end o ≡ Ok (i, n) → (0 < n) × (o + n ≤ end)
  unfolding decoded_at
  found_before end o {n} {i} f =
      let part = take (end - o) (drop o (code_of image)) in
      let within = found_within part i n (found_in_set (version_of image) i n part f).0 in
      (within.0, omega (arith, within, length-take (end - o) (drop o (code_of image))))

  pub found_short : (end o : ℕ) {n : ℕ} {i : Instruction} → decoded_at image end o ≡ Ok (i, n) → n ≤ 5
  unfolding decoded_at
  found_short end o {n} {i} f =
      let part = take (end - o) (drop o (code_of image)) in
      (found_within part i n (found_in_set (version_of image) i n part f).0).1

  -- more bytes after it do not change it
  pub found_longer : Bytes (code_of image) → (end end' o : ℕ) {n : ℕ} {i : Instruction} → end ≤ end' →
      decoded_at image end o ≡ Ok (i, n) → decoded_at image end' o ≡ Ok (i, n)
  unfolding decoded_at
  found_longer bytes end end' o {n} {i} h f =
      let v = version_of image in
      let code = drop o (code_of image) in
      let part = take (end - o) code in
      let split : end' - o ≡ (end - o) + (end' - o - (end - o)) = omega arith in
      let here = found_in_set v i n part f in
      let more = longer part i n here.0 (bytes_taken (end - o) code (bytes_dropped o (code_of image) bytes)) in
      ap (λ m. decoded_for v (take m code)) split ∙
      ap (decoded_for v) (take-add (end - o) (end' - o - (end - o)) code) ∙
      set_has v i n _ (more (take (end' - o - (end - o)) (drop (end - o) code))) here.1

module _ (image : List ℕ) (r : ℕ) where
  pub found_inside : (o : ℕ) {n : ℕ} {i : Instruction} → instruction_at image r o ≡ Ok (i, n) → (0 < n) × (o + n ≤ end_of image r)
  found_inside o f = found_before image (end_of image r) o f

  -- the bytes after the routine do not change what stands at an offset
  pub found_in_code : Bytes (code_of image) → end_of image r ≤ size_of image → (o : ℕ) {n : ℕ} {i : Instruction} →
      instruction_at image r o ≡ Ok (i, n) → instruction_in image o ≡ Ok (i, n)
  found_in_code bytes inside o f = found_longer image bytes (end_of image r) (size_of image) o inside f

  pub start_low : {o : ℕ} → Start image r o → start_of image r ≤ o
  start_low begins = omega arith
  start_low (follows s f h) = omega (arith, start_low s)

  pub start_high : {o : ℕ} → start_of image r < end_of image r → Start image r o → o < end_of image r
  start_high some begins = some
  start_high some (follows s f h) = h

  -- the instructions below an offset end there or before
  EndsBelow : ℕ → Type 0
  EndsBelow o = (k n : ℕ) (i : Instruction) → Start image r k → instruction_at image r k ≡ Ok (i, n) → k < o → k + n ≤ o

  none_inside : {o n : ℕ} {i : Instruction} → Start image r o → EndsBelow o → instruction_at image r o ≡ Ok (i, n) →
      {k : ℕ} → Start image r k → o < k → o + n ≤ k
  unfolding EndsBelow
  none_inside s below f begins h = absurd (omega (arith, start_low s))
  none_inside {o} s below f (follows {o = p} t g inside) h =
      by_cases (ℕ_discrete p o)
      (λ e. omega (arith, e, (same_found (rw e at g) f).1))
      (λ ne. by_cases (dec_lt p o)
      (λ l. absurd (omega (arith, below _ _ _ t g l)))
      (λ l. omega (arith, none_inside s below f t (omega arith))))

  ends_below : {o : ℕ} → Start image r o → EndsBelow o
  unfolding EndsBelow
  ends_below begins k n i t g h = absurd (omega (arith, start_low t))
  ends_below (follows {o = p} s f inside) k n i t g h =
      by_cases (ℕ_discrete k p)
      (λ e. omega (arith, e, (same_found (rw e at g) f).1))
      (λ ne. by_cases (dec_lt k p)
      (λ l. omega (arith, ends_below s k n i t g l))
      (λ l. absurd (omega (arith, none_inside s (λ k n i t g h. ends_below s k n i t g h) f t (omega arith)))))

  -- the start after one is not before its instruction's end
  pub next_start : {o k n : ℕ} {i : Instruction} → Start image r o → instruction_at image r o ≡ Ok (i, n) → Start image r k → o < k → o + n ≤ k
  next_start s f t h = none_inside s (ends_below s) f t h
