-- What is found where an entry and the number of bytes are known, and what is known where something is found.
use mathlib.Core.Path.{◌≡◌, refl, ap, sym, ◌∙◌}
use mathlib.Core.Bool.{Bool, true, false, cond}
use mathlib.Core.List.{List}
use Prim.Native.Nat.{ℕ, ◌<◌, ◌≤◌}
use native.Mathlib.Nat.{pos_of_ne-zero}
use native.Mathlib.Omega.{arith}
use borrow.Author.Tests.{lt-leb, le-ltb, ne_eqb, ltb-false, eqb-false}
use lib.Dec.{eqb, leb, ltb}
use lib.ListN.{get_or, length}
use Rattle.std.specs.Prelude.{Ok, Err}
use Rattle.stm8.specs.OpcodeMap.{Entry, Blank, Is}
use Rattle.stm8.specs.Encoding.{bytes_of}
use Rattle.stm8.specs.Decoding.{page_of, precodes, entry_in, length_of, Decoded, found_as, decoded}
use Rattle.stm8.specs.declared.Instruction.{Instruction}
use Rattle.stm8.specs.declared.DecodeError.TheVariants.{Outside, Truncated}

-- an answer is of one instruction and one length
pub one_found : {i i' : Instruction} {n n' : ℕ} → ◌≡◌ {A = Decoded} (Ok (i, n)) (Ok (i', n')) → (i ≡ i') × (n ≡ n')
one_found {i} {i'} {n} {n'} same =
    let pair : ◌≡◌ {A = Instruction × ℕ} (i, n) (i', n') = cc in
    (ap (λ (p : Instruction × ℕ). p.0) pair, ap (λ (p : Instruction × ℕ). p.1) pair)

-- an instruction whose bytes are all there
pub opened : (s : List ℕ) (i : Instruction) → entry_in (page_of (get_or s 0 0)) s ≡ Is i →
    precodes (page_of (get_or s 0 0)) < length s → 0 < length (bytes_of i) → length (bytes_of i) ≤ length s →
    decoded s ≡ Ok (i, length (bytes_of i))
unfolding decoded
opened s i e op some room =
    let size = length (bytes_of i) in
    rw (e, lt-leb (length s) (precodes (page_of (get_or s 0 0))) op, ne_eqb size 0 (λ z. omega arith), le-ltb (length s) size room)

-- what was found: the entry, and that its bytes are all there
pub record Opened (s : List ℕ) (i : Instruction) (n : ℕ) : Type 0 where
  pub entry : entry_in (page_of (get_or s 0 0)) s ≡ Is i
  pub size : length (bytes_of i) ≡ n
  pub some : 0 < n
  pub room : n ≤ length s

module _ (s : List ℕ) (i : Instruction) (n : ℕ) where
  by_tests : (e : Entry) → entry_in (page_of (get_or s 0 0)) s ≡ e → (cut empty short : Bool) →
      eqb (length_of e) 0 ≡ empty → ltb (length s) (length_of e) ≡ short →
      cond cut (Err Truncated) (cond empty (Err Outside) (cond short (Err Truncated) (found_as (length_of e) e))) ≡ Ok (i, n) → Opened s i n
  by_tests e at true empty short p q f = let z : ◌≡◌ {A = ℕ} 0 1 = cc in absurd (omega arith)
  by_tests e at false true short p q f = let z : ◌≡◌ {A = ℕ} 0 1 = cc in absurd (omega arith)
  by_tests e at false false true p q f = let z : ◌≡◌ {A = ℕ} 0 1 = cc in absurd (omega arith)
  by_tests Blank at false false false p q f = let z : ◌≡◌ {A = ℕ} 0 1 = cc in absurd (omega arith)
  by_tests (Is j) at false false false p q f =
      let same : j ≡ i = (one_found f).0 in
      let size : length (bytes_of j) ≡ n = (one_found f).1 in
      let some : length (bytes_of j) ≡ 0 → ⊥ = eqb-false _ _ p in
      let room : length (bytes_of j) ≤ length s = ltb-false _ _ q in
      record { entry = at ∙ ap Is same; size = ap (λ k. length (bytes_of k)) (sym same) ∙ size; some = pos_of_ne-zero (λ z. some (size ∙ z)); room = omega arith }

  pub found : decoded s ≡ Ok (i, n) → Opened s i n
  unfolding decoded
  found f = by_tests (entry_in (page_of (get_or s 0 0)) s) refl (leb (length s) (precodes (page_of (get_or s 0 0)))) _ _ refl refl f
