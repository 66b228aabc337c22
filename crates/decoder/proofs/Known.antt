-- Op-codes that the map has, by their lengths: where no blank entry has a length, and where one may have.
use Prim.Native.Nat.{ℕ, ◌<◌}
use mathlib.Core.Path.{◌≡◌, refl, ap, sym, ◌∙◌}
use mathlib.Core.Logic.{by_cases}
use mathlib.Core.Bool.{Bool, true, false, cond}
use mathlib.Core.List.{List}
use native.Mathlib.Decide.{ℕ_discrete}
use native.Mathlib.Omega.{arith}
use borrow.Author.Tests.{ne_eqb}
use lib.Dec.{eqb, leb, ltb}
use lib.ListN.{length, get_or}
use Rattle.std.specs.Prelude.{Ok, Err}
use Rattle.numbers.specs.Lists.{Bytes}
use Rattle.numbers.proofs.Computing.{below}
use Rattle.stm8.specs.OpcodeMap.{Page, Plain, After72, After90, Entry, Blank, Is, entry}
use Rattle.stm8.specs.Decoding.{page_of, precodes, entry_in, length_of, lengths, sized, decoded_in, decoded, table_of, decoded_by, Decoded}
use Rattle.stm8.specs.Encoding.{bytes_of}
use Rattle.stm8.specs.declared.Instruction.{Instruction}
use Rattle.stm8.specs.declared.DecodeError.{DecodeError}
use Rattle.stm8.specs.declared.DecodeError.TheVariants.{Outside, Truncated}
use Rattle.stm8.proofs.Lengths.{lengths_hold}
use Rattle.opcodes.specs.Entries.{or_else}
use Rattle.decoder.specs.Parts.{decoded_or, decoded_by_or}

-- an entry that has a length only if it is not blank
settled : (i : Instruction) (e : Entry) (n room : ℕ) → (e ≡ Blank → n ≡ 0) → sized n (Is (or_else i e)) room ≡ sized n e room
settled i Blank n room none = rw (none refl)
settled i (Is j) n room none = refl

module _ (s : List ℕ) (bytes : Bytes s) (page : Page) where
  own : get_or (lengths page) (get_or s (precodes page) 0) 0 ≡ length_of (entry_in page s)
  own = lengths_hold page _ _ _ _ _ (bytes (precodes page))

  as_decoded : (i : Instruction) (n : ℕ) → (get_or (lengths page) (get_or s (precodes page) 0) 0 ≡ 0 → n ≡ 0) → decoded_or i page n s ≡ decoded_in page n s
  unfolding decoded_or
  as_decoded i n none =
      ap (cond (leb (length s) (precodes page)) (Err Truncated)) (settled i (entry_in page s) n (length s) (λ e. none (own ∙ ap length_of e)))

  -- the map's own lengths
  pub by_own : {r : Decoded} {n : ℕ} → n ≡ get_or (lengths page) (get_or s (precodes page) 0) 0 → (i : Instruction) × (r ≡ decoded_or i page n s) →
      r ≡ decoded_in page (length_of (entry_in page s)) s
  by_own {n = n} is d = d.1 ∙ as_decoded d.0 n (λ e. is ∙ e) ∙ ap (λ m. decoded_in page m s) (is ∙ own)

-- an op-code of the map has a length: the computed test
has_length : (page : Page) (a b c d op : ℕ) → op < 256 → length_of (entry page op a b c d) ≡ 0 → entry page op a b c d ≡ Blank
has_length page a b c d op h none = sym (rw none at (same page op h))
  where
    same : (page : Page) (op : ℕ) → op < 256 → cond (eqb (length_of (entry page op a b c d)) 0) Blank (entry page op a b c d) ≡ entry page op a b c d
    same Plain = below 255 (λ op. cond (eqb (length_of (entry Plain op a b c d)) 0) Blank (entry Plain op a b c d)) (λ op. entry Plain op a b c d) refl
    same After72 = below 255 (λ op. cond (eqb (length_of (entry After72 op a b c d)) 0) Blank (entry After72 op a b c d)) (λ op. entry After72 op a b c d) refl
    same After90 = below 255 (λ op. cond (eqb (length_of (entry After90 op a b c d)) 0) Blank (entry After90 op a b c d)) (λ op. entry After90 op a b c d) refl

-- Any tables. Three tests in a row, with an instruction found after them or nothing of the set; and what an answer says of them.
abbrev tested : Bool → Bool → Bool → Decoded → Decoded
tested cut none short x = cond cut (Err Truncated) (cond none (Err Outside) (cond short (Err Truncated) x))

undecided : (a b c : Bool) (x : Instruction × ℕ) {e : DecodeError} → tested a b c (Ok x) ≡ Err e → tested a b c (Ok x) ≡ tested a b c (Err Outside)
undecided true b c x h = refl
undecided false true c x h = refl
undecided false false true x h = refl
undecided false false false x h = cc

passed : (a b c : Bool) (x : Instruction × ℕ) {d : Instruction × ℕ} → tested a b c (Ok x) ≡ Ok d → tested a b c (Err Outside) ≡ Err Outside
passed true b c x h = cc
passed false true c x h = refl
passed false false true x h = cc
passed false false false x h = refl

not_outside : (a c : Bool) (x : Instruction × ℕ) → tested a false c (Ok x) ≡ Err Outside → ⊥
not_outside true c x h = cc
not_outside false true x h = cc
not_outside false false x h = cc

no_opcode : (a : Bool) (x y : Decoded) → (◌≡◌ {A = Decoded} (cond a (Err Truncated) (Err Outside)) (Err Outside) → ⊥) → cond a (Err Truncated) x ≡ cond a (Err Truncated) y
no_opcode true x y h = refl
no_opcode false x y h = absurd (h refl)

-- of an entry: n is its length by a table, i what is found where it is blank
module _ (a : Bool) (room n : ℕ) (i : Instruction) where
  abbrev by_table : Entry → Decoded
  by_table e = cond a (Err Truncated) (sized n e room)

  abbrev by_map : Entry → Decoded
  by_map e = cond a (Err Truncated) (sized (length_of e) e room)

  entry_not_found : (e : Entry) {error : DecodeError} → by_table (Is (or_else i e)) ≡ Err error → by_table (Is (or_else i e)) ≡ by_table e
  entry_not_found Blank h = undecided a (eqb n 0) (ltb room n) (i, n) h
  entry_not_found (Is j) h = refl

  entry_in_map : (e : Entry) → (by_map e ≡ Err Outside → ⊥) → by_table (Is (or_else i e)) ≡ by_table e
  entry_in_map Blank h = no_opcode a _ _ h
  entry_in_map (Is j) h = refl

  entry_outside : (e : Entry) → (length_of e ≡ 0 → e ≡ Blank) → {d : Instruction × ℕ} → by_table (Is (or_else i e)) ≡ Ok d → by_map e ≡ Err Outside →
      by_table e ≡ Err Outside
  entry_outside Blank some f h = passed a (eqb n 0) (ltb room n) (i, n) f
  entry_outside (Is j) some f h =
      by_cases (ℕ_discrete (length (bytes_of j)) 0)
      (λ none. let blank = some none in let z : ◌≡◌ {A = ℕ} 0 1 = cc in absurd (omega arith))
      (λ long. absurd (not_outside a (ltb room (length (bytes_of j))) (j, length (bytes_of j)) (rw (ne_eqb (length (bytes_of j)) 0 long) at h)))

module _ (tables : List (List ℕ)) (s : List ℕ) (i : Instruction) where
  pub not_found : {e : DecodeError} → decoded_by_or i tables s ≡ Err e → decoded_by_or i tables s ≡ decoded_by tables s
  unfolding decoded_by_or decoded_or decoded_by
  not_found h =
      let page = page_of (get_or s 0 0) in
      let n = get_or (table_of tables page) (get_or s (precodes page) 0) 0 in
      entry_not_found (leb (length s) (precodes page)) (length s) n i (entry_in page s) h

  pub in_map : (decoded s ≡ Err Outside → ⊥) → decoded_by_or i tables s ≡ decoded_by tables s
  unfolding decoded decoded_by_or decoded_or decoded_by
  in_map h =
      let page = page_of (get_or s 0 0) in
      let n = get_or (table_of tables page) (get_or s (precodes page) 0) 0 in
      entry_in_map (leb (length s) (precodes page)) (length s) n i (entry_in page s) h

  pub not_in_map : Bytes s → {d : Instruction × ℕ} → decoded_by_or i tables s ≡ Ok d → decoded s ≡ Err Outside → decoded_by tables s ≡ Err Outside
  unfolding decoded decoded_by_or decoded_or decoded_by
  not_in_map bytes f h =
      let page = page_of (get_or s 0 0) in
      let n = get_or (table_of tables page) (get_or s (precodes page) 0) 0 in
      entry_outside (leb (length s) (precodes page)) (length s) n i (entry_in page s) (has_length page _ _ _ _ _ (bytes (precodes page))) f h
