-- The page that the first byte selects, and the lengths of its op-codes.
use Prim.Native.Nat.{ℕ, ◌/◌, ◌%◌, ◌*◌, ◌^◌, ◌<◌}
use mathlib.Core.Path.{◌≡◌, refl, ap, sym, ◌∙◌}
use mathlib.Core.List.{List}
use borrow.Author.Tests.{ne_eqb}
use lib.ListN.{get_or}
use Rattle.numbers.proofs.Computing.{below, table_at}
use Rattle.stm8.specs.OpcodeMap.{Page, Plain, After72, After90, entry}
use Rattle.stm8.specs.Decoding.{page_of, precodes, entry_in, length_of, lengths, decoded_in, decoded, table_of, Decoded}
use Rattle.stm8.specs.declared.Instruction.{Instruction}
use Rattle.decoder.specs.Parts.{decoded_or, decoded_by_or, row_lengths}

module _ {first b : ℕ} (is : first ≡ b) where
  pub page_72 : first ≡ 0x72 → page_of b ≡ After72
  page_72 e = rw (← is, e)

  module _ (not-72 : first ≡ 0x72 → ⊥) where
    pub page_90 : first ≡ 0x90 → page_of b ≡ After90
    page_90 e = rw (← is, e)

    pub page_plain : (first ≡ 0x90 → ⊥) → page_of b ≡ Plain
    page_plain not-90 = rw (← is, ne_eqb first 0x72 not-72, ne_eqb first 0x90 not-90)

module _ (s : List ℕ) {page : Page} (selected : page_of (get_or s 0 0) ≡ page) where
  pub on_page_lem : decoded_in page (length_of (entry_in page s)) s ≡ decoded s
  unfolding decoded
  on_page_lem = ap (λ p. decoded_in p (length_of (entry_in p s)) s) (sym selected)

  pub on_table : (tables : List (List ℕ)) {n : ℕ} {r : Decoded} → n ≡ get_or (table_of tables page) (get_or s (precodes page) 0) 0 →
      (i : Instruction) × (r ≡ decoded_or i page n s) → (i : Instruction) × (r ≡ decoded_by_or i tables s)
  unfolding decoded_by_or
  on_table tables is d = (
    d.0,
    d.1 ∙ ap (λ m. decoded_or d.0 page m s) is ∙
        ap (λ p. decoded_or d.0 p (get_or (table_of tables p) (get_or s (precodes p) 0) 0) s) (sym selected),
  )

-- the computed test: the digits of the map's rows are its lengths
row_digit : (page : Page) (op : ℕ) → op < 256 → row_lengths page (op / 16) / 2 ^ (4 * (op % 16)) % 16 ≡ length_of (entry page op 0 0 0 0)
unfolding row_lengths
row_digit Plain = below 255 (λ op. row_lengths Plain (op / 16) / 2 ^ (4 * (op % 16)) % 16) (λ op. length_of (entry Plain op 0 0 0 0)) refl
row_digit After72 = below 255 (λ op. row_lengths After72 (op / 16) / 2 ^ (4 * (op % 16)) % 16) (λ op. length_of (entry After72 op 0 0 0 0)) refl
row_digit After90 = below 255 (λ op. row_lengths After90 (op / 16) / 2 ^ (4 * (op % 16)) % 16) (λ op. length_of (entry After90 op 0 0 0 0)) refl

pub digit_length : (page : Page) {op row n : ℕ} → op < 256 → row ≡ row_lengths page (op / 16) → n ≡ row / 2 ^ (4 * (op % 16)) % 16 →
    n ≡ get_or (lengths page) op 0
unfolding lengths
digit_length page {op} h of_row e =
    e ∙ ap (λ row. row / 2 ^ (4 * (op % 16)) % 16) of_row ∙ row_digit page op h ∙ sym (table_at (λ k. length_of (entry page k 0 0 0 0)) op h)
