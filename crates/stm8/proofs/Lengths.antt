-- The three tables hold the length of what each of the 768 op-codes decodes to, 0 outside the set, whatever bytes come after it.
use mathlib.Core.Path.{◌≡◌, refl, ap, ◌∙◌}
use mathlib.Core.List.{List}
use Prim.Native.Nat.{ℕ, ◌<◌}
use lib.ListN.{get_or}
use Rattle.numbers.specs.Lists.{Bytes}
use Rattle.numbers.proofs.Computing.{below, table_at}
use Rattle.stm8.specs.OpcodeMap.{Page, Plain, After72, After90, entry}
use Rattle.stm8.specs.Decoding.{page_of, precodes, entry_in, length_of, lengths, decoded_in, decoded, table_of, decoded_by, map_lengths}

-- the computed test: the bytes after an op-code do not change its length
same_length : (page : Page) (a b c d op : ℕ) → op < 256 → length_of (entry page op 0 0 0 0) ≡ length_of (entry page op a b c d)
same_length Plain a b c d = below 255 (λ op. length_of (entry Plain op 0 0 0 0)) (λ op. length_of (entry Plain op a b c d)) refl
same_length After72 a b c d = below 255 (λ op. length_of (entry After72 op 0 0 0 0)) (λ op. length_of (entry After72 op a b c d)) refl
same_length After90 a b c d = below 255 (λ op. length_of (entry After90 op 0 0 0 0)) (λ op. length_of (entry After90 op a b c d)) refl

pub lengths_hold : (page : Page) (a b c d op : ℕ) → op < 256 → get_or (lengths page) op 0 ≡ length_of (entry page op a b c d)
unfolding lengths
lengths_hold page a b c d op h = table_at (λ k. length_of (entry page k 0 0 0 0)) op h ∙ same_length page a b c d op h

-- so decoding goes by the tables
pub in_page : (s : List ℕ) → Bytes s → (page : Page) (table : List ℕ) → table ≡ lengths page →
    decoded_in page (get_or table (get_or s (precodes page) 0) 0) s ≡ decoded_in page (length_of (entry_in page s)) s
in_page s bytes page table e =
    ap (λ n. decoded_in page n s) (ap (λ l. get_or l (get_or s (precodes page) 0) 0) e ∙ lengths_hold page _ _ _ _ _ (bytes (precodes page)))

pub by_map_lengths : (tables : List (List ℕ)) → tables ≡ map_lengths → (s : List ℕ) → Bytes s → decoded_by tables s ≡ decoded s
unfolding decoded_by decoded
by_map_lengths tables own s bytes = in_page s bytes (page_of (get_or s 0 0)) _ (held (page_of (get_or s 0 0)))
  where
    held : (page : Page) → table_of tables page ≡ lengths page
    held Plain = rw own refl
    held After72 = rw own refl
    held After90 = rw own refl
