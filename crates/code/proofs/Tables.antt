-- The lengths of a version's op-codes, as tables that are lent: decoding by them is decoding by the set of the version.
use Prim.Native.Nat.{ℕ, ◌-◌, ◌<◌}
use mathlib.Core.Path.{◌≡◌, refl, ap, sym, ◌∙◌}
use mathlib.Core.Bool.{true, false, cond}
use mathlib.Core.List.{List, []}
use borrow.Author.Tests.{not-true, not-false}
use lib.ListN.{get_or, take, drop, set}
use Rattle.numbers.specs.Lists.{Bytes}
use Rattle.numbers.proofs.Bytes.{bytes_taken, bytes_dropped}
use Rattle.numbers.proofs.Computing.{table_at}
use Rattle.stm8.specs.OpcodeMap.{Page, Plain, After72, After90, entry}
use Rattle.stm8.specs.Decoding.{page_of, precodes, length_of, lengths, decoded_in, table_of, decoded_by, map_lengths}
use Rattle.stm8.specs.declared.Instruction.TheVariants.{Callr}
use Rattle.stm8.proofs.Lengths.{lengths_hold}
use Rattle.image.specs.Image.{version_of, code_at, code_of}
use Rattle.code.specs.Internal.{without_callr, left_out}
use Rattle.code.specs.Set.{allowed, entry_for, decoded_for, page_lengths, lengths_for}
use Rattle.code.specs.Code.{decoded_at}
use Rattle.code.proofs.Sets.{entry_callr, callr_at_lem, length_for}

module _ (version : ℕ) where
  -- the map's tables, with 0 at AD where CALLR is left out
  pub lengths_kept : left_out version 0xAD ≡ false → lengths_for version ≡ map_lengths
  unfolding lengths_for lengths
  lengths_kept e = rw (not-false (allowed version (Callr 0)) e)

  pub lengths_cut : left_out version 0xAD ≡ true → lengths_for version ≡ set map_lengths 0 (set (get_or map_lengths 0 []) 0xAD 0)
  unfolding lengths_for lengths
  lengths_cut e = rw (not-true (allowed version (Callr 0)) e)

  -- the bytes after an op-code do not change its length
  length_at : (page : Page) (a b c d op : ℕ) → op < 256 → get_or (page_lengths version page) op 0 ≡ length_of (entry_for version (entry page op a b c d))
  length_at page a b c d op h =
      let out = without_callr version in
      table_at (λ k. length_of (entry_for version (entry page k 0 0 0 0))) op h ∙ length_for version (entry page op 0 0 0 0) ∙
      ap (λ t. cond (cond t out false) 0 (length_of (entry page op 0 0 0 0))) (callr_at_lem page 0 0 0 0 op h ∙ sym (callr_at_lem page a b c d op h)) ∙
      ap (λ n. cond (cond (entry_callr (entry page op a b c d)) out false) 0 n) (sym (lengths_hold page 0 0 0 0 op h) ∙ lengths_hold page a b c d op h) ∙
      sym (length_for version (entry page op a b c d))

  -- so decoding goes by the tables
  pub by_lengths : (tables : List (List ℕ)) → tables ≡ lengths_for version → (s : List ℕ) → Bytes s → decoded_by tables s ≡ decoded_for version s
  unfolding decoded_by decoded_for lengths_for
  by_lengths tables own s bytes =
      let page = page_of (get_or s 0 0) in
      ap (λ n. decoded_in page n s)
      (ap (λ l. get_or l (get_or s (precodes page) 0) 0) (held page) ∙ length_at page _ _ _ _ _ (bytes (precodes page)))
    where
      held : (page : Page) → table_of tables page ≡ page_lengths version page
      held Plain = rw own refl
      held After72 = rw own refl
      held After90 = rw own refl

-- and so does what stands at an offset of an image
pub decoded_at_lem : (image : List ℕ) → Bytes image → (tables : List (List ℕ)) → tables ≡ lengths_for (version_of image) → (end o : ℕ) →
    decoded_by tables (take (end - o) (drop o (code_of image))) ≡ decoded_at image end o
unfolding decoded_at code_of
decoded_at_lem image bytes tables own end o =
    let code = drop (code_at image) image in
    by_lengths (version_of image) tables own (take (end - o) (drop o code))
    (bytes_taken (end - o) (drop o code) (bytes_dropped o code (bytes_dropped (code_at image) image bytes)))
