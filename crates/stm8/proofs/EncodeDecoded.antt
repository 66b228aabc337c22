-- Encoding what was decoded gives exactly the bytes that it was decoded from.
use mathlib.Core.Path.{◌≡◌, refl, ap, ◌∙◌}
use mathlib.Core.List.{List, [], ◌∷◌}
use mathlib.Core.Bool.{Bool, true, false, cond}
use Prim.Native.Nat.{ℕ, zero, suc, ◌+◌, ◌<◌, ◌≤◌, min}
use native.Mathlib.Omega.{arith}
use native.Mathlib.Nat.{le_of_suc-le-suc, not-suc-le-zero}
use borrow.Author.Tests.{eqb-true}
use lib.Dec.{eqb}
use lib.ListN.{get_or, length, take, length-take}
use Rattle.std.specs.Prelude.{Ok}
use Rattle.numbers.specs.Lists.{Bytes}
use Rattle.numbers.proofs.Computing.{below}
use Rattle.numbers.proofs.WordLaws.{high_word, low_word}
use Rattle.stm8.specs.OpcodeMap.{Page, Plain, After72, After90, Entry, Blank, Is, entry}
use Rattle.stm8.specs.Encoding.{bytes_of, padded, encoded}
use Rattle.stm8.specs.Decoding.{page_of, precodes, entry_in, decoded}
use Rattle.stm8.proofs.Opening.{Opened, found}
use Rattle.stm8.specs.declared.Instruction.{Instruction}

-- the bytes of an entry, and as many of the bytes that it was made of
abbrev again : Entry → List ℕ
again Blank = []
again (Is i) = bytes_of i

abbrev taken : Entry → List ℕ → List ℕ
taken Blank s = []
taken (Is i) s = take (length (bytes_of i)) s

-- an op-code with its pre-code and the bytes after it
abbrev laid : Page → ℕ → ℕ → ℕ → ℕ → ℕ → List ℕ
laid Plain op a b c d = op ∷ a ∷ b ∷ c ∷ d ∷ []
laid After72 op a b c d = 0x72 ∷ op ∷ a ∷ b ∷ c ∷ d ∷ []
laid After90 op a b c d = 0x90 ∷ op ∷ a ∷ b ∷ c ∷ d ∷ []

-- the computed test over the 256 entries of each page
page_again : (page : Page) (a b c d : ℕ) → a < 256 → b < 256 → c < 256 → d < 256 → (op : ℕ) → op < 256 →
    again (entry page op a b c d) ≡ taken (entry page op a b c d) (laid page op a b c d)
page_again Plain a b c d ha hb hc hd =
    below 255 (λ op. again (entry Plain op a b c d)) (λ op. taken (entry Plain op a b c d) (laid Plain op a b c d))
    (rw (high_word a b hb, low_word a b hb, high_word b c hc, low_word b c hc, high_word c d hd, low_word c d hd) refl)
page_again After72 a b c d ha hb hc hd =
    below 255 (λ op. again (entry After72 op a b c d)) (λ op. taken (entry After72 op a b c d) (laid After72 op a b c d))
    (rw (high_word a b hb, low_word a b hb) refl)
page_again After90 a b c d ha hb hc hd =
    below 255 (λ op. again (entry After90 op a b c d)) (λ op. taken (entry After90 op a b c d) (laid After90 op a b c d))
    (rw (high_word a b hb, low_word a b hb) refl)

-- the m elements of s from k on, 0 past its end
abbrev window : ℕ → ℕ → List ℕ → List ℕ
window zero k s = []
window (suc m) k s = get_or s k 0 ∷ window m (suc k) s

window_length : (m k : ℕ) (s : List ℕ) → length (window m k s) ≡ m
window_length zero k s = refl
window_length (suc m) k s = ap suc (window_length m (suc k) s)

window_next : (m k x : ℕ) (s : List ℕ) → window m (suc k) (x ∷ s) ≡ window m k s
window_next zero k x s = refl
window_next (suc m) k x s = ap (λ l. get_or s k 0 ∷ l) (window_next m (suc k) x s)

window_take : (m n : ℕ) (s : List ℕ) → n ≤ length s → n ≤ m → take n (window m 0 s) ≡ take n s
window_take m zero s h g = refl
window_take zero (suc n) s h g = absurd (not-suc-le-zero g)
window_take (suc m) (suc n) [] h g = absurd (not-suc-le-zero h)
window_take (suc m) (suc n) (x ∷ s) h g =
    ap (λ l. x ∷ l) (ap (take n) (window_next m 0 x s) ∙ window_take m n s (le_of_suc-le-suc h) (le_of_suc-le-suc g))

-- the first byte selects the page that has it for a pre-code
abbrev Front : Page → List ℕ → Type 0
Front page s =
    laid page (get_or s (precodes page) 0) (get_or s (precodes page + 1) 0) (get_or s (precodes page + 2) 0) (get_or s (precodes page + 3) 0) (get_or s (precodes page + 4) 0)
    ≡ window (precodes page + 5) 0 s

page_front : (s : List ℕ) → Front (page_of (get_or s 0 0)) s
page_front s = by_tests (eqb (get_or s 0 0) 0x72) (eqb (get_or s 0 0) 0x90) refl refl
  where
    by_tests : (p q : Bool) → eqb (get_or s 0 0) 0x72 ≡ p → eqb (get_or s 0 0) 0x90 ≡ q → Front (cond p After72 (cond q After90 Plain)) s
    by_tests true q e f = rw (eqb-true (get_or s 0 0) 0x72 e)
    by_tests false true e f = rw (eqb-true (get_or s 0 0) 0x90 f)
    by_tests false false e f = refl

module _ (s : List ℕ) (bytes : Bytes s) (i : Instruction) (n : ℕ) where
  pub encode_bytes : decoded s ≡ Ok (i, n) → bytes_of i ≡ take n s
  encode_bytes f =
      let o = found s i n f in
      let page = page_of (get_or s 0 0) in
      let k = precodes page in
      let same = page_again page _ _ _ _ (bytes (k + 1)) (bytes (k + 2)) (bytes (k + 3)) (bytes (k + 4)) _ (bytes k) in
      by_entry (k + 5) o (rw (page_front s) at same)
    where
      by_entry : (m : ℕ) → Opened s i n → again (entry_in (page_of (get_or s 0 0)) s) ≡ taken (entry_in (page_of (get_or s 0 0)) s) (window m 0 s) → bytes_of i ≡ take n s
      by_entry m o e =
          let whole : bytes_of i ≡ take (length (bytes_of i)) (window m 0 s) = rw o.entry at e in
          let most : length (bytes_of i) ≡ min (length (bytes_of i)) m = ap length whole ∙ length-take _ _ ∙ ap (min (length (bytes_of i))) (window_length m 0 s) in
          let size : length (bytes_of i) ≡ n = o.size in
          let room : n ≤ length s = o.room in
          whole ∙ window_take m (length (bytes_of i)) s (omega arith) (omega arith) ∙ ap (λ k. take k s) size

  -- in the form that encoding gives them: the length, and five bytes, 00 past the length
  pub encode_decoded : decoded s ≡ Ok (i, n) → encoded i ≡ padded (take n s)
  encode_decoded f = ap padded (encode_bytes f)
