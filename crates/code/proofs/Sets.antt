-- Decoding by the set of a version: what it has of the whole map, and what it leaves out.
use Prim.Native.Nat.{ℕ, ◌-◌, ◌<◌}
use mathlib.Core.Path.{◌≡◌, refl, ap, sym, ◌∙◌}
use mathlib.Core.Bool.{Bool, true, false, cond, not, false≢true}
use mathlib.Core.List.{List, [], ◌∷◌}
use native.Mathlib.Omega.{arith}
use borrow.Author.Tests.{eqb-true, ne_eqb, lt-leb}
use lib.Dec.{eqb, leb, ltb}
use lib.ListN.{get_or, length, take, drop}
use Rattle.std.specs.Prelude.{Ok, Err}
use Rattle.numbers.specs.Lists.{Bytes}
use Rattle.numbers.proofs.Computing.{below}
use Rattle.stm8.specs.OpcodeMap.{Page, Plain, After72, After90, Entry, Blank, Is, entry}
use Rattle.stm8.specs.Decoding.{page_of, precodes, entry_in, length_of, sized, Decoded, decoded_in, decoded}
use Rattle.stm8.specs.Encoding.{bytes_of}
use Rattle.stm8.specs.Effects.{effect}
use Rattle.stm8.specs.declared.Instruction.{Instruction}
use Rattle.stm8.specs.declared.DecodeError.TheVariants.{Outside, Truncated}
use Rattle.stm8.proofs.Opening.{one_found, found}
use Rattle.image.specs.Image.{version_of, code_of}
use Rattle.code.specs.Set.{is_callr, allowed, entry_for, decoded_for}
use Rattle.code.specs.Code.{decoded_at}
use Rattle.code.specs.Internal.{without_callr, left_out}

-- Version 0001, and every other but 0002, has the whole map.
pub whole_map : (version : ℕ) → (version ≡ 0x0002 → ⊥) → (s : List ℕ) → decoded_for version s ≡ decoded s
unfolding decoded_for decoded
whole_map version other s =
    let page = page_of (get_or s 0 0) in
    ap (λ n. decoded_in page n s) (same (entry_in page s))
  where
    same : (e : Entry) → length_of (entry_for version e) ≡ length_of e
    same Blank = refl
    same (Is i) = rw (ne_eqb version 0x0002 other) (in_any (is_callr (effect i).flow))
      where
        in_any : (callr : Bool) → length_of (cond (cond callr true true) (Is i) Blank) ≡ length (bytes_of i)
        in_any true = refl
        in_any false = refl

-- So at version 0001 nothing changed: all that asks what stands in an image's code asks `decoded_at`, and there it is what the map has.
pub first_version : (image : List ℕ) → version_of image ≡ 0x0001 → (end o : ℕ) →
    decoded_at image end o ≡ decoded (take (end - o) (drop o (code_of image)))
unfolding decoded_at
first_version image first end o = whole_map (version_of image) (λ second. omega (arith, first, second)) (take (end - o) (drop o (code_of image)))

-- What is found by a version's set is what the map has there, and an instruction of the set.
module _ (version : ℕ) (i : Instruction) (n : ℕ) where
  -- no instruction of the map is found as another one
  same_one : (j : Instruction) (cut none short : Bool) (m : ℕ) →
      ◌≡◌ {A = Decoded} (cond cut (Err Truncated) (cond none (Err Outside) (cond short (Err Truncated) (Ok (j, m))))) (Ok (i, n)) → j ≡ i
  same_one j true none short m f = cc
  same_one j false true short m f = cc
  same_one j false false true m f = cc
  same_one j false false false m f = (one_found f).0

  -- and none that is left out
  kept : (j : Instruction) (t cut : Bool) (room : ℕ) → allowed version j ≡ t →
      cond cut (Err Truncated) (sized (length_of (cond t (Is j) Blank)) (Is j) room) ≡ Ok (i, n) →
      (cond cut (Err Truncated) (sized (length (bytes_of j)) (Is j) room) ≡ Ok (i, n)) × (allowed version j ≡ true)
  kept j true cut room e f = (f, e)
  kept j false true room e f = cc
  kept j false false room e f = cc

  entry_found : (e : Entry) (cut : Bool) (room : ℕ) → cond cut (Err Truncated) (sized (length_of (entry_for version e)) e room) ≡ Ok (i, n) →
      (cond cut (Err Truncated) (sized (length_of e) e room) ≡ Ok (i, n)) × (allowed version i ≡ true)
  entry_found Blank true room f = cc
  entry_found Blank false room f = cc
  entry_found (Is j) cut room f =
      let k = kept j (allowed version j) cut room refl f in
      let m = length (bytes_of j) in
      (k.0, rw (← same_one j cut (eqb m 0) (ltb room m) m k.0) k.1)

  pub found_in_set : (s : List ℕ) → decoded_for version s ≡ Ok (i, n) → (decoded s ≡ Ok (i, n)) × (allowed version i ≡ true)
  unfolding decoded_for decoded
  found_in_set s f = let page = page_of (get_or s 0 0) in entry_found (entry_in page s) (leb (length s) (precodes page)) (length s) f

  -- and the other way round
  pub set_has : (s : List ℕ) → decoded s ≡ Ok (i, n) → allowed version i ≡ true → decoded_for version s ≡ Ok (i, n)
  unfolding decoded_for decoded
  set_has s f in_set =
      let page = page_of (get_or s 0 0) in
      let whole : length_of (entry_for version (entry_in page s)) ≡ length_of (entry_in page s) = rw ((found s i n f).entry, in_set) in
      ap (λ k. decoded_in page k s) whole ∙ f

-- CALLR stands at AD, without pre-code: the computed test over all op-codes.
abbrev pub entry_callr : Entry → Bool
entry_callr Blank = false
entry_callr (Is i) = is_callr (effect i).flow

abbrev pub callr_at : Page → ℕ → Bool
callr_at Plain op = eqb op 0xAD
callr_at After72 op = false
callr_at After90 op = false

pub callr_at_lem : (page : Page) (a b c d op : ℕ) → op < 256 → entry_callr (entry page op a b c d) ≡ callr_at page op
callr_at_lem Plain a b c d = below 255 (λ op. entry_callr (entry Plain op a b c d)) (callr_at Plain) refl
callr_at_lem After72 a b c d = below 255 (λ op. entry_callr (entry After72 op a b c d)) (callr_at After72) refl
callr_at_lem After90 a b c d = below 255 (λ op. entry_callr (entry After90 op a b c d)) (callr_at After90) refl

-- where it is left out its length is 0, and every other entry has its own
pub length_for : (version : ℕ) (e : Entry) → length_of (entry_for version e) ≡ cond (cond (entry_callr e) (without_callr version) false) 0 (length_of e)
length_for version Blank = refl
length_for version (Is i) = go (eqb version 0x0002) (is_callr (effect i).flow)
  where
    go : (second callr : Bool) →
        length_of (cond (cond callr (not second) true) (Is i) Blank) ≡ cond (cond callr (not (not second)) false) 0 (length (bytes_of i))
    go true true = refl
    go false true = refl
    go second false = refl

-- among bytes it is told by the first
first_tells : (s : List ℕ) → let page = page_of (get_or s 0 0) in callr_at page (get_or s (precodes page) 0) ≡ eqb (get_or s 0 0) 0xAD
first_tells s = go (eqb (get_or s 0 0) 0x72) (eqb (get_or s 0 0) 0x90) refl refl
  where
    go : (p q : Bool) → eqb (get_or s 0 0) 0x72 ≡ p → eqb (get_or s 0 0) 0x90 ≡ q →
        let page = cond p After72 (cond q After90 Plain) in callr_at page (get_or s (precodes page) 0) ≡ eqb (get_or s 0 0) 0xAD
    go true q e f = rw (eqb-true (get_or s 0 0) 0x72 e)
    go false true e f = rw (eqb-true (get_or s 0 0) 0x90 f)
    go false false e f = refl

has_byte : (s : List ℕ) → get_or s 0 0 ≡ 0xAD → 0 < length s
has_byte [] e = absurd (omega (arith, e))
has_byte (b ∷ s) e = omega arith

-- So bytes that begin with AD are outside the set of version 0002, however few they are, and all others are what the map has.
pub decoded_for_lem : (version : ℕ) (s : List ℕ) → Bytes s → decoded_for version s ≡ cond (left_out version (get_or s 0 0)) (Err Outside) (decoded s)
unfolding decoded_for decoded
decoded_for_lem version s bytes =
    let page = page_of (get_or s 0 0) in
    let e = entry_in page s in
    let callr = callr_at_lem page _ _ _ _ _ (bytes (precodes page)) ∙ first_tells s in
    ap (λ n. decoded_in page n s) (length_for version e ∙ ap (λ t. cond (cond t (without_callr version) false) 0 (length_of e)) callr) ∙
    by_first (length_of e) (eqb (get_or s 0 0) 0xAD) (without_callr version) refl
  where
    by_first : (n : ℕ) (ad out : Bool) → eqb (get_or s 0 0) 0xAD ≡ ad →
        let page = page_of (get_or s 0 0) in decoded_in page (cond (cond ad out false) 0 n) s ≡ cond (cond ad out false) (Err Outside) (decoded_in page n s)
    by_first n true true e =
        let ad = eqb-true (get_or s 0 0) 0xAD e in
        let first : precodes (page_of (get_or s 0 0)) ≡ 0 = rw ad in
        rw (first, lt-leb (length s) 0 (has_byte s ad))
    by_first n true false e = refl
    by_first n false out e = refl

-- and an instruction of the map that the version does not allow is outside its set
pub not_allowed : (version : ℕ) (s : List ℕ) → Bytes s → (i : Instruction) (n : ℕ) → decoded s ≡ Ok (i, n) → allowed version i ≡ false →
    decoded_for version s ≡ Err Outside
not_allowed version s bytes i n f none = go (left_out version (get_or s 0 0)) (decoded_for_lem version s bytes)
  where
    go : (t : Bool) → decoded_for version s ≡ cond t (Err Outside) (decoded s) → decoded_for version s ≡ Err Outside
    go true e = e
    go false e = absurd (false≢true (sym none ∙ (found_in_set version i n s (e ∙ f)).1))
