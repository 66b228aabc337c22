-- Spelling, a turn at a time: the bytes so far, and those that the rest of the text spells, are the whole.
use Prim.Native.Nat.{ℕ, suc, ◌+◌, ◌-◌, ◌*◌, ◌<◌, ◌≤◌}
use mathlib.Core.Path.{◌≡◌, refl, sym, ap, ◌∙◌}
use mathlib.Core.List.{List, [], ◌∷◌, ◌++◌, append_assoc, append-nil}
use native.Mathlib.Numerals.{add-one}
use native.Mathlib.Omega.{arith}
use lib.ListN.{length, get_or, take, drop, set, length-drop, take-append-drop}
use lib.Seq.{drop-cons, drop-drop, drop-set-lt, take-suc-set, take-nil}
use borrow.Author.Tests.{lt-ltb, le-ltb}
use Rattle.hexadecimal.specs.Text.{digit, pair, spelled}

pub two_digits : (c d h l : ℕ) → h ≡ digit c → l ≡ digit d → h < 16 → l < 16 → h * 16 + l ≡ pair c d
unfolding pair
two_digits c d h l eh el a b = rw (← eh, ← el, lt-ltb h 16 a, lt-ltb l 16 b)

pub not_second : (c d h l : ℕ) → h ≡ digit c → l ≡ digit d → h < 16 → 16 ≤ l → 256 ≡ pair c d
unfolding pair
not_second c d h l eh el a b = rw (← eh, ← el, lt-ltb h 16 a, le-ltb l 16 b)

pub not_first : (c d h : ℕ) → h ≡ digit c → 16 ≤ h → 256 ≡ pair c d
unfolding pair
not_first c d h eh a = rw (← eh, le-ltb h 16 a)

next : (s : List ℕ) (i j : ℕ) → j ≡ i + 1 → i < length s → drop i s ≡ get_or s i 0 ∷ drop j s
next s i j e h = rw (e, add-one) (drop-cons s i 0 h)

first_two : (s : List ℕ) (i : ℕ) → i + 1 < length s → drop i s ≡ get_or s i 0 ∷ get_or s (i + 1) 0 ∷ drop (i + 2) s
first_two s i h =
    next s i (i + 1) refl (omega arith) ∙
    ap (λ (l : List ℕ). get_or s i 0 ∷ l) (next s (i + 1) (i + 2) (omega arith) h)

pub byte : (s : List ℕ) (i v : ℕ) → i + 1 < length s → v ≡ pair (get_or s i 0) (get_or s (i + 1) 0) → v < 256
    → spelled (drop i s) ≡ v ∷ spelled (drop (i + 2) s)
unfolding spelled
byte s i v h e small = ap spelled (first_two s i h) ∙ rw (← e, lt-ltb v 256 small)

pub passed : (s : List ℕ) (i v : ℕ) → i + 1 < length s → v ≡ pair (get_or s i 0) (get_or s (i + 1) 0) → 256 ≤ v
    → spelled (drop i s) ≡ spelled (drop (i + 1) s)
unfolding spelled
passed s i v h e large =
    ap spelled (first_two s i h) ∙ rw (← e, le-ltb v 256 large) (sym (ap spelled (next s (i + 1) (i + 2) (omega arith) h)))

short : (s : List ℕ) → length s < 2 → spelled s ≡ []
unfolding spelled
short [] h = refl
short (c ∷ []) h = refl
short (c ∷ d ∷ s) h = let z : ⊥ = omega arith in absurd z

-- the bytes so far, and as many of the rest as there is room for
abbrev pub Whole : List ℕ → List ℕ → List ℕ → ℕ → ℕ → ℕ → Type 0
Whole text bytes whole size n i = take n bytes ++ take (size - n) (spelled (drop i text)) ≡ whole

pub begun : (text bytes : List ℕ) → Whole text bytes (take (length bytes) (spelled text)) (length bytes) 0 0
begun text bytes = let k : length bytes - 0 ≡ length bytes = omega arith in rw k

pub stored : (text bytes after whole : List ℕ) (size n i v : ℕ) → i + 1 < length text → v ≡ pair (get_or text i 0) (get_or text (i + 1) 0) → v < 256
    → n < length bytes → length bytes ≡ size → after ≡ set bytes n v → Whole text bytes whole size n i → Whole text after whole size (n + 1) (i + 2)
stored text bytes after whole size n i v h e small room same ea known =
    let k : size - n ≡ suc (size - suc n) = omega arith in
    rw (ea, add-one n, take-suc-set bytes n v room, append_assoc) (rw (byte text i v h e small, k) at known)

pub skipped : (text bytes whole : List ℕ) (size n i v : ℕ) → i + 1 < length text → v ≡ pair (get_or text i 0) (get_or text (i + 1) 0) → 256 ≤ v
    → Whole text bytes whole size n i → Whole text bytes whole size n (i + 1)
skipped text bytes whole size n i v h e large known = rw (passed text i v h e large) at known

pub full : (text bytes whole : List ℕ) (size n i : ℕ) → n ≡ size → Whole text bytes whole size n i → take n bytes ≡ whole
full text bytes whole size n i e known =
    let k : size - n ≡ 0 = omega arith in
    sym (append-nil (take n bytes)) ∙ (rw k at known)

pub ended : (text bytes whole : List ℕ) (size n i : ℕ) → length text ≤ i + 1 → Whole text bytes whole size n i → take n bytes ≡ whole
ended text bytes whole size n i h known =
    sym (append-nil (take n bytes)) ∙ (rw (short (drop i text) (simp length-drop (omega arith)), take-nil) at known)

-- the bytes after those so far stay
pub after_stored : (entry bytes : List ℕ) (n v : ℕ) → drop n bytes ≡ drop n entry → drop (n + 1) (set bytes n v) ≡ drop (n + 1) entry
after_stored entry bytes n v same =
    drop-set-lt (n + 1) bytes n v (omega arith) ∙ sym (drop-drop 1 n bytes) ∙ ap (drop 1) same ∙ drop-drop 1 n entry

pub both_parts : (entry bytes whole : List ℕ) (n : ℕ) → take n bytes ≡ whole → drop n bytes ≡ drop n entry → bytes ≡ whole ++ drop n entry
both_parts entry bytes whole n front same = sym (take-append-drop n bytes) ∙ rw (front, same)
