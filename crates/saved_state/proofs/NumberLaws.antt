-- A number and its bytes, there and back, for any width.
use Prim.Native.Nat.{ℕ, zero, suc, ◌+◌, ◌*◌, ◌/◌, ◌%◌, ◌<◌, ◌≤◌}
use mathlib.Core.Path.{◌≡◌, refl, sym, ap, ◌∙◌}
use mathlib.Core.List.{List, [], ◌∷◌, ◌++◌, append_assoc, append-nil}
use native.Mathlib.Nat.{add-suc, add-zero, not-suc-le-zero}
use native.Mathlib.Omega.{arith}
use lib.ListN.{length, get_or, set, take, drop, length-append, get_or-append}
use lib.Seq.{take-suc, get_or_at, set_split, drop_at, length-take-le}
use Rattle.numbers.specs.Lists.{Bytes}
use Rattle.saved_state.specs.Sls.{number_bytes, number_at}

-- how many numbers so many bytes can tell apart
abbrev pub range : ℕ → ℕ
range zero = 1
range (suc width) = range width * 256

pub range_rises : (v w : ℕ) → v ≤ w → range v ≤ range w
range_rises zero zero h = omega arith
range_rises zero (suc w) h = omega (arith, range_rises zero w (omega arith))
range_rises (suc v) zero h = absurd (not-suc-le-zero h)
range_rises (suc v) (suc w) h = omega (arith, range_rises v w (omega arith))

pub length_number : (width n : ℕ) → length (number_bytes width n) ≡ width
unfolding number_bytes
length_number zero n = refl
length_number (suc width) n = rw (length-append, length_number width (n / 256)) (omega arith)

-- a number in bytes is in range
pub number_below : (bytes : List ℕ) → Bytes bytes → (at width : ℕ) → number_at bytes at width < range width
unfolding number_at
number_below bytes small at zero = omega arith
number_below bytes small at (suc width) = omega (arith, number_below bytes small at width, small (at + width))

-- and is not changed by what comes after it
number_front : (front back : List ℕ) (at width : ℕ) → at + width ≤ length front → number_at (front ++ back) at width ≡ number_at front at width
unfolding number_at
number_front front back at zero h = refl
number_front front back at (suc width) h =
    rw (number_front front back at width (omega arith), get_or-append front back 0 (at + width) (omega arith))

-- the bytes of a number are read as it
pub number_reads : (front : List ℕ) (width n : ℕ) → n < range width → number_at (front ++ number_bytes width n) (length front) width ≡ n
unfolding number_at number_bytes
number_reads front zero n h = omega arith
number_reads front (suc width) n h =
    let upper = number_bytes width (n / 256) in
    let long : length (front ++ upper) ≡ length front + width = rw (length-append, length_number width (n / 256)) in
    let same : front ++ number_bytes (suc width) n ≡ (front ++ upper) ++ (n % 256 ∷ []) = sym (append_assoc front upper (n % 256 ∷ [])) in
    let rest : number_at ((front ++ upper) ++ (n % 256 ∷ [])) (length front) (suc width) ≡ n =
    rw (
      number_front (front ++ upper) (n % 256 ∷ []) (length front) width (omega arith),
      get_or_at (front ++ upper) (n % 256) [] 0 (length front + width) long,
      number_reads front width (n / 256) (omega arith),
    )
    (omega arith) in
    ap (λ (bytes : List ℕ). number_at bytes (length front) (suc width)) same ∙ rest

-- and bytes are those of the number in them
whole : (n b : ℕ) → b < 256 → (n * 256 + b) / 256 ≡ n
whole n b h = omega arith

last : (n b : ℕ) → b < 256 → (n * 256 + b) % 256 ≡ b
last n b h = omega arith

pub number_writes : (bytes : List ℕ) → Bytes bytes → (at width : ℕ) → at + width ≤ length bytes →
    take (at + width) bytes ≡ take at bytes ++ number_bytes width (number_at bytes at width)
unfolding number_at number_bytes
number_writes bytes small at zero h = rw (add-zero, append-nil)
number_writes bytes small at (suc width) h =
    let n = number_at bytes at width in
    let b = get_or bytes (at + width) 0 in
    rw (
      add-suc at width,
      take-suc bytes (at + width) 0 (omega arith),
      whole n b (small (at + width)),
      last n b (small (at + width)),
      number_writes bytes small at width (omega arith),
    )
    (append_assoc (take at bytes) (number_bytes width n) (b ∷ []))

-- The last byte that is left to write, put in its place.
put_front : (bytes : List ℕ) (at byte : ℕ) → at < length bytes → drop at (set bytes at byte) ≡ byte ∷ drop (suc at) bytes
put_front bytes at byte below =
    rw (set_split bytes at byte below) (drop_at (take at bytes) (byte ∷ drop (suc at) bytes) at (length-take-le at bytes (omega arith)))

pub written_last : (bytes : List ℕ) (at left : ℕ) → at < length bytes →
    number_bytes at (left / 256) ++ drop at (set bytes at (left % 256)) ≡ number_bytes (suc at) left ++ drop (suc at) bytes
unfolding number_bytes
written_last bytes at left below =
    rw (put_front bytes at (left % 256) below) (sym (append_assoc (number_bytes at (left / 256)) (left % 256 ∷ []) (drop (suc at) bytes)))
