-- A line's judgement from the bytes that were looked up.
use Prim.Native.Nat.{ℕ, ◌+◌, ◌*◌, ◌≤◌}
use mathlib.Core.Path.{◌≡◌, refl, sym, ap}
use mathlib.Core.Bool.{cond}
use mathlib.Core.List.{List, [], ◌∷◌}
use native.Mathlib.Omega.{arith}
use lib.Dec.{eqb}
use lib.ListN.{length, get_or, drop}
use borrow.Author.Tests.{ne_eqb}
use Rattle.numbers.specs.Checks.{first, under, unless, differ}
use Rattle.numbers.specs.Folds.{first_in}
use Rattle.numbers.specs.Words.{word, word_at}
use Rattle.numbers.proofs.Folding.{first_none}
use Rattle.hex_records.specs.Digits.{pairs, all_bytes}
use Rattle.hex_records.specs.Judging.{line_bytes, length_in, address_in, type_in, shape_check, open_check, follow_check, form_check, line_check}
use Rattle.hex_records.specs.Internal.{summed_of}
use Rattle.hex_records.specs.declared.Summed.{Summed}
use Rattle.hex_records.proofs.Refusals.{by_form}
use Rattle.hex_records.specs.declared.Place.{Place}

pub rest_check : (place : Place) (bytes : List ℕ) (all : Summed) (n h l kind : ℕ) → all ≡ summed_of bytes → n ≡ get_or bytes 0 0 → h ≡ get_or bytes 1 0 →
    l ≡ get_or bytes 2 0 → kind ≡ get_or bytes 3 0 →
    first (open_check place)
    (first
    (first (unless all.good 30) (first (differ (length bytes) (n + 5) 30) (first (differ all.sum 0 30) (shape_check kind n (h * 256 + l)))))
    (first (under 1 kind 31) (cond (eqb kind 0) (follow_check place (h * 256 + l)) 0))) ≡
    line_check place bytes
unfolding line_check form_check first_in length_in address_in type_in word_at word summed_of
rest_check place bytes all n h l kind e en eh el ek =
    rw (
      e,
      en,
      eh,
      el,
      ek,
      first_none (shape_check (get_or bytes 3 0) (get_or bytes 0 0) (get_or bytes 1 0 * 256 + get_or bytes 2 0)),
      first_none (cond (eqb (get_or bytes 3 0) 0) (follow_check place (get_or bytes 1 0 * 256 + get_or bytes 2 0)) 0),
    )

-- a line without a colon has no bytes
none_fails : form_check [] ≡ 30
unfolding form_check first_in all_bytes length_in first unless differ
none_fails = refl

pub no_colon : (place : Place) (body : List ℕ) (c : ℕ) → c ≡ get_or body 0 0 → (c ≡ 0x3A → ⊥) → 30 ≡ line_check place (line_bytes body)
unfolding line_bytes
no_colon place [] c e bad = sym (by_form place [] none_fails)
no_colon place (b ∷ body) c e bad = rw (← e, ne_eqb c 0x3A bad) (sym (by_form place [] none_fails))

pub colon_first : (body : List ℕ) → get_or body 0 0 ≡ 0x3A → 1 ≤ length body
colon_first [] e = let z : ⊥ = omega (arith, e) in absurd z
colon_first (b ∷ body) e = omega arith

pub colon_bytes : (body : List ℕ) → get_or body 0 0 ≡ 0x3A → line_bytes body ≡ pairs (drop 1 body)
unfolding line_bytes
colon_bytes [] e = let z : ⊥ = omega (arith, e) in absurd z
colon_bytes (b ∷ body) e = rw (e)

pub colon_check : (place : Place) (body : List ℕ) → get_or body 0 0 ≡ 0x3A → line_check place (pairs (drop 1 body)) ≡ line_check place (line_bytes body)
colon_check place body e = ap (line_check place) (sym (colon_bytes body e))
