-- A record's bytes: what they say, and that they are well formed; so what judging makes of a written line.
use Prim.Native.Nat.{ℕ, zero, suc, ◌+◌, ◌-◌, ◌%◌, ◌<◌, ◌≤◌}
use mathlib.Core.Path.{◌≡◌, refl}
use mathlib.Core.Bool.{true, cond}
use mathlib.Core.List.{List, [], ◌∷◌, ◌++◌}
use native.Mathlib.Omega.{arith}
use lib.Dec.{eqb}
use lib.ListN.{length, length-append}
use lib.Seq.{take_at}
use Rattle.numbers.specs.Folds.{total, first_in}
use Rattle.numbers.specs.Lists.{Bytes}
use Rattle.numbers.specs.Words.{word_at, high, low}
use Rattle.numbers.proofs.WordLaws.{word_high_low}
use Rattle.numbers.proofs.Checking.{under_pass, differ_pass, unless_pass}
use Rattle.numbers.proofs.Folding.{◌&◌}
use Rattle.hex_records.specs.Digits.{all_bytes}
use Rattle.hex_records.specs.Records.{checksum, record_front, record_bytes, line_body}
use Rattle.hex_records.specs.Judging.{line_bytes, length_in, address_in, type_in, data_in, shape_check, open_check, follow_check, form_check, line_check}
use Rattle.hex_records.specs.declared.Place.{Place}
use Rattle.hex_records.proofs.Spelling.{NoLf, more, all_bytes_lem, pairs_spelled, spelled_not_lf, total_last}

-- a record that a line can hold
pub record Holds (address type : ℕ) (contents : List ℕ) : Type 0 where
  pub address_fits : address < 0x10000
  pub type_fits : type < 256
  pub few : length contents < 256
  pub bytes : Bytes contents

module _ (address type : ℕ) (contents : List ℕ) where
  pub record_length : length (record_bytes address type contents) ≡ length contents + 5
  unfolding record_bytes record_front
  record_length = rw (length-append contents (checksum (length contents ∷ high address ∷ low address ∷ type ∷ contents) ∷ [])) (omega arith)

  pub length_of_lem : length_in (record_bytes address type contents) ≡ length contents
  unfolding record_bytes record_front length_in
  length_of_lem = refl

  pub type_of : type_in (record_bytes address type contents) ≡ type
  unfolding record_bytes record_front type_in
  type_of = refl

  pub address_of : address_in (record_bytes address type contents) ≡ address
  unfolding record_bytes record_front address_in word_at
  address_of = word_high_low address

  pub data_of : data_in (record_bytes address type contents) ≡ contents
  unfolding record_bytes record_front data_in length_in
  data_of = take_at contents _ (length contents) refl

  pub sum_of : total (record_bytes address type contents) % 256 ≡ 0
  unfolding record_bytes checksum
  sum_of = rw (total_last (record_front address type contents) (checksum (record_front address type contents))) (omega arith)

  last_byte : (s : List ℕ) (c : ℕ) → Bytes s → c < 256 → Bytes (s ++ c ∷ [])
  last_byte [] c h small zero = small
  last_byte [] c h small (suc k) = omega arith
  last_byte (b ∷ s) c h small zero = h 0
  last_byte (b ∷ s) c h small (suc k) = last_byte s c (λ k. h (suc k)) small k

  front_bytes : Holds address type contents → Bytes (record_front address type contents)
  unfolding record_front high low
  front_bytes h zero = h.few
  front_bytes h (suc zero) = omega (arith, h.address_fits)
  front_bytes h (suc (suc zero)) = omega arith
  front_bytes h (suc (suc (suc zero))) = h.type_fits
  front_bytes h (suc (suc (suc (suc k)))) = h.bytes k

  pub record_bytes_lem : Holds address type contents → Bytes (record_bytes address type contents)
  unfolding record_bytes checksum
  record_bytes_lem h = last_byte (record_front address type contents) (checksum (record_front address type contents)) (front_bytes h) (omega arith)

  pub line_bytes_lem : Holds address type contents → line_bytes (line_body address type contents) ≡ record_bytes address type contents
  unfolding line_bytes line_body
  line_bytes_lem h = pairs_spelled (record_bytes address type contents) (record_bytes_lem h)

  pub line_not_lf : NoLf (line_body address type contents)
  unfolding line_body
  line_not_lf = more refl (spelled_not_lf (record_bytes address type contents))

  -- a record's bytes are well formed, where its shape is right
  pub form_check_lem : all_bytes (record_bytes address type contents) ≡ true → shape_check type (length contents) address ≡ 0 →
      form_check (record_bytes address type contents) ≡ 0
  unfolding form_check first_in
  form_check_lem all shape =
      rw all (unless_pass 30) &
      (differ_pass _ _ 30 (rw (record_length, length_of_lem)) &
      (differ_pass _ _ 30 sum_of &
      (rw (type_of, length_of_lem, address_of) shape & refl)))

  -- and then refused only by its type and its place
  pub line_check_lem : (place : Place) → Holds address type contents →
      open_check place ≡ 0 → shape_check type (length contents) address ≡ 0 → type ≤ 1 → cond (eqb type 0) (follow_check place address) 0 ≡ 0 →
      line_check place (record_bytes address type contents) ≡ 0
  unfolding line_check first_in
  line_check_lem place h isOpen shape small follows =
      isOpen &
      (form_check_lem (all_bytes_lem (record_bytes address type contents) (record_bytes_lem h)) shape &
      (under_pass _ _ 31 (rw type_of small) &
      (rw (type_of, address_of) follows & refl)))
