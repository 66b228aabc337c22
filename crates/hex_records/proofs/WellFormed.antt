-- What a well-formed line says, looked up in its characters.
use Prim.Native.Nat.{ℕ, ◌+◌, ◌<◌, ◌≤◌}
use mathlib.Core.Path.{◌≡◌, sym, ap, ◌∙◌}
use mathlib.Core.Bool.{Bool, true, false, cond}
use mathlib.Core.List.{List}
use native.Mathlib.Omega.{arith}
use lib.ListN.{length, get_or, drop, length-drop}
use lib.Seq.{get_or-take, get_or-drop}
use Rattle.numbers.specs.Lists.{Bytes}
use Rattle.hex_records.specs.Digits.{pairs}
use Rattle.hex_records.specs.Internal.{lone}
use Rattle.hex_records.specs.Judging.{line_bytes, length_in, data_in, form_check}
use Rattle.hex_records.proofs.Forms.{formed, colon, all_at, parts}
use Rattle.hex_records.proofs.Judged.{colon_first, colon_bytes}
use Rattle.hex_records.proofs.Values.{pairs_count}

module _ (body : List ℕ) (good : form_check (line_bytes body) ≡ 0) where
  first_colon : get_or body 0 0 ≡ 0x3A
  first_colon = ap (λ (l : List ℕ). get_or l 0 0) (colon body (formed (line_bytes body) good))

  pub some_character : 1 ≤ length body
  some_character = colon_first body first_colon

  pub value_in : (k v : ℕ) → v ≡ get_or (pairs (drop 1 body)) k 0 → v ≡ get_or (line_bytes body) k 0
  value_in k v e = e ∙ ap (λ (l : List ℕ). get_or l k 0) (sym (colon_bytes body first_colon))

  pub bytes_in : Bytes (line_bytes body)
  bytes_in = all_at (line_bytes body) (formed (line_bytes body) good).all

  pub data_count : length (data_in (line_bytes body)) ≡ length_in (line_bytes body)
  data_count = let f = formed (line_bytes body) good in (parts (line_bytes body) f.all f.size f.sum).size

  pub data_at : (k : ℕ) → k < length_in (line_bytes body) → get_or (line_bytes body) (4 + k) 0 ≡ get_or (data_in (line_bytes body)) k 0
  unfolding data_in
  data_at k h = sym (get_or-take (length_in (line_bytes body)) (drop 4 (line_bytes body)) k 0 h ∙ get_or-drop 4 (line_bytes body) k 0)

  -- a record's data has fewer bytes than its line has characters
  pub data_few : length_in (line_bytes body) ≤ length body
  data_few =
      let rest = drop 1 body in
      let size : length (line_bytes body) ≡ length (pairs rest) = ap length (colon_bytes body first_colon) in
      let one = one_at_most (lone rest) in
      omega (arith, (formed (line_bytes body) good).size, size, pairs_count rest, one, length-drop 1 body)
    where
      one_at_most : (t : Bool) → cond t 1 0 ≤ 1
      one_at_most true = omega arith
      one_at_most false = omega arith
