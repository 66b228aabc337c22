-- An instruction that was found has bytes, all of them there, and bytes after them do not change it.
use mathlib.Core.Path.{◌≡◌, ap, sym, ◌∙◌}
use mathlib.Core.List.{List, ◌++◌, append_assoc}
use Prim.Native.Nat.{ℕ, ◌<◌, ◌≤◌}
use native.Mathlib.Omega.{arith}
use lib.ListN.{length, take, drop, take-append-drop}
use Rattle.std.specs.Prelude.{Ok}
use Rattle.numbers.specs.Lists.{Bytes}
use Rattle.stm8.specs.Encoding.{bytes_of}
use Rattle.stm8.specs.Decoding.{decoded}
use Rattle.stm8.proofs.Opening.{found}
use Rattle.stm8.proofs.DecodeEncoded.{decode_bytes, bytes_short}
use Rattle.stm8.proofs.EncodeDecoded.{encode_bytes}
use Rattle.stm8.specs.declared.Instruction.{Instruction}

module _ (s : List ℕ) (i : Instruction) (n : ℕ) (f : decoded s ≡ Ok (i, n)) where
  has_bytes : 0 < length (bytes_of i)
  has_bytes = let o = found s i n f in let some : 0 < n = o.some in let size : length (bytes_of i) ≡ n = o.size in omega arith

  pub found_within : (0 < n) × (n ≤ 5) × (n ≤ length s)
  found_within =
      let o = found s i n f in
      let size : length (bytes_of i) ≡ n = o.size in
      let most : length (bytes_of i) ≤ 5 = bytes_short i has_bytes in
      (o.some, omega arith, o.room)

  pub longer : Bytes s → (rest : List ℕ) → decoded (s ++ rest) ≡ Ok (i, n)
  longer bytes rest =
      let front : bytes_of i ≡ take n s = encode_bytes s bytes i n f in
      let whole : s ++ rest ≡ bytes_of i ++ (drop n s ++ rest) =
      ap (λ l. l ++ rest) (sym (take-append-drop n s)) ∙ append_assoc (take n s) (drop n s) rest ∙ ap (λ l. l ++ (drop n s ++ rest)) (sym front) in
      ap decoded whole ∙ decode_bytes i has_bytes (drop n s ++ rest) ∙ ap (λ k. Ok (i, k)) (found s i n f).size
