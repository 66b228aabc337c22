-- The bytes of a line together, one by one.
use Prim.Native.Nat.{ℕ, ◌+◌, ◌%◌, ◌<◌, ◌≤◌}
use mathlib.Core.Path.{◌≡◌, refl, sym, ◌∙◌}
use mathlib.Core.Bool.{Bool, true, false, cond}
use mathlib.Core.List.{List}
use native.Mathlib.Omega.{arith}
use lib.Dec.{ltb}
use lib.ListN.{length, get_or, take}
use lib.Seq.{take_all}
use Rattle.numbers.specs.Folds.{total}
use Rattle.hex_records.specs.Digits.{all_bytes}
use Rattle.hex_records.specs.Internal.{summed_of}
use Rattle.hex_records.specs.declared.Summed.{Summed}
use Rattle.hex_records.proofs.Values.{all_more, sum_more}

module _ (bytes : List ℕ) (n : ℕ) where
  pub record Sums (sum : ℕ) (good : Bool) (k : ℕ) : Type 0 where
    pub count : n ≡ length bytes
    pub inside : k ≤ n
    pub small : sum < 256
    pub total' : sum ≡ total (take k bytes) % 256
    pub good' : good ≡ all_bytes (take k bytes)

  pub sums_begun : n ≡ length bytes → Sums 0 true 0
  unfolding total all_bytes
  sums_begun e = record { count = e; inside = omega arith; small = omega arith; total' = refl; good' = refl }

  pub sums_more : (sum : ℕ) (good : Bool) (k v : ℕ) (g : Bool) → k < n → v ≡ get_or bytes k 0 → g ≡ cond (ltb v 256) good false →
      Sums sum good k → Sums ((sum + v) % 256) g (k + 1)
  sums_more sum good k v g h e f s =
      let inside : k < length bytes = omega (arith, h, s.count) in
      record {
        count = s.count;
        inside = omega (arith, h);
        small = omega arith;
        total' = sum_more bytes k v sum inside e s.total';
        good' = f ∙ rw s.good' (sym (all_more bytes k v inside e));
      }

  pub sums_all : (sum : ℕ) (good : Bool) (k : ℕ) → n ≤ k → Sums sum good k → ◌≡◌ {A = Summed} (record { sum = sum; good = good }) (summed_of bytes)
  unfolding summed_of
  sums_all sum good k h s =
      let whole : take k bytes ≡ bytes = take_all k bytes (omega (arith, h, s.count)) in
      rw (s.total', s.good', whole)
