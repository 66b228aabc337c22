-- The bytes of a line, looked up in its characters.
use Prim.Native.Nat.{ℕ, zero, suc, ◌+◌, ◌-◌, ◌*◌, ◌/◌, ◌%◌, ◌<◌, ◌≤◌}
use mathlib.Core.Path.{◌≡◌, refl, sym, ap, ◌∙◌}
use mathlib.Core.Bool.{Bool, true, false, cond, not}
use mathlib.Core.List.{List, [], ◌∷◌, ◌++◌}
use native.Mathlib.Omega.{arith}
use native.Mathlib.Numerals.{add-one}
use lib.Dec.{eqb, ltb}
use lib.ListN.{length, get_or, take}
use lib.Seq.{take-suc}
use borrow.Author.Tests.{ltb-true}
use Rattle.numbers.specs.Folds.{total}
use Rattle.numbers.proofs.Folding.{total_more}
use Rattle.numbers.proofs.Checking.{by_test}
use Rattle.hexadecimal.specs.Text.{digit, pair}
use Rattle.hex_records.specs.Digits.{capital, byte_of, pairs, all_bytes}
use Rattle.hex_records.specs.Internal.{lone}

pub lone_even : (s : List ℕ) → length s % 2 ≡ 0 → lone s ≡ false
unfolding lone
lone_even [] e = refl
lone_even (c ∷ []) e = let z : ⊥ = omega (arith, e) in absurd z
lone_even (c ∷ d ∷ s) e = lone_even s (omega (arith, e))

pub lone_odd : (s : List ℕ) (k : ℕ) → length s ≡ suc k → k % 2 ≡ 0 → lone s ≡ not (eqb (get_or s k 0) 0x0D)
unfolding lone
lone_odd [] k e odd = let z : ⊥ = omega (arith, e) in absurd z
lone_odd (c ∷ []) zero e odd = refl
lone_odd (c ∷ []) (suc k) e odd = let z : ⊥ = omega (arith, e) in absurd z
lone_odd (c ∷ d ∷ s) zero e odd = let z : ⊥ = omega (arith, e) in absurd z
lone_odd (c ∷ d ∷ s) (suc zero) e odd = let z : ⊥ = omega (arith, odd) in absurd z
lone_odd (c ∷ d ∷ s) (suc (suc k)) e odd = lone_odd s k (omega (arith, e)) (omega (arith, odd))

last_count : (c : ℕ) → length {A = ℕ} (cond (eqb c 0x0D) [] (256 ∷ [])) ≡ cond (not (eqb c 0x0D)) 1 0
last_count c = go (eqb c 0x0D)
  where
    go : (t : Bool) → length {A = ℕ} (cond t [] (256 ∷ [])) ≡ cond (not t) 1 0
    go true = refl
    go false = refl

pub pairs_count : (s : List ℕ) → length (pairs s) ≡ length s / 2 + cond (lone s) 1 0
unfolding pairs lone
pairs_count [] = omega arith
pairs_count (c ∷ []) = omega (arith, last_count c)
pairs_count (c ∷ d ∷ s) = omega (arith, pairs_count s)

pub value_two : (s : List ℕ) (k : ℕ) → k < length s / 2 → get_or (pairs s) k 0 ≡ byte_of (get_or s (2 * k) 0) (get_or s (2 * k + 1) 0)
unfolding pairs
value_two [] k h = let z : ⊥ = omega (arith, h) in absurd z
value_two (c ∷ []) k h = let z : ⊥ = omega (arith, h) in absurd z
value_two (c ∷ d ∷ s) zero h = refl
value_two (c ∷ d ∷ s) (suc k) h =
    let i : 2 * suc k ≡ suc (suc (2 * k)) = omega arith in
    let j : suc (suc (2 * k)) + 1 ≡ suc (suc (2 * k + 1)) = omega arith in
    rw (i, j) (value_two s k (omega (arith, h)))

last_value : (t : Bool) (k : ℕ) → k < length {A = ℕ} (cond t [] (256 ∷ [])) → get_or {A = ℕ} (cond t [] (256 ∷ [])) k 0 ≡ 256
last_value true k h = let z : ⊥ = omega (arith, h) in absurd z
last_value false zero h = refl
last_value false (suc k) h = let z : ⊥ = omega (arith, h) in absurd z

pub value_last : (s : List ℕ) (k : ℕ) → length s / 2 ≤ k → k < length (pairs s) → get_or (pairs s) k 0 ≡ 256
unfolding pairs
value_last [] k g h = let z : ⊥ = omega (arith, h) in absurd z
value_last (c ∷ []) k g h = last_value (eqb c 0x0D) k h
value_last (c ∷ d ∷ s) zero g h = let z : ⊥ = omega (arith, g) in absurd z
value_last (c ∷ d ∷ s) (suc k) g h = value_last s k (omega (arith, g)) (omega (arith, h))

pub value_none : (l : List ℕ) (k : ℕ) → length l ≤ k → get_or l k 0 ≡ 0
value_none [] k h = refl
value_none (b ∷ l) zero h = let z : ⊥ = omega (arith, h) in absurd z
value_none (b ∷ l) (suc k) h = value_none l k (omega (arith, h))

-- by the count that was found
pub counted_last : (s : List ℕ) (k n : ℕ) → n ≡ length (pairs s) → length s / 2 ≤ k → k < n → 256 ≡ get_or (pairs s) k 0
counted_last s k n e g h = sym (value_last s k g (omega (arith, e, h)))

pub counted_none : (s : List ℕ) (k n : ℕ) → n ≡ length (pairs s) → n ≤ k → 0 ≡ get_or (pairs s) k 0
counted_none s k n e h = sym (value_none (pairs s) k (omega (arith, e, h)))

pair_small : (c d : ℕ) → pair c d ≤ 256
unfolding pair
pair_small c d =
    by_test (λ (n : ℕ). n ≤ 256) (ltb (digit c) 16)
    (λ p. by_test (λ (n : ℕ). n ≤ 256) (ltb (digit d) 16) (λ q. small (digit c) (digit d) p q) (λ _. omega arith))
    (λ _. omega arith)
  where
    small : (a b : ℕ) → ltb a 16 ≡ true → ltb b 16 ≡ true → a * 16 + b ≤ 256
    small a b p q = omega (arith, ltb-true a 16 p, ltb-true b 16 q)

last_small : (t : Bool) (k : ℕ) → get_or {A = ℕ} (cond t [] (256 ∷ [])) k 0 ≤ 256
last_small true k = omega arith
last_small false zero = omega arith
last_small false (suc k) = omega arith

pub value_small : (s : List ℕ) (k : ℕ) → get_or (pairs s) k 0 ≤ 256
unfolding pairs byte_of
value_small [] k = omega arith
value_small (c ∷ []) k = last_small (eqb c 0x0D) k
value_small (c ∷ d ∷ s) zero = pair_small (capital c) (capital d)
value_small (c ∷ d ∷ s) (suc k) = value_small s k

-- one more byte
all_last : (s : List ℕ) (b : ℕ) → all_bytes (s ++ b ∷ []) ≡ cond (ltb b 256) (all_bytes s) false
unfolding all_bytes
all_last [] b = refl
all_last (a ∷ s) b = go (ltb a 256) (ltb b 256) (all_bytes (s ++ b ∷ [])) (all_bytes s) (all_last s b)
  where
    go : (p q x y : Bool) → x ≡ cond q y false → cond p x false ≡ cond q (cond p y false) false
    go true true x y e = e
    go true false x y e = e
    go false true x y e = refl
    go false false x y e = refl

pub all_more : (l : List ℕ) (k v : ℕ) → k < length l → v ≡ get_or l k 0 → all_bytes (take (k + 1) l) ≡ cond (ltb v 256) (all_bytes (take k l)) false
all_more l k v h e = rw (e, add-one) (ap all_bytes (take-suc l k 0 h) ∙ all_last (take k l) (get_or l k 0))

pub sum_more : (l : List ℕ) (k v sum : ℕ) → k < length l → v ≡ get_or l k 0 → sum ≡ total (take k l) % 256 → (sum + v) % 256 ≡ total (take (k + 1) l) % 256
sum_more l k v sum h e known = omega (arith, total_more l k 0 h, e, known)
