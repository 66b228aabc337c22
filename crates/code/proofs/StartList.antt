-- The list of a routine's starts holds its starts, rising, and nothing else.
use Prim.Native.Nat.{ℕ, zero, suc, ◌+◌, ◌-◌, ◌<◌, ◌≤◌}
use mathlib.Core.Path.{◌≡◌, refl, ap}
use mathlib.Core.Logic.{by_cases}
use mathlib.Core.List.{List, [], ◌∷◌}
use native.Mathlib.Decide.{ℕ_discrete, dec_lt}
use native.Mathlib.Omega.{arith}
use borrow.Author.Tests.{eq-eqb, ne_eqb, lt-ltb, le-ltb}
use Rattle.std.specs.Prelude.{Ok, Err}
use Rattle.stm8.specs.Decoding.{Decoded}
use Rattle.stm8.specs.declared.Instruction.{Instruction}
use Rattle.image.specs.Image.{start_of, end_of}
use Rattle.code.specs.Code.{instruction_at, Start, begins, follows}
use Rattle.code.specs.Instructions.{In, head, tail, found_size, starts_from, starts_of}
use Rattle.code.proofs.Starts.{same_found, found_inside}

-- each is at least b and above the one before it
pub data Rising : ℕ → List ℕ → Type 0 where
  none : {b : ℕ} → Rising b []
  next : {b o : ℕ} {rest : List ℕ} → b ≤ o → Rising (suc o) rest → Rising b (o ∷ rest)

pub rising_from : {a b : ℕ} {l : List ℕ} → a ≤ b → Rising b l → Rising a l
rising_from h none = none
rising_from {a} h (next {o = o} low rest) = let l : a ≤ o = omega arith in next l rest

-- an instruction stands where there are bytes of one
found_of : (d : Decoded) → (found_size d ≡ 0 → ⊥) → (i : Instruction) × (d ≡ Ok (i, found_size d))
found_of (Ok (i, n)) some = (i, refl)
found_of (Err e) some = absurd (some refl)

bytes_found : {d : Decoded} {i : Instruction} {n : ℕ} → d ≡ Ok (i, n) → found_size d ≡ n
bytes_found e = ap found_size e

pub in_none : {A B : Type 0} {x : B} {l : List B} → l ≡ [] → In x l → A
in_none e head = let z : ◌≡◌ {A = ℕ} 0 1 = cc in absurd (omega arith)
in_none e (tail i) = let z : ◌≡◌ {A = ℕ} 0 1 = cc in absurd (omega arith)

module _ (image : List ℕ) (r : ℕ) where
  no_fuel : (o : ℕ) → starts_from 0 image r o ≡ []
  unfolding starts_from
  no_fuel o = refl

  -- the list from an offset on, by what stands there
  pub data Onward (fuel o : ℕ) : List ℕ → Type 0 where
    last : ((i : Instruction) (n : ℕ) → instruction_at image r o ≡ Ok (i, n) → 0 < n → o + n < end_of image r → ⊥) → Onward fuel o (o ∷ [])
    more : {n : ℕ} {i : Instruction} → instruction_at image r o ≡ Ok (i, n) → 0 < n → o + n < end_of image r →
        Onward fuel o (o ∷ starts_from fuel image r (o + n))

  pub onward : (fuel o : ℕ) → Onward fuel o (starts_from (suc fuel) image r o)
  unfolding starts_from
  onward fuel o =
      let n = found_size (instruction_at image r o) in
      by_cases (ℕ_discrete n 0)
      (λ z. rw (eq-eqb n 0 z) (last (λ i m f some inside. omega (arith, bytes_found f))))
      (λ z. by_cases (dec_lt (o + n) (end_of image r))
      (λ l. rw (ne_eqb n 0 z, lt-ltb _ _ l) (more (found_of (instruction_at image r o) z).1 (omega arith) l))
      (λ l.
      let past : end_of image r ≤ o + n = omega arith in
      rw (ne_eqb n 0 z, le-ltb _ _ past) (last (λ i m f some inside. omega (arith, bytes_found f)))))

  rising_on : {fuel o : ℕ} {l : List ℕ} → Onward fuel o l → ((k : ℕ) → Rising k (starts_from fuel image r k)) → Rising o l
  rising_on {o = o} (last end) rest = let same : o ≤ o = omega arith in next same none
  rising_on {o = o} (more {n} f some inside) rest =
      let same : o ≤ o = omega arith in
      let above : suc o ≤ o + n = omega arith in
      next same (rising_from above (rest (o + n)))

  rising_starts : (fuel o : ℕ) → Rising o (starts_from fuel image r o)
  unfolding starts_from
  rising_starts zero o = none
  rising_starts (suc fuel) o = rising_on (onward fuel o) (rising_starts fuel)

  pub starts_rise : Rising (start_of image r) (starts_of image r)
  unfolding starts_of
  starts_rise = rising_starts _ _

  -- what is listed is a start
  start_on : {fuel o k : ℕ} {l : List ℕ} → Onward fuel o l → ((p : ℕ) → Start image r p → In k (starts_from fuel image r p) → Start image r k) →
      Start image r o → In k l → Start image r k
  start_on (last end) rest s head = s
  start_on (more f some inside) rest s head = s
  start_on (more f some inside) rest s (tail i) = rest _ (follows s f inside) i
  start_on {fuel = fuel} {o = o} {k = k} (last end) rest s (tail i) = elim i [ ]

  starts_listed : (fuel o k : ℕ) → Start image r o → In k (starts_from fuel image r o) → Start image r k
  starts_listed zero o k s i = in_none (no_fuel o) i
  starts_listed (suc fuel) o k s i = start_on (onward fuel o) (λ p. starts_listed fuel p k) s i

  pub listed_start : {o : ℕ} → In o (starts_of image r) → Start image r o
  unfolding starts_of
  listed_start {o} i = starts_listed _ _ o begins i

  -- and a start is listed
  in_front : {fuel o : ℕ} {l : List ℕ} → Onward fuel o l → In o l
  in_front (last end) = head
  in_front (more f some inside) = head

  front_listed : (fuel o : ℕ) → 0 < fuel → In o (starts_from fuel image r o)
  front_listed zero o some = absurd (omega arith)
  front_listed (suc fuel) o some = in_front (onward fuel o)

  module _ {p n : ℕ} {i : Instruction} (f : instruction_at image r p ≡ Ok (i, n)) (inside : p + n < end_of image r) where
    next_on : {fuel o : ℕ} {l : List ℕ} → Onward fuel o l → end_of image r ≤ o + suc fuel →
        ((k : ℕ) → end_of image r ≤ k + fuel → In p (starts_from fuel image r k) → In (p + n) (starts_from fuel image r k)) → In p l → In (p + n) l
    next_on (last end) enough rest head = absurd (end i n f (found_inside image r p f).0 inside)
    next_on {fuel} (more {n = m} g some below) enough rest head =
        let same : m ≡ n = (same_found g f).1 in
        rw same (tail (front_listed fuel (p + n) (omega arith)))
    next_on {fuel} {o} (more {n = m} g some below) enough rest (tail k) = tail (rest (o + m) (omega arith) k)
    next_on {fuel = fuel} {o = o} (last end) enough rest (tail k) = elim k [ ]

    next_listed : (fuel o : ℕ) → end_of image r ≤ o + fuel → In p (starts_from fuel image r o) → In (p + n) (starts_from fuel image r o)
    next_listed zero o enough k = in_none (no_fuel o) k
    next_listed (suc fuel) o enough k = next_on (onward fuel o) enough (λ q. next_listed fuel q) k

  pub start_listed : start_of image r < end_of image r → {o : ℕ} → Start image r o → In o (starts_of image r)
  unfolding starts_of
  start_listed some begins = front_listed _ _ (omega arith)
  start_listed some (follows s f inside) =
      next_listed f inside (end_of image r - start_of image r) (start_of image r) (omega arith) (start_listed some s)
