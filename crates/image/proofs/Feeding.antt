-- The state after a list of lengths, whatever the list: its sum, and whether one of them was 0.
use Rattle.std.proofs.Common.{◌≡◌, ℕ, zero, suc, ◌+◌, ◌*◌, ◌%◌, ◌<◌, ◌≤◌, Bool, true, false, cond, not, eqb, ltb, ◌⊎◌, List, [], ◌∷◌, ◌++◌, map, length, get_or, take, set, sym, refl, ap, ◌∙◌, inl, inr, ⊎_elim, mod-eq_of_lt, zero-add, add-one, arith, get_or-set_other, take-suc, get_or-set_same, below_more, le-ltb, eq-eqb, ne_eqb, eqb-true}
use mathlib.Core.List.{foldl}
use Rattle.numbers.specs.Checks.{first, under, unless}
use Rattle.numbers.specs.Folds.{total, first_in}
use Rattle.numbers.proofs.Folding.{first_none, first_assoc}
use Rattle.numbers.specs.Words.{word_at}
use Rattle.image.specs.Image.{count_of, lengths_of, length_at, start_of}
use Rattle.image.specs.Lengths.{unfed, fed, cut, after_all, SomeZero, BeginsTo16}
use Rattle.image.specs.Validation.{length_check, lengths_check, header_check}
use Rattle.image.specs.declared.lengths.LengthState.{LengthState}
use Rattle.image.proofs.Measuring.{lengths_count, length_listed}

-- a sum under 2^32 is not cut
pub cut_whole : (s : LengthState) → s.sum < 0x100000000 → cut s ≡ s
cut_whole s h = rw (mod-eq_of_lt h)

fed_append : (s : LengthState) (a b : List ℕ) → foldl fed s (a ++ b) ≡ foldl fed (foldl fed s a) b
fed_append s [] b = refl
fed_append s (n ∷ a) b = fed_append (fed s n) a b

-- one length more
pub fed_more : (l : List ℕ) (k : ℕ) → k < length l → after_all (take (k + 1) l) ≡ fed (after_all (take k l)) (get_or l k 0)
unfolding after_all
fed_more l k h = rw (add-one, take-suc l k 0 h) (fed_append unfed (take k l) (get_or l k 0 ∷ []))

-- the sum is the list's
sum_from : (s : LengthState) (l : List ℕ) → (foldl fed s l).sum ≡ s.sum + total l
unfolding total
sum_from s [] = omega arith
sum_from s (n ∷ l) = let rest = sum_from (fed s n) l in omega (arith, rest)

pub sum_all : (l : List ℕ) → (after_all l).sum ≡ total l
unfolding after_all
sum_all l = sum_from unfed l ∙ zero-add (total l)

-- the flag is set exactly where some length is 0
set_by : (n : ℕ) (e : Bool) → cond (eqb n 0) true e ≡ true → (n ≡ 0) ⊎ (e ≡ true)
set_by n e h = go (eqb n 0) refl h
  where
    go : (t : Bool) → eqb n 0 ≡ t → cond t true e ≡ true → (n ≡ 0) ⊎ (e ≡ true)
    go true p h = inl (eqb-true n 0 p)
    go false p h = inr h

stays_set : (n : ℕ) (e : Bool) → e ≡ true → cond (eqb n 0) true e ≡ true
stays_set n e h = go (eqb n 0)
  where
    go : (t : Bool) → cond t true e ≡ true
    go true = refl
    go false = h

set_from : (s : LengthState) (l : List ℕ) → s.empty ≡ true → (foldl fed s l).empty ≡ true
set_from s [] h = h
set_from s (n ∷ l) h = set_from (fed s n) l (stays_set n s.empty h)

zero_sets : (s : LengthState) (l : List ℕ) (k : ℕ) → k < length l → get_or l k 0 ≡ 0 → (foldl fed s l).empty ≡ true
zero_sets s [] k h e = absurd (omega arith)
zero_sets s (n ∷ l) zero h e = set_from (fed s n) l (rw (eq-eqb n 0 e))
zero_sets s (n ∷ l) (suc k) h e = zero_sets (fed s n) l k (omega arith) e

zero_found : (s : LengthState) (l : List ℕ) → (foldl fed s l).empty ≡ true → (s.empty ≡ true) ⊎ SomeZero l
zero_found s [] h = inl h
zero_found s (n ∷ l) h =
    ⊎_elim
    (λ e. ⊎_elim (λ (z : n ≡ 0). inr (zero, omega arith, z)) inl (set_by n s.empty e))
    (λ (z : SomeZero l). inr (suc z.0, omega (arith, z.1), z.2))
    (zero_found (fed s n) l h)

pub empty_exactly : (l : List ℕ) → ((after_all l).empty ≡ true → SomeZero l) × (SomeZero l → (after_all l).empty ≡ true)
unfolding after_all
empty_exactly l =
    (λ h. ⊎_elim (λ e. let z : ◌≡◌ {A = ℕ} 0 1 = cc in absurd (omega arith)) (λ z. z) (zero_found unfed l h), λ z. zero_sets unfed l z.0 z.1 z.2)

-- and then it is 4
zero_checked : (e : Bool) → 4 ≡ first (unless (not e) 4) 4
unfolding first unless
zero_checked true = refl
zero_checked false = refl

one_checked : (n : ℕ) (e : Bool) → unless (not (cond (eqb n 0) true e)) 4 ≡ first (unless (not e) 4) (length_check n)
unfolding unless length_check under
one_checked zero e = zero_checked e
one_checked (suc n) e =
    let some : eqb (suc n) 0 ≡ false = ne_eqb (suc n) 0 (λ z. omega (arith, z)) in
    let long : ltb (suc n) 1 ≡ false = le-ltb (suc n) 1 (omega arith) in
    rw (some, long) (sym (first_none _))

checked_from : (s : LengthState) (l : List ℕ) →
    unless (not (foldl fed s l).empty) 4 ≡ first (unless (not s.empty) 4) (first_in (map length_check l))
unfolding first_in
checked_from s [] = sym (first_none _)
checked_from s (n ∷ l) = checked_from (fed s n) l ∙ rw (one_checked n s.empty) (first_assoc _ _ _)

pub lengths_checked : (l : List ℕ) → unless (not (after_all l).empty) 4 ≡ lengths_check l
unfolding after_all lengths_check first unless
lengths_checked l = checked_from unfed l

-- the check of a base and of lengths, by the state after them
pub header_by_state : (base count : ℕ) (s : LengthState) (listed : List ℕ) → count ≡ length listed → s ≡ after_all listed →
    header_check base listed ≡
    first (under count 1 4)
    (first (under 32 count 4)
    (first (unless (not s.empty) 4) (first (under 4096 s.sum 4) (first (under base 0x8000 4) (under 0x10000 (base + s.sum) 4)))))
unfolding first_in header_check
header_by_state base count s listed some fed = rw (some, fed, sum_all listed, lengths_checked listed, first_none)

-- of an image: the state after the lengths of its first routines, whose sum is where the next one begins
module _ (image : List ℕ) (k : ℕ) where
  pub state_next : {s r : LengthState} {n : ℕ} → k < count_of image → s ≡ after_all (take k (lengths_of image)) → n ≡ word_at image (8 + 2 * k) → r ≡ fed s n →
      r ≡ after_all (take (k + 1) (lengths_of image))
  unfolding length_at
  state_next below own is next =
      next ∙ rw (own, is ∙ sym (length_listed image k below)) (sym (fed_more (lengths_of image) k (omega (arith, lengths_count image))))

  pub state_sum : {s : LengthState} → s ≡ after_all (take k (lengths_of image)) → s.sum ≡ start_of image k
  unfolding start_of
  state_sum own = ap (λ (s : LengthState). s.sum) own ∙ sum_all (take k (lengths_of image))

  -- where it begins, gathered where there is a place for it
  pub gathered : (begins : List ℕ) {n : ℕ} → length begins ≡ 32 → n ≡ start_of image k → BeginsTo16 image begins k →
      BeginsTo16 image (set begins k (n % 0x10000)) (k + 1)
  gathered begins {n} size own before =
      below_more (λ j. j < 32 → get_or (set begins k (n % 0x10000)) j 0 ≡ start_of image j % 0x10000) k
      (λ j h small. get_or-set_other begins k j (n % 0x10000) 0 (λ z. omega arith) ∙ before j h small)
      (λ small. get_or-set_same begins k (n % 0x10000) 0 (omega arith) ∙ ap (λ m. m % 0x10000) own)

  pub past_32 : (begins : List ℕ) → 32 ≤ k → BeginsTo16 image begins k → BeginsTo16 image begins (k + 1)
  past_32 begins past before =
      below_more (λ j. j < 32 → get_or begins j 0 ≡ start_of image j % 0x10000) k before (λ small. absurd (omega arith))
