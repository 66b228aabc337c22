-- How the index sought moves with the front of the part that is searched.
use Rattle.std.proofs.Common.{◌≡◌, ℕ, suc, ◌+◌, ◌<◌, ◌≤◌, List, ◌∷◌, length, take, drop, get_or, refl, ap, ◌∙◌, eq-eqb, ne_eqb, add-one, arith, drop-cons, length-take-le}
use Rattle.std.proofs.lemmas.List.{get_or-take, drop_all}
use Rattle.slices.specs.Bytes.{slice, index_after, index_of}

front : (s : List ℕ) (i to : ℕ) → i < to → to ≤ length s → slice i to s ≡ get_or s i 0 ∷ slice (i + 1) to s
unfolding slice
front s i to low high =
    rw add-one (drop-cons (take to s) i 0 (rw (length-take-le to s high) low) ∙ ap (λ (c : ℕ). c ∷ drop (suc i) (take to s)) (get_or-take to s i 0 low))

pub index_found : (s : List ℕ) (b i to : ℕ) → i < to → to ≤ length s → get_or s i 0 ≡ b → index_of b (slice i to s) ≡ 0
unfolding index_of index_after
index_found s b i to low high is = rw (front s i to low high, eq-eqb _ _ is) refl

pub index_missed : (s : List ℕ) (b i to : ℕ) → i < to → to ≤ length s → (get_or s i 0 ≡ b → ⊥) →
    index_of b (slice i to s) ≡ suc (index_of b (slice (i + 1) to s))
unfolding index_of index_after
index_missed s b i to low high other = rw (front s i to low high, ne_eqb _ _ other) refl

pub index_past : (s : List ℕ) (b to : ℕ) → to ≤ length s → index_of b (slice to to s) ≡ 0
unfolding slice index_of
index_past s b to high = rw (drop_all to (take to s) (rw (length-take-le to s high) (omega arith))) refl
