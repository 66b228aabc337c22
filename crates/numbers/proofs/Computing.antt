-- Computed tests: two functions that agree on a closed list of numbers, by one `refl`, agree at each of its numbers.
use mathlib.Core.Path.{◌≡◌, refl, ap, sym, ◌∙◌}
use mathlib.Core.Bool.{Bool, true, false, cond}
use mathlib.Core.List.{List, [], ◌∷◌, map}
use Prim.Native.Nat.{ℕ, zero, suc, ◌+◌, ◌<◌}
use native.Mathlib.Nat.{add-zero, add-suc, suc-add, zero-add, le_of_suc-le-suc, not-suc-le-zero}
use borrow.Author.Tests.{ne_eqb}
use lib.Dec.{eqb}
use lib.ListN.{get_or, length, get_or-map}
use Rattle.numbers.specs.Computed.{counting, table}

-- functions that agree on the list d ∷ xs agree at what stands at a place of it
pub agree : {A B : Type 0} (d : A) (xs : List A) (f g : A → B) → map f (d ∷ xs) ≡ map g (d ∷ xs) → (n : ℕ) (x : A) → get_or (d ∷ xs) n d ≡ x → f x ≡ g x
agree d xs f g e n x at =
    ap f (sym at) ∙ sym (get_or-map f (d ∷ xs) n d) ∙ ap (λ l. get_or l n (f d)) e ∙
    ap (λ z. get_or (map g (d ∷ xs)) n z) (ap (λ l. get_or l 0 (f d)) e) ∙ get_or-map g (d ∷ xs) n d ∙ ap g at

-- a function's values at the n numbers from i on: how many, and the k-th of them
pub mapped_length : {B : Type 0} (f : ℕ → B) (n i : ℕ) → length (map f (counting n i)) ≡ n
mapped_length f zero i = refl
mapped_length f (suc n) i = ap suc (mapped_length f n (suc i))

pub mapped_at : {B : Type 0} (f : ℕ → B) (n i k : ℕ) (d : B) → k < n → get_or (map f (counting n i)) k d ≡ f (i + k)
mapped_at f zero i k d h = absurd (not-suc-le-zero h)
mapped_at f (suc n) i zero d h = ap f (sym (add-zero i))
mapped_at f (suc n) i (suc k) d h = mapped_at f n (suc i) k d (le_of_suc-le-suc h) ∙ ap f (suc-add i k ∙ sym (add-suc i k))

-- at each number below a bound
pub below : {B : Type 0} (n : ℕ) (f g : ℕ → B) → map f (counting (suc n) 0) ≡ map g (counting (suc n) 0) → (k : ℕ) → k < suc n → f k ≡ g k
below n f g e k h =
    ap f (sym (zero-add k)) ∙ sym (mapped_at f (suc n) 0 k (f k) h) ∙ ap (λ l. get_or l k (f k)) e ∙ mapped_at g (suc n) 0 k (f k) h ∙ ap g (zero-add k)

-- an entry of a computed table
pub table_at : (f : ℕ → ℕ) (k : ℕ) → k < 256 → get_or (table f) k 0 ≡ f k
table_at f k h = mapped_at f 256 0 k 0 h ∙ ap f (zero-add k)

-- What the default arm of a `match` on a number knows: x is none of the keys, which are listed from the last arm to the first.
abbrev pub NoneOf : ℕ → List ℕ → Type 0
NoneOf x [] = Unit {0}
NoneOf x (k ∷ keys) = NoneOf x keys × (x ≡ k → ⊥)

abbrev pub member : ℕ → List ℕ → Bool
member x [] = false
member x (k ∷ keys) = cond (eqb x k) true (member x keys)

no_member : (x : ℕ) (keys : List ℕ) → NoneOf x keys → member x keys ≡ false
no_member x [] h = refl
no_member x (k ∷ keys) h = rw (ne_eqb x k h.1) (no_member x keys h.0)

-- functions that agree at each number below a bound that is no key
pub rest : {B : Type 0} (n : ℕ) (keys : List ℕ) (f g : ℕ → B) →
    map (λ k. cond (member k keys) (g k) (f k)) (counting (suc n) 0) ≡ map g (counting (suc n) 0) →
    (x : ℕ) → x < suc n → NoneOf x keys → f x ≡ g x
rest n keys f g e x h none =
    let p : cond (member x keys) (g x) (f x) ≡ g x = below n (λ k. cond (member k keys) (g k) (f k)) g e x h in
    rw (no_member x keys none) at p
