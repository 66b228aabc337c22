-- The search for a callee, step by step.
use Rattle.std.proofs.Common.{◌≡◌, refl, Option, Bool, true, false, add-zero, zero-add, get_or-take, ℕ, suc, ◌+◌, ◌-◌, ◌<◌, ◌≤◌, cond, nat_eq, ltb, List, [], ◌∷◌, length, get_or, take, arith, eq-eqb, ne_eqb, lt-ltb, le-ltb, Some, None}
use Rattle.std.proofs.Math.Seq.{length-take-le}
use Rattle.std.specs.Option.{unwrap_or}
use Rattle.std.specs.List.{position_from, position_or_len}
use Rattle.std.proofs.lemmas.Iterator.Adapters.{position_from-zero}
use Rattle.image.specs.Lengths.{Begins}
use Rattle.image.specs.Image.{base_of, start_of}
use Rattle.rules.specs.Paths.{beginning, callee}
use Rattle.acceptance.specs.Cells.{callee_cell}

first_or : (b : Bool) (o : Option ℕ) (j none n : ℕ) → unwrap_or o none ≡ n → unwrap_or (cond b (Some j) o) none ≡ cond b j n
first_or true o j none n e = refl
first_or false o j none n e = e

-- where a list that tells where routines begin, from routine j on, has an offset first
beginning_found : (image : List ℕ) (offset : ℕ) (begins : List ℕ) (j : ℕ) → ((k : ℕ) → k < length begins → get_or begins k 0 ≡ start_of image (j + k)) →
    unwrap_or (position_from (λ begin. nat_eq begin offset) j begins) (j + length begins) ≡ beginning image offset (length begins) j
unfolding beginning
beginning_found image offset [] j told = omega arith
beginning_found image offset (begin ∷ begins) j told =
    let here : begin ≡ start_of image j = rw add-zero at (told 0 (omega arith)) in
    let more : j + 1 + length begins ≡ j + suc (length begins) = omega arith in
    let rest = beginning_found image offset begins (j + 1)
    (λ k low. let same : j + suc k ≡ j + 1 + k = omega arith in rw same at (told (suc k) (omega arith))) in
    rw (← here) (first_or (nat_eq begin offset) _ j _ _ (rw more at rest))

pub callee_found : (image begins : List ℕ) (offset r : ℕ) → Begins image begins r → r ≤ length begins →
    unwrap_or (cond (ltb (position_or_len (λ begin. nat_eq begin offset) (take r begins)) (length (take r begins)))
    (Some (position_or_len (λ begin. nat_eq begin offset) (take r begins))) None) r ≡ beginning image offset r 0
callee_found image begins offset r told room =
    let size : length (take r begins) ≡ r = length-take-le r begins room in
    rw position_from-zero
    (rw (size, zero-add) at (beginning_found image offset (take r begins) 0
    (λ k low. let inside : k < r = omega arith in rw (zero-add, get_or-take) (told k inside))))

module _ (image : List ℕ) (base r address : ℕ) (e : base ≡ base_of image) where
  pub callee_below : address < base → callee image r address ≡ r
  unfolding callee
  callee_below h = rw (← e, lt-ltb address base h)

  pub callee_above : base ≤ address → callee image r address ≡ beginning image (address - base) r 0
  unfolding callee
  callee_above h = rw (← e, le-ltb address base h)

-- the cell of a callee that is found, and of none
module _ (image : List ℕ) (r address k : ℕ) (e : k ≡ callee image r address) where
  pub callee_earlier : k < r → k + 1 ≡ callee_cell image r address
  unfolding callee_cell
  callee_earlier h = rw (← e, lt-ltb k r h)

  pub callee_none : r ≤ k → 255 ≡ callee_cell image r address
  unfolding callee_cell
  callee_none h = rw (← e, le-ltb k r h)
