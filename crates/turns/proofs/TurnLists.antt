-- The turns of the first routines, one routine after the other, and what the loop over the routines knows between two of them.
use Prim.Native.Nat.{ℕ, zero, suc, ◌+◌, ◌-◌, ◌<◌, ◌≤◌}
use mathlib.Core.Path.{◌≡◌, refl, sym, ap, ◌∙◌}
use mathlib.Core.Bool.{true, false}
use mathlib.Core.Logic.{by_cases}
use mathlib.Core.List.{List, [], ◌∷◌, ◌++◌}
use native.Mathlib.Decide.{ℕ_discrete}
use native.Mathlib.Nat.{sub-zero}
use native.Mathlib.Numerals.{add-one}
use native.Mathlib.Omega.{arith}
use lib.ListN.{length, get_or, set, replicate, length-append, length-set}
use lib.Seq.{get_or-append_seam, get_or-set_same, get_or-set_other}
use Rattle.numbers.specs.Computed.{counting}
use Rattle.image.specs.Image.{count_of, start_of, end_of, main_of}
use Rattle.image.proofs.Measuring.{start_zero, start_next}
use Rattle.acceptance.proofs.AllRoutines.{zeros_at}
use Rattle.turns.specs.Turn.{some_in, routine_jumps_back, some_jumps_back, turns_of, turn_after, turn_of}
use Rattle.turns.specs.Internal.{held, HeldIn, MainSum}
use Rattle.std.specs.Prelude.{Some, None}
use Rattle.turns.proofs.Holding.{held_low}

-- one element more does not change the others
append_other : (l : List ℕ) (x j : ℕ) → (j ≡ length l → ⊥) → get_or (l ++ (x ∷ [])) j 0 ≡ get_or l j 0
append_other [] x zero other = absurd (other refl)
append_other [] x (suc j) other = refl
append_other (y ∷ l) x zero other = refl
append_other (y ∷ l) x (suc j) other = append_other l x j (λ e. other (ap suc e))

module _ (image : List ℕ) where
  turns_length : (n : ℕ) → length (turns_of image n) ≡ n
  unfolding turns_of
  turns_length zero = refl
  turns_length (suc n) = length-append (turns_of image n) _ ∙ omega (arith, turns_length n)

  turns_last : (n : ℕ) → get_or (turns_of image (suc n)) n 0 ≡ turn_of image n
  unfolding turns_of
  turns_last n = rw (turns_length n) at (get_or-append_seam (turns_of image n) (turn_of image n) [] 0)

  turns_other : (n j : ℕ) → (j ≡ n → ⊥) → get_or (turns_of image (suc n)) j 0 ≡ get_or (turns_of image n) j 0
  unfolding turns_of
  turns_other n j other = append_other (turns_of image n) (turn_of image n) j (λ e. other (e ∙ turns_length n))

  -- each is there as its own
  pub turns_at : (n k : ℕ) → k < n → get_or (turns_of image n) k 0 ≡ turn_of image k
  turns_at zero k h = absurd (omega arith)
  turns_at (suc n) k h =
      by_cases (ℕ_discrete k n)
      (λ e. rw e (turns_last n))
      (λ other. turns_other n k other ∙ turns_at n k (omega arith))

  held_none : HeldIn (replicate 32 0) (turns_of image 0)
  unfolding turns_of
  held_none k = zeros_at 32 k ∙ held_low 0 (omega arith)

  held_next : (cells : List ℕ) (n t : ℕ) → n < length cells → HeldIn cells (turns_of image n) → t ≡ held (turn_of image n) →
      HeldIn (set cells n t) (turns_of image (suc n))
  held_next cells n t room so_far is k =
      by_cases (ℕ_discrete k n)
      (λ e. rw (e, turns_last n) (get_or-set_same cells n t 0 room ∙ is))
      (λ other. get_or-set_other cells n k t 0 other ∙ so_far k ∙ ap held (sym (turns_other n k other)))

  -- what the loop knows between two routines
  pub record Between (cells : List ℕ) (turn start k : ℕ) : Type 0 where
    pub few : k ≤ count_of image
    pub size : length cells ≡ 32
    pub start_is : start ≡ start_of image k
    pub cells_hold : HeldIn cells (turns_of image k)
    pub rest : some_in (routine_jumps_back image) (counting (count_of image - k) k) ≡ some_jumps_back image
    pub last : (j : ℕ) → k ≡ suc j → turn ≡ held (turn_of image j)

  pub between_none : Between (replicate 32 0) 0 0 0
  unfolding some_jumps_back
  between_none =
      record {
        few = omega arith;
        size = refl;
        start_is = sym (start_zero image);
        cells_hold = held_none;
        rest = rw sub-zero;
        last = λ j e. absurd (omega arith);
      }

  module _ {cells : List ℕ} {turn start k : ℕ} (b : Between cells turn start k) (inside : k < count_of image) where
    more : count_of image - k ≡ suc (count_of image - suc k)
    more = omega arith

    pub between_back : routine_jumps_back image k ≡ true → MainSum image None
    between_back back = sym (rw (more, back) at b.rest)

    pub between_next : {sum end : ℕ} → (routine_jumps_back image k ≡ false) × (sum ≡ held (turn_after image (turns_of image k) k)) →
        count_of image ≤ 32 → end ≡ end_of image k → Between (set cells k sum) sum end (k + 1)
    between_next {sum} passed most end_is =
        record {
          few = omega arith;
          size = length-set cells k sum ∙ b.size;
          start_is = end_is ∙ sym (start_next image k inside);
          cells_hold = rw add-one (held_next cells k sum (omega (arith, b.size)) b.cells_hold passed.1);
          rest = rw add-one (rw (more, passed.0) at b.rest);
          last = λ j e. let same : k ≡ j = omega arith in rw same at passed.1;
        }

  pub between_all : {cells : List ℕ} {turn start k : ℕ} → 1 ≤ count_of image → Between cells turn start k → count_of image ≤ k →
      MainSum image (Some turn)
  unfolding main_of
  between_all {k = k} some b all =
      let none : count_of image - k ≡ 0 = omega arith in
      (sym (rw none at b.rest), b.last (count_of image - 1) (omega (arith, b.few)))
