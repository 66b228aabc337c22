-- The instructions of a routine from an offset on: none past its end, else the one that stands there and those behind it.
use Prim.Native.Nat.{ℕ, zero, suc, ◌+◌, ◌-◌, ◌<◌, ◌≤◌}
use mathlib.Core.Path.{◌≡◌, refl, ap}
use mathlib.Core.Logic.{by_cases}
use mathlib.Core.List.{List, [], ◌∷◌, flat_map}
use native.Mathlib.Decide.{ℕ_discrete, dec_lt}
use native.Mathlib.Omega.{arith}
use borrow.Author.Tests.{eq-eqb, ne_eqb, lt-ltb, le-ltb}
use Rattle.std.specs.Prelude.{Ok}
use Rattle.stm8.specs.Decoding.{Decoded}
use Rattle.stm8.specs.declared.Instruction.{Instruction}
use Rattle.image.specs.Image.{start_of, end_of}
use Rattle.code.specs.Code.{instruction_at}
use Rattle.code.specs.Instructions.{found_size, starts_from, starts_of, Located, located_at, instructions_of}
use Rattle.code.proofs.Starts.{found_inside}

module _ (image : List ℕ) (r : ℕ) where
  -- fuel past the bytes that are left changes nothing
  enough : (f g o : ℕ) → o < end_of image r → end_of image r ≤ o + f → end_of image r ≤ o + g → starts_from f image r o ≡ starts_from g image r o
  unfolding starts_from
  enough zero g o inside x y = absurd (omega arith)
  enough (suc f) zero o inside x y = absurd (omega arith)
  enough (suc f) (suc g) o inside x y =
      let n = found_size (instruction_at image r o) in
      by_cases (ℕ_discrete n 0)
      (λ z. rw (eq-eqb n 0 z))
      (λ z. by_cases (dec_lt (o + n) (end_of image r))
      (λ l. rw (ne_eqb n 0 z, lt-ltb _ _ l) (ap (λ rest. o ∷ rest) (enough f g (o + n) l (omega arith) (omega arith))))
      (λ l. let past : end_of image r ≤ o + n = omega arith in rw (ne_eqb n 0 z, le-ltb _ _ past)))

  abbrev located : ℕ → List Located
  located o = located_at o (instruction_at image r o)

  abbrev pub instructions_from : ℕ → List Located
  instructions_from o = flat_map located (starts_from (end_of image r - o) image r o)

  pub from_start : instructions_from (start_of image r) ≡ instructions_of image r
  unfolding instructions_of starts_of
  from_start = refl

  pub from_end : {o : ℕ} → end_of image r ≤ o → instructions_from o ≡ []
  unfolding starts_from flat_map
  from_end {o} past = let none : end_of image r - o ≡ 0 = omega arith in rw none

  module _ (o : ℕ) (inside : o < end_of image r) where
    more : end_of image r - o ≡ suc (end_of image r - o - 1)
    more = omega arith

    pub from_found : {n : ℕ} {i : Instruction} → instruction_at image r o ≡ Ok (i, n) →
        instructions_from o ≡ record { offset = o; instruction = i; size = n } ∷ instructions_from (o + n)
    unfolding starts_from flat_map
    from_found {n} {i} found =
        let some = found_inside image r o found in
        let whole : (n ≡ 0 → ⊥) = λ z. omega arith in
        by_cases (dec_lt (o + n) (end_of image r))
        (λ l.
        rw (more, found, ne_eqb n 0 whole, lt-ltb _ _ l)
        (ap (λ s. record { offset = o; instruction = i; size = n } ∷ flat_map located s)
        (enough (end_of image r - o - 1) (end_of image r - (o + n)) (o + n) l (omega arith) (omega arith))))
        (λ l.
        let past : end_of image r ≤ o + n = omega arith in
        let none : end_of image r - (o + n) ≡ 0 = omega arith in
        rw (none, more, found, ne_eqb n 0 whole, le-ltb _ _ past))

    -- where no instruction stands
    pub from_none : {d : Decoded} → instruction_at image r o ≡ d → located_at o d ≡ [] → found_size d ≡ 0 → instructions_from o ≡ []
    unfolding starts_from flat_map
    from_none {d} is nothing none = rw (more, is, eq-eqb (found_size d) 0 none, nothing)
