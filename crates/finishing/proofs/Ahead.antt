-- Where no jump goes to its own or a lower address, each goes to a higher one.
use Prim.Native.Nat.{ℕ, zero, suc, ◌+◌, ◌<◌}
use mathlib.Core.Path.{◌≡◌, refl, sym}
use mathlib.Core.Bool.{Bool, true, false, cond, false≢true}
use mathlib.Core.List.{List, [], ◌∷◌}
use mathlib.Core.Option.{some}
use native.Mathlib.Nat.{zero-add, add-zero}
use native.Mathlib.Omega.{arith}
use borrow.Author.Tests.{leb-false}
use Rattle.std.specs.Prelude.{Ok}
use Rattle.numbers.specs.Computed.{counting}
use Rattle.stm8.specs.Effects.{jump_target, effect}
use Rattle.stm8.specs.declared.Instruction.{Instruction}
use Rattle.image.specs.Image.{base_of, count_of}
use Rattle.image.specs.Rules.{ImageRules}
use Rattle.image.proofs.Layouts.{begins_before_end}
use Rattle.code.specs.Code.{instruction_at, Start}
use Rattle.code.specs.Instructions.{In, head, tail, Located, instructions_of}
use Rattle.code.proofs.Instructions.{instruction_listed}
use Rattle.turns.specs.Turn.{jumps_back, some_in, routine_jumps_back, some_jumps_back}

-- where none of a list passes a test, neither its first nor one of the rest does
none_more : (b rest : Bool) → cond b true rest ≡ false → (b ≡ false) × (rest ≡ false)
none_more true rest e = absurd (false≢true (sym e))
none_more false rest e = (refl, e)

none_in : {A : Type 0} (test : A → Bool) {x : A} (l : List A) → some_in test l ≡ false → In x l → test x ≡ false
none_in test [] e i = elim i [ ]
none_in test (x ∷ l) e head = (none_more (test x) (some_in test l) e).0
none_in test (y ∷ l) e (tail i) = none_in test l (none_more (test y) (some_in test l) e).1 i

none_counted : (test : ℕ → Bool) (n i k : ℕ) → some_in test (counting n i) ≡ false → k < n → test (i + k) ≡ false
none_counted test zero i k e h = absurd (omega arith)
none_counted test (suc n) i zero e h = rw (add-zero i) (none_more (test i) (some_in test (counting n (suc i))) e).0
none_counted test (suc n) i (suc k) e h =
    let same : suc i + k ≡ i + suc k = omega arith in
    rw same at (none_counted test n (suc i) k (none_more (test i) (some_in test (counting n (suc i))) e).1 (omega arith))

module _ (image : List ℕ) (layout : ImageRules image) (ahead : some_jumps_back image ≡ false) where
  no_routine : (r : ℕ) → r < count_of image → routine_jumps_back image r ≡ false
  unfolding some_jumps_back
  no_routine r listed = rw (zero-add r) at (none_counted (routine_jumps_back image) (count_of image) 0 r ahead listed)

  pub jumps_ahead : {r o n address : ℕ} {i : Instruction} → r < count_of image → Start image r o → instruction_at image r o ≡ Ok (i, n) →
      jump_target (base_of image + (o + n)) (effect i).flow ≡ some address → base_of image + o < address
  jumps_ahead {r} {o} {n} {i = i} listed s f jump =
      let e : Located = record { offset = o; instruction = i; size = n } in
      let here = (instruction_listed image r (begins_before_end image layout r listed) e).1 (s, f) in
      let none : jumps_back image e ≡ false = none_in (jumps_back image) (instructions_of image r) (no_routine r listed) here in
      leb-false _ _ (rw jump at none)
