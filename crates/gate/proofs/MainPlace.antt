-- Where main begins.
use Prim.Native.Nat.{ℕ, ◌-◌, ◌≤◌}
use mathlib.Core.Path.{◌≡◌}
use mathlib.Core.Bool.{cond}
use mathlib.Core.List.{List}
use native.Mathlib.Omega.{arith}
use lib.Dec.{ltb}
use lib.ListN.{get_or}
use borrow.Author.Tests.{lt-ltb}
use Rattle.image.specs.Image.{count_of, start_of, main_of}
use Rattle.image.specs.Lengths.{Begins}
use Rattle.image.specs.Rules.{ImageRules}
use Rattle.image.proofs.Measuring.{start_inside}

module _ (image : List ℕ) (rules : ImageRules image) where
  pub main_inside : start_of image (main_of image) ≤ 4096
  main_inside = omega (arith, start_inside image (main_of image), rules.code)

  pub main_begins : (begins : List ℕ) → Begins image begins (count_of image) → (count : ℕ) → count ≡ count_of image →
      cond (ltb (count - 1) 32) (get_or begins (count - 1) 0) 0 ≡ start_of image (main_of image)
  unfolding main_of
  main_begins begins told count e =
      rw (e, lt-ltb (count_of image - 1) 32 (omega (arith, rules.count))) (told (count_of image - 1) (omega (arith, rules.count.0)))
