-- `gate::main_address` meets its contract.
use Prim.Native.Nat.{ℕ, ◌-◌}
use mathlib.Core.Path.{◌≡◌, ◌∙◌}
use mathlib.Core.Bool.{cond}
use mathlib.Core.List.{List}
use native.Mathlib.Omega.{arith}
use lib.Dec.{ltb}
use lib.ListN.{get_or}
use Rattle.image.specs.Image.{count_of, start_of, main_of}
use Rattle.image.specs.Lengths.{Begins}
use Rattle.image.specs.Rules.{ImageRules}
use Rattle.gate.proofs.MainPlace.{main_inside, main_begins}
use Rattle.gate.proofs.main_address.Goals as goal

begins : (image places : List ℕ) (count start : ℕ) → ImageRules image × Begins image places (count_of image) → count ≡ count_of image →
    start ≡ cond (ltb (count - 1) 32) (get_or places (count - 1) 0) 0 → start ≡ start_of image (main_of image)
begins image places count start held is at = at ∙ main_begins image held.0 places held.1 count is

pub overflow_add-result : goal.overflow_add-result
overflow_add-result c =
    omega (
      arith,
      begins c.args.image.now c.args.begins.now _ _ c.requires c.count_of.ensures c.begin_at.ensures,
      main_inside c.args.image.now c.requires.0,
    )

pub overflow_cast-result-2 : goal.overflow_cast-result-2
overflow_cast-result-2 c =
    omega (
      arith,
      begins c.args.image.now c.args.begins.now _ _ c.requires c.count_of.ensures c.begin_at.ensures,
      main_inside c.args.image.now c.requires.0,
    )

pub returns : goal.returns
returns c = rw (begins c.args.image.now c.args.begins.now _ _ c.requires c.count_of.ensures c.begin_at.ensures, c.base_of.ensures)
