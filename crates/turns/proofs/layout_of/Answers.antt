-- `turns::layout_of` meets its contract.
use Prim.Native.Nat.{◌-◌}
use mathlib.Core.Path.{◌≡◌}
use native.Mathlib.Omega.{arith}
use lib.ListN.{length}
use Rattle.image.specs.Image.{code_at, size_of, layout_of}
use Rattle.turns.proofs.layout_of.Goals as goal

pub returns : goal.returns
unfolding layout_of
returns c =
    let image = c.args.image.now in
    let size : length image - code_at image ≡ size_of image = omega (arith, c.requires.end) in
    rw (c.count_of.ensures, c.base_of.ensures, c.version_of.ensures, c.code_at-code.ensures.value, size)
