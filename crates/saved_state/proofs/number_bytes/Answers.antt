-- `saved_state::number_bytes` meets its contract. The loop's invariant: the bytes of what is left, and those written so far, are the number's.
use Prim.Native.Nat.{suc, ◌-◌}
use mathlib.Core.Path.{◌≡◌, refl, ◌∙◌}
use native.Mathlib.Omega.{arith}
use lib.ListN.{length-set}
use Rattle.saved_state.specs.Sls.{number_bytes}
use Rattle.saved_state.proofs.NumberLaws.{written_last}
use Rattle.saved_state.proofs.number_bytes.Goals as goal

pub loop-at-init : goal.loop-at-init
unfolding number_bytes
loop-at-init c = (omega arith, refl, refl)

pub loop-at-preserved : goal.loop-at-preserved
loop-at-preserved c =
    let before : suc (c.loop-at.at - 1) ≡ c.loop-at.at = omega (arith, c.loop-at-test.true) in (
      omega (arith, c.loop-at.invariant.0),
      simp length-set c.loop-at.invariant.1,
      written_last c.loop-at.bytes (c.loop-at.at - 1) c.loop-at.left (omega (arith, c.loop-at.invariant.0, c.loop-at.invariant.1)) ∙ rw before c.loop-at.invariant.2,
    )

pub returns : goal.returns
unfolding number_bytes
returns c = let none : c.loop-at.at ≡ 0 = omega (arith, c.loop-at-test.false) in rw none at c.loop-at.invariant.2

pub bounds-bytes-at : goal.bounds-bytes-at
bounds-bytes-at c = omega (arith, c.loop-at.invariant.0)
