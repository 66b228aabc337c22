-- What a step of the depth pass leaves, whatever the routine.
use Rattle.std.proofs.Common.{◌≡◌, ℕ, ◌+◌, ◌-◌, ◌≤◌, List, length, get_or, set, refl, arith, length-set, get_or-set_same}
use Rattle.control_flow.specs.Routine.{Routine}
use Rattle.control_flow.specs.Measuring.{DepthStep, skips, refuses, measures}

module _ {x : Routine} {needs : List ℕ} {bias : ℕ} {held : ℕ → ℕ} {given : List ℕ} {at need count : ℕ} where
  pub step_next : {number at' need' count' : ℕ} {marks : List ℕ} → DepthStep x needs bias held given at need count number at' marks need' count' →
      number ≡ 0 → (at' ≡ at + 1) × (count' ≤ count + 1)
  step_next (skips none) z = (refl, omega arith)
  step_next (refuses is e more) z = absurd (omega arith)
  step_next (measures is p) z = (refl, omega arith)

  pub step_marks : {number at' need' count' : ℕ} {marks : List ℕ} → DepthStep x needs bias held given at need count number at' marks need' count' →
      length marks ≡ length given
  step_marks (skips none) = refl
  step_marks (refuses is e more) = refl
  step_marks (measures is p) = length-set given at (held at - bias + 1)

-- what is put on the stack is on top of it
pub put_on_top : (stack : List ℕ) (height t : ℕ) → length stack ≡ 4096 → height ≤ 4095 → get_or (set stack height t) (height + 1 - 1) 0 ≡ t
put_on_top stack height t slots low =
    let here : height + 1 - 1 ≡ height = omega arith in
    rw here (get_or-set_same stack height t 0 (omega arith))
