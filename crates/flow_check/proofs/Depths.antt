-- What the tests of an instruction's depth give, as a number.
use Rattle.std.proofs.Common.{◌≡◌, ℕ, ◌+◌, ◌<◌, ◌≤◌, refl, arith}
use Rattle.control_flow.specs.Routine.{depth_number}
use Rattle.control_flow.proofs.DepthNumbers.{Inside, DepthTest, outside, denied, lost, allowed, depth_test}

module _ (bias held falls jumps pops pushes store call : ℕ) where
  number_outside : {number : ℕ} → DepthTest bias held falls jumps pops pushes store call number →
      (Inside bias held falls jumps pops pushes store call → ⊥) → 11 ≡ number
  number_outside (outside out) not = refl
  number_outside (denied i s) not = absurd (not i)
  number_outside (lost i s c) not = absurd (not i)
  number_outside (allowed i s c) not = absurd (not i)

  number_denied : {number : ℕ} → DepthTest bias held falls jumps pops pushes store call number →
      Inside bias held falls jumps pops pushes store call → held < bias + store → 12 ≡ number
  number_denied (outside out) i s = absurd (out i)
  number_denied (denied _ _) i s = refl
  number_denied (lost _ s' c) i s = absurd (omega arith)
  number_denied (allowed _ s' c) i s = absurd (omega arith)

  number_lost : {number : ℕ} → DepthTest bias held falls jumps pops pushes store call number →
      Inside bias held falls jumps pops pushes store call → bias + store ≤ held → 32 < call → 14 ≡ number
  number_lost (outside out) i s c = absurd (out i)
  number_lost (denied _ s') i s c = absurd (omega arith)
  number_lost (lost _ _ _) i s c = refl
  number_lost (allowed _ _ c') i s c = absurd (omega arith)

  number_allowed : {number : ℕ} → DepthTest bias held falls jumps pops pushes store call number →
      Inside bias held falls jumps pops pushes store call → bias + store ≤ held → call ≤ 32 → 0 ≡ number
  number_allowed (outside out) i s c = absurd (out i)
  number_allowed (denied _ s') i s c = absurd (omega arith)
  number_allowed (lost _ _ c') i s c = absurd (omega arith)
  number_allowed (allowed _ _ _) i s c = refl

  pub depth_outside : (Inside bias held falls jumps pops pushes store call → ⊥) → 11 ≡ depth_number bias held falls jumps pops pushes store call
  depth_outside = number_outside (depth_test bias held falls jumps pops pushes store call)

  pub depth_denied : Inside bias held falls jumps pops pushes store call → held < bias + store →
      12 ≡ depth_number bias held falls jumps pops pushes store call
  depth_denied = number_denied (depth_test bias held falls jumps pops pushes store call)

  pub depth_lost : Inside bias held falls jumps pops pushes store call → bias + store ≤ held → 32 < call →
      14 ≡ depth_number bias held falls jumps pops pushes store call
  depth_lost = number_lost (depth_test bias held falls jumps pops pushes store call)

  pub depth_allowed : Inside bias held falls jumps pops pushes store call → bias + store ≤ held → call ≤ 32 →
      0 ≡ depth_number bias held falls jumps pops pushes store call
  depth_allowed = number_allowed (depth_test bias held falls jumps pops pushes store call)
