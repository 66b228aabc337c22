-- The greatest use of an instruction that passes 11 and 14.
use Prim.Native.Nat.{ℕ, ◌+◌, ◌-◌, ◌≤◌, max}
use mathlib.Core.Path.{◌≡◌}
use mathlib.Core.Logic.{◌⊎◌, inl, inr, ⊎_elim, by_cases}
use mathlib.Core.List.{List}
use native.Mathlib.Decide.{ℕ_discrete, dec_lt}
use native.Mathlib.Omega.{arith}
use lib.ListN.{get_or}
use borrow.Author.Tests.{eq-eqb, ne_eqb}
use Rattle.control_flow.specs.Routine.{Routine, Uses, before, behind, calling}
use Rattle.control_flow.specs.Measuring.{call_use, greatest_use, use_at}

-- the larger of two is one of them
pub either : (P : ℕ → Type 0) (a b : ℕ) → P a → P b → P (max a b)
either P a b p q =
    by_cases (dec_lt a b) (λ l. let e : max a b ≡ b = omega arith in rw e q) (λ l. let e : max a b ≡ a = omega arith in rw e p)

-- a call's use, and none where there is no call
call_none : (depth call : ℕ) (needs : List ℕ) → call ≡ 0 → call_use depth call needs ≡ 0
unfolding call_use
call_none depth call needs e = rw (eq-eqb call 0 e)

call_some : (depth call : ℕ) (needs : List ℕ) (k : ℕ) → call ≡ k + 1 → call_use depth call needs ≡ depth + 2 + get_or needs k 0
unfolding call_use
call_some depth call needs k e =
    let some : call ≡ 0 → ⊥ = λ z. omega arith in
    let place : call - 1 ≡ k = omega arith in
    rw (ne_eqb call 0 some, place)

module _ (x : Routine) (needs : List ℕ) (bias : ℕ) (held : ℕ → ℕ) (o : ℕ) (low : bias ≤ held o)
    (after_low : bias + x.graph.pops o ≤ held o + x.graph.pushes o) where
  pub use_most : (v : ℕ) → Uses x needs bias held o v → v ≤ use_at x needs bias held o
  unfolding greatest_use
  use_most v (before e) = omega arith
  use_most v (behind e) = omega arith
  use_most v (calling k c e) = omega (arith, call_some (held o - bias) (x.calls o) needs k c)

  use_call : Uses x needs bias held o (call_use (held o - bias) (x.calls o) needs) ⊎ (call_use (held o - bias) (x.calls o) needs ≡ 0)
  use_call =
      by_cases (ℕ_discrete (x.calls o) 0)
      (λ z. inr (call_none (held o - bias) (x.calls o) needs z))
      (λ z.
      let k : x.calls o ≡ (x.calls o - 1) + 1 = omega arith in
      inl (calling (x.calls o - 1) k (omega (arith, call_some (held o - bias) (x.calls o) needs (x.calls o - 1) k))))

  pub use_attained : Uses x needs bias held o (use_at x needs bias held o)
  unfolding greatest_use
  use_attained =
      let depth = held o - bias in
      let after = depth + x.graph.pushes o - x.graph.pops o in
      let call = call_use depth (x.calls o) needs in
      let inner = either (Uses x needs bias held o) depth after (before (omega arith)) (behind (omega arith)) in
      ⊎_elim (either (Uses x needs bias held o) (max depth after) call inner)
      (λ none. let e : max (max depth after) call ≡ max depth after = omega arith in rw e inner) use_call
