-- What an instruction moves and stores where a routine stands: no trap stops it, and it writes to the grants and the routine's own stack bytes alone.
use Prim.Native.Nat.{ℕ, ◌+◌, ◌-◌, ◌≤◌, ◌<◌}
use mathlib.Core.Path.{◌≡◌, refl}
use mathlib.Core.List.{List}
use native.Mathlib.Omega.{arith}
use Rattle.numbers.proofs.Checking.{under_pass, unless_pass}
use Rattle.numbers.proofs.Folding.{◌&◌}
use Rattle.stm8.specs.Effects.{bytes_wide}
use Rattle.stm8.proofs.EffectLaws.{wide_some}
use Rattle.stm8.specs.declared.Place.{Place}
use Rattle.stm8.specs.declared.Place.TheVariants.{Nowhere, Direct, OnStack, Pushed}
use Rattle.stm8.specs.declared.Effect.{Effect}
use Rattle.image.specs.declared.Limits.{Limits}
use Rattle.image.specs.Access.{Granted}
use Rattle.image.specs.Rules.{LimitsRules}
use Rattle.image.proofs.Granting.{granted_exactly, granted_off_stack}
use Rattle.storage.specs.Storing.{move_trap, store_trap, stored_at, memory_after}
use Rattle.execution.specs.Performing.{sp_after}
use Rattle.machine.specs.Changes.{Among}
use Rattle.machine.proofs.Stores.{stored_other, size_kept, together}
use Rattle.machine.proofs.EffectForms.{PushesOwn}
use Rattle.rules.specs.Rules.{StoreRules}
use Rattle.rules.proofs.Bounds.{direct_granted}
use Rattle.gate.specs.Guarantee.{Unchanged}
use Rattle.gate.specs.GoodPoint.{Agree}

-- where a routine of a need stands, in numbers: at SP and depth d its frame and return address are there, and what it may still use is
pub record Room (limits : Limits) (total need sp d : ℕ) : Type 0 where
  pub top : sp + d + 2 ≤ limits.stack.high
  pub left : limits.stack.high + need ≤ sp + d + total
  pub depth : d ≤ need
  pub area : limits.stack.low + total ≤ limits.stack.high + 1

module _ (limits : Limits) (areas : LimitsRules limits) (total need sp d : ℕ) (room : Room limits total need sp d) where
  -- 25 is not due
  pub store_passes : (place : Place) → StoreRules limits d place → store_trap limits sp place ≡ 0
  unfolding store_trap
  store_passes Nowhere h = refl
  store_passes (Direct address w) h = rw ((granted_exactly limits address (bytes_wide w)).1 h) (unless_pass 25)
  store_passes (OnStack f w) h =
      under_pass f 1 25 h.0 & under_pass (limits.stack.high + 1) (sp + f + bytes_wide w) 25 (omega (arith, h.1, wide_some w))
  store_passes (Pushed w) h = refl

  module _ (e : Effect) (own : e.pops ≤ d) (fits : d + e.pushes ≤ need + e.pops) where
    -- 24 is not due
    pub move_passes : move_trap limits sp e ≡ 0
    unfolding move_trap
    move_passes = under_pass _ _ 24 (omega arith) & under_pass _ _ 24 (omega arith)

    -- what is stored lies in a grant or in the routine's own stack bytes
    inside : (place : Place) → StoreRules limits d place → PushesOwn place e.pushes → (address : ℕ) →
        (Granted limits address → ⊥) → (limits.stack.high < address + total → address ≤ sp + d → ⊥) →
        Among address (stored_at sp (sp_after sp e) place) → ⊥
    unfolding stored_at
    inside Nowhere h p address grant stack here = here
    inside (Direct a w) h p address grant stack here =
        let span = together a w address here in
        let there : a + (address - a) ≡ address = omega (arith, span) in
        grant (rw there at (direct_granted limits d w a h (address - a) (omega (arith, span))))
    inside (OnStack f w) h p address grant stack here =
        let span = together (sp + f) w address here in
        stack (omega (arith, span)) (omega (arith, h.1, span, wide_some w))
    inside (Pushed w) h p address grant stack here =
        let span = together (sp_after sp e + 1) w address here in
        stack (omega (arith, areas.stack_low, span)) (omega (arith, areas.stack_low, span))

    -- so the frames above are as they were, and so is what must not change
    module _ (place : Place) (value : ℕ) (memory : List ℕ) (store : StoreRules limits d place) (pushes : PushesOwn place e.pushes) where
      pub agrees : Agree limits (sp + d) memory (memory_after memory (stored_at sp (sp_after sp e) place) value)
      agrees address low high =
          stored_other memory (stored_at sp (sp_after sp e) place) value address
          (inside place store pushes address
          (λ grant. granted_off_stack limits areas address grant (record { above = omega arith; below = high })) (λ p q. omega arith))

      pub unchanged : Unchanged limits total memory (memory_after memory (stored_at sp (sp_after sp e) place) value)
      unchanged =
          record {
            size = size_kept memory (stored_at sp (sp_after sp e) place) value;
            same = λ address grant top.
                stored_other memory (stored_at sp (sp_after sp e) place) value address
                (inside place store pushes address grant (λ p q. top (record { above = p; below = omega arith })));
          }
