-- The bytes that an effect stores: two at most, the lower address first, and below 8000 where no trap is due.
use Prim.Native.Nat.{ℕ, ◌+◌, ◌≤◌, ◌<◌}
use mathlib.Core.Path.{◌≡◌}
use mathlib.Core.Logic.{⊎_elim}
use native.Mathlib.Omega.{arith}
use lib.ListN.{length}
use Rattle.numbers.proofs.Checking.{first_zero, under_zero, unless_zero}
use Rattle.stm8.specs.Effects.{bytes_wide}
use Rattle.stm8.specs.declared.Width.{Width}
use Rattle.stm8.specs.declared.Width.TheVariants.{Byte, Word}
use Rattle.stm8.specs.declared.Place.{Place}
use Rattle.stm8.specs.declared.Place.TheVariants.{Nowhere, Direct, OnStack, Pushed}
use Rattle.stm8.specs.declared.Flow.{Flow}
use Rattle.stm8.specs.declared.Flow.TheVariants.{Next, Branch, Jump, Call, CallRelative, Return}
use Rattle.image.specs.declared.Limits.{Limits}
use Rattle.image.specs.Rules.{LimitsRules}
use Rattle.image.specs.Access.{StoreGranted}
use Rattle.image.proofs.Granting.{granted_exactly}
use Rattle.storage.specs.Storing.{store_trap, bytes_from, stored_at}
use Rattle.machine.specs.Changes.{Among}
use Rattle.machine.proofs.EffectForms.{PushesOwn, Form}
use Rattle.machine.proofs.Stores.{together}
use Rattle.records.specs.Restored.{Rising}

-- where no trap is due, an effect stores in a grant or in the stack
granted_below : (limits : Limits) → LimitsRules limits → (a n address : ℕ) → StoreGranted limits a n → a ≤ address → address < a + n → address ≤ 0x7FFF
granted_below limits areas a n address granted from to =
    ⊎_elim
    (λ h. omega (arith, h.last, areas.grant.high))
    (λ h.
    let present : limits.second.low ≤ limits.second.high = omega (arith, h.first, h.last) in
    omega (arith, h.last, (areas.second present).area.high))
    granted

module _ (limits : Limits) (areas : LimitsRules limits) (sp after pops pushes : ℕ) (moves : after + pushes ≡ sp + pops)
    (fits : sp + pops ≤ limits.stack.high) where
  pub place_below : (place : Place) → store_trap limits sp place ≡ 0 → PushesOwn place pushes → (address : ℕ) → Among address (stored_at sp after place) →
      address ≤ 0x7FFF
  unfolding store_trap stored_at
  place_below Nowhere store own address among = absurd among
  place_below (Direct a w) store own address among =
      let inside = together a w address among in
      granted_below limits areas a (bytes_wide w) address ((granted_exactly limits a (bytes_wide w)).0 (unless_zero _ 24 store)) inside.0 inside.1
  place_below (OnStack f w) store own address among =
      let room = under_zero _ _ 24 (first_zero _ _ store).1 in
      omega (arith, room, (together (sp + f) w address among).1, areas.stack.high)
  place_below (Pushed w) store own address among = omega (arith, own, moves, fits, (together (after + 1) w address among).1, areas.stack.high)

pub pushes_own : (flow : Flow) (pops pushes : ℕ) (place : Place) (stored next : ℕ) → Form flow pops pushes place stored next → PushesOwn place pushes
pushes_own Next pops pushes place stored next form = form
pushes_own (Branch n) pops pushes place stored next form = form
pushes_own (Jump n) pops pushes place stored next form = form
pushes_own (Call a) pops pushes place stored next form = rw (form.2, form.1) (omega arith)
pushes_own (CallRelative n) pops pushes place stored next form = rw (form.2, form.1) (omega arith)
pushes_own Return pops pushes place stored next form = rw form.2 tt

-- a byte or a word
pub few_stored : (sp after : ℕ) (place : Place) → length (stored_at sp after place) ≤ 2
unfolding stored_at
few_stored sp after Nowhere = omega arith
few_stored sp after (Direct a Byte) = omega arith
few_stored sp after (Direct a Word) = omega arith
few_stored sp after (OnStack f Byte) = omega arith
few_stored sp after (OnStack f Word) = omega arith
few_stored sp after (Pushed Byte) = omega arith
few_stored sp after (Pushed Word) = omega arith

rises : (at : ℕ) (w : Width) → Rising (bytes_from at w)
rises at Byte = tt
rises at Word = (omega arith, tt)

pub rising_stored : (sp after : ℕ) (place : Place) → Rising (stored_at sp after place)
unfolding stored_at
rising_stored sp after Nowhere = tt
rising_stored sp after (Direct a w) = rises a w
rising_stored sp after (OnStack f w) = rises (sp + f) w
rising_stored sp after (Pushed w) = rises (after + 1) w
