-- A record of addresses: what it lists, and that giving it back restores memory where no other byte has changed.
use Prim.Native.Nat.{ℕ, ◌≤◌}
use mathlib.Core.Path.{◌≡◌, refl, sym, ap, ◌∙◌}
use mathlib.Core.Logic.{inl, inr, ⊎_elim, by_cases}
use mathlib.Core.List.{List, [], ◌∷◌, map}
use native.Mathlib.Omega.{arith}
use native.Mathlib.Decide.{ℕ_discrete, dec_lt}
use lib.Dec.{eqb}
use lib.ListN.{length, get_or, set, length-set, get_or-eq_default}
use lib.Seq.{get_or-set_same, get_or-set_other, ext_get_or}
use Rattle.numbers.specs.Checks.{differ}
use Rattle.numbers.specs.Folds.{first_in}
use Rattle.numbers.proofs.Checking.{by_test, first_pass, under_pass, differ_pass}
use Rattle.numbers.proofs.Folding.{first_none, ◌&◌}
use Rattle.execution.specs.declared.Registers.{Registers}
use Rattle.machine.specs.Changes.{Among}
use Rattle.records.specs.Recording.{record_of}
use Rattle.records.specs.Back.{address_check, listed, back_refusal, given_back, stepped_back}
use Rattle.records.specs.Restored.{held_at}

-- one byte more
own_given : (memory memory' : List ℕ) (a : ℕ) → length memory' ≡ length memory → get_or (set memory' a (get_or memory a 0)) a 0 ≡ get_or memory a 0
own_given memory memory' a size =
    by_cases (dec_lt a (length memory'))
    (λ below. get_or-set_same memory' a (get_or memory a 0) 0 below)
    (λ past.
    get_or-eq_default (set memory' a (get_or memory a 0)) 0 (omega (arith, length-set memory' a (get_or memory a 0))) ∙
    sym (get_or-eq_default memory 0 (omega arith)))

restores : (memory addresses memory' : List ℕ) → length memory' ≡ length memory →
    ((a : ℕ) → (Among a addresses → ⊥) → get_or memory' a 0 ≡ get_or memory a 0) → given_back memory' (held_at memory addresses) ≡ memory
unfolding given_back
restores memory [] memory' size same = ext_get_or 0 memory' memory size (λ i below. same i (λ z. z))
restores memory (a ∷ more) memory' size same =
    restores memory more (set memory' a (get_or memory a 0)) (length-set memory' a (get_or memory a 0) ∙ size)
    (λ b outside. by_cases (ℕ_discrete b a)
    (λ e. rw e (own_given memory memory' a size))
    (λ other. get_or-set_other memory' a b (get_or memory a 0) 0 other ∙ same b (λ among. ⊎_elim other outside among)))

-- what a record of addresses lists, and its check
pub lists_own : (regs : Registers) (memory addresses : List ℕ) → length addresses ≤ 2 →
    listed (record_of regs memory addresses) ≡ held_at memory addresses
lists_own regs memory [] few = refl
lists_own regs memory (a ∷ []) few = refl
lists_own regs memory (a ∷ b ∷ []) few = refl
lists_own regs memory (a ∷ b ∷ c ∷ more) few = absurd (omega arith)

addresses_pass : (memory addresses : List ℕ) → ((a : ℕ) → Among a addresses → a ≤ 0x7FFF) → first_in (map address_check (held_at memory addresses)) ≡ 0
unfolding first_in
addresses_pass memory [] below = refl
addresses_pass memory (a ∷ more) below = under_pass 0x7FFF a 26 (below a (inl refl)) & addresses_pass memory more (λ b among. below b (inr among))

module _ (regs : Registers) (memory addresses memory' : List ℕ) (few : length addresses ≤ 2) (full : length memory ≡ 32768)
    (size : length memory' ≡ length memory) (below : (a : ℕ) → Among a addresses → a ≤ 0x7FFF) where
  back_passes : back_refusal (record_of regs memory addresses) memory' ≡ 0
  unfolding back_refusal first_in
  back_passes =
      differ_pass (length memory') 32768 17 (size ∙ full) & under_pass 2 (length addresses) 26 few &
      rw (lists_own regs memory addresses few) (addresses_pass memory addresses below) & refl

  pub all_given : ((a : ℕ) → (Among a addresses → ⊥) → get_or memory' a 0 ≡ get_or memory a 0) →
      stepped_back (record_of regs memory addresses) memory' ≡ (record { number = 0; registers = regs }, memory)
  unfolding stepped_back
  all_given same = rw (back_passes, lists_own regs memory addresses few, restores memory addresses memory' size same)

-- a record of no bytes changes nothing
module _ (regs : Registers) (memory : List ℕ) where
  none_checked : back_refusal (record_of regs memory []) memory ≡ differ (length memory) 32768 17
  unfolding back_refusal first_in
  none_checked = rw (under_pass 2 0 26 (omega arith), first_pass, first_pass) (first_none (differ (length memory) 32768 17))

  pub none_given : stepped_back (record_of regs memory []) memory ≡ (record { number = differ (length memory) 32768 17; registers = regs }, memory)
  unfolding stepped_back given_back
  none_given =
      rw none_checked
      (ap (λ (m : List ℕ). (record { number = differ (length memory) 32768 17; registers = regs }, m))
      (by_test (λ (m : List ℕ). m ≡ memory) (eqb (differ (length memory) 32768 17) 0) (λ t. refl) (λ t. refl)))
