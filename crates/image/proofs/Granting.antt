-- The test of a store is true exactly where the store is granted, and then each of its bytes is. A second grant that is not present grants nothing,
-- a word over the seam of two grants is not granted, and no byte of the stack is.
use Rattle.std.proofs.Common.{◌≡◌, ℕ, ◌+◌, ◌<◌, ◌≤◌, true, leb, ◌↔◌, refl, inl, inr, ⊎_elim, arith, le-leb, leb-true}
use mathlib.Core.Bool.{false≢true}
use Rattle.numbers.proofs.Checking.{by_cond, by_test}
use Rattle.image.specs.Rules.{Within, Present, LimitsRules}
use Rattle.image.specs.Access.{Wholly, wholly, StoreGranted, granted, Granted}
use Rattle.image.specs.declared.Area.{Area}
use Rattle.image.specs.declared.Limits.{Limits}

module _ (area : Area) (address n : ℕ) where
  wholly_exactly : (wholly area address n ≡ true) ↔ Wholly area address n
  unfolding wholly
  wholly_exactly = (
    by_cond (leb area.low address)
        (λ t e. record { first = leb-true _ _ t; last = leb-true _ _ e })
        (λ t e. absurd (false≢true e)),
    λ h. rw (le-leb area.low address h.first) (le-leb _ _ h.last),
  )

  wholly_byte : Wholly area address n → (k : ℕ) → k < n → Within area (address + k)
  wholly_byte h k below = record { above = omega (arith, h.first); below = omega (arith, h.last) }

  begins_within : Wholly area address n → 1 ≤ n → Within area address
  begins_within h some = record { above = h.first; below = omega (arith, h.last) }

-- only what is present has an address
within_present : {area : Area} {address : ℕ} → Within area address → Present area
within_present w = omega (arith, w.above, w.below)

module _ (limits : Limits) where
  module _ (address n : ℕ) where
    pub granted_exactly : (granted limits address n ≡ true) ↔ StoreGranted limits address n
    unfolding granted
    granted_exactly = (
      by_cond (wholly limits.grant address n)
          (λ t e. inl ((wholly_exactly _ _ _).0 t))
          (λ t e. inr ((wholly_exactly _ _ _).0 e)),
      ⊎_elim
          (λ h. rw ((wholly_exactly _ _ _).1 h))
          (λ h. rw ((wholly_exactly _ _ _).1 h) (by_test (λ t. t ≡ true) (wholly limits.grant address n) (λ t. refl) (λ t. refl))),
    )

    -- "low above high means none", whatever the two are
    pub without_second : (Present limits.second → ⊥) → 1 ≤ n → StoreGranted limits address n ↔ Wholly limits.grant address n
    without_second none some = (⊎_elim (λ h. h) (λ h. absurd (none (within_present (begins_within _ _ _ h (omega (arith, some)))))), inl)

    pub granted_byte : StoreGranted limits address n → (k : ℕ) → k < n → Granted limits (address + k)
    granted_byte h k below =
        ⊎_elim
        (λ g. inl (wholly_byte _ _ _ g k below))
        (λ g. inr (wholly_byte _ _ _ g k below))
        h

  -- a word that begins in a grant's last byte is not granted, even where its second byte lies in the other grant
  pub over_seam : LimitsRules limits →
      (StoreGranted limits limits.grant.high 2 → ⊥) × (Present limits.second → StoreGranted limits limits.second.high 2 → ⊥)
  over_seam rules =
      let last : Within limits.grant limits.grant.high = record { above = rules.grant.ordered; below = omega arith } in (
        ⊎_elim
            (λ h. omega (arith, h.last))
            (λ h. let w = begins_within _ _ _ h (omega arith) in (rules.second (within_present w)).off_grant _ last w),
        λ present. ⊎_elim
            (λ h. (rules.second present).off_grant _ (begins_within _ _ _ h (omega arith)) (record { above = present; below = omega arith }))
            (λ h. omega (arith, h.last)),
      )

  -- no byte of the stack is
  pub granted_off_stack : LimitsRules limits → (address : ℕ) → Granted limits address → Within limits.stack address → ⊥
  granted_off_stack rules address granted stack =
      ⊎_elim
      (λ h. rules.apart address h stack)
      (λ h. (rules.second (within_present h)).off_stack address stack h)
      granted
