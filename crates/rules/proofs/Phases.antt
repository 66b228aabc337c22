-- The lowest fault of the first phase that has one: it is a fault of some phase, and there is at most one where each phase names at most one number
-- at an offset. Of a phase that need hold only where the phases before it have no fault.
use Prim.Native.Nat.{ℕ}
use mathlib.Core.Path.{◌≡◌}
use mathlib.Core.Logic.{by_cases}
use mathlib.Core.List.{List, [], ◌∷◌}
use native.Mathlib.Decide.{dec_lt}
use native.Mathlib.Omega.{arith}
use Rattle.rules.specs.Refusal.{Phase, Lowest, FirstOf, here, later}

pub first_fault : {At : Phase → ℕ → ℕ → Type 0} {phases : List Phase} {n o : ℕ} → FirstOf At phases n o → (phase : Phase) × At phase o n
first_fault (here {phase = phase} l) = (phase, l.fault)
first_fault (later none rest) = first_fault rest

abbrev pub OneNumber : (ℕ → ℕ → Type 0) → Type 0
OneNumber At = (o n n' : ℕ) → At o n → At o n' → n ≡ n'

abbrev pub OneNumbers : (Phase → ℕ → ℕ → Type 0) → List Phase → Type 0
OneNumbers At [] = Unit {0}
OneNumbers At (phase ∷ rest) = OneNumber (At phase) × (((o n : ℕ) → At phase o n → ⊥) → OneNumbers At rest)

one_lowest : {At : ℕ → ℕ → Type 0} {n n' o o' : ℕ} → OneNumber At → Lowest At n o → Lowest At n' o' → (n ≡ n') × (o ≡ o')
one_lowest {At} {n} {n'} {o} {o'} one a b =
    let same : o ≡ o' =
    by_cases (dec_lt o o') (λ l. absurd (b.lowest o n l a.fault))
    (λ l. by_cases (dec_lt o' o) (λ l. absurd (a.lowest o' n' l b.fault)) (λ l'. omega arith)) in
    (one o n n' a.fault (rw same b.fault), same)

pub one_first : {At : Phase → ℕ → ℕ → Type 0} (phases : List Phase) → OneNumbers At phases →
    {n n' o o' : ℕ} → FirstOf At phases n o → FirstOf At phases n' o' → (n ≡ n') × (o ≡ o')
one_first (phase ∷ rest) one (here a) (here b) = one_lowest one.0 a b
one_first (phase ∷ rest) one (here a) (later none b) = absurd (none _ _ a.fault)
one_first (phase ∷ rest) one (later none a) (here b) = absurd (none _ _ b.fault)
one_first (phase ∷ rest) one (later none a) (later none' b) = one_first rest (one.1 none) a b
one_first {At = At} [] one {n = n} {o = o} x3 _ = elim x3 [ ]
