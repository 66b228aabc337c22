-- What a line is refused with: 30 where its form is wrong or the end record was read, else by its type and its place.
use Prim.Native.Nat.{ℕ, suc, ◌≤◌}
use mathlib.Core.Path.{◌≡◌, refl, ◌∙◌, subst}
use mathlib.Core.List.{List}
use native.Mathlib.Omega.{arith}
use lib.Dec.{eqb}
use borrow.Author.Tests.{lt-ltb, ne_eqb}
use Rattle.numbers.specs.Checks.{first, under, differ}
use Rattle.numbers.specs.Folds.{first_in}
use Rattle.numbers.proofs.Checking.{first_zero, first_pass, differ_pass}
use Rattle.numbers.proofs.Numbering.{Numbered, pass, not_zero, ◌then◌, tested, under_numbered, unless_numbered, differ_numbered}
use Rattle.hex_records.specs.Judging.{shape_check, open_check, follow_check, form_check, line_check}
use Rattle.hex_records.specs.Lines.{Open, Follows}
use Rattle.hex_records.specs.Lines as Lines
use Rattle.hex_records.specs.declared.Place.{Place}
use Rattle.hex_records.specs.declared.Place.TheVariants.{First, Next, Ended}

pub open_pass : (place : Place) → Open place → open_check place ≡ 0
unfolding open_check
open_pass First Lines.first = refl
open_pass (Next n) Lines.next = refl
open_pass Ended x' = elim x' [ ]

shape_numbered : (type n address : ℕ) → Numbered 30 30 (shape_check type n address)
unfolding shape_check
shape_numbered type n address =
    tested (eqb type 0) (under_numbered 30 refl n 1) (tested (eqb type 1) (differ_numbered 30 refl n 0 then differ_numbered 30 refl address 0) pass)

form_numbered : (bytes : List ℕ) → Numbered 30 30 (form_check bytes)
unfolding form_check first_in
form_numbered bytes =
    unless_numbered 30 refl _ then differ_numbered 30 refl _ _ then differ_numbered 30 refl _ _ then
    shape_numbered _ _ _ then pass

pub first_fails : (a b k : ℕ) → a ≡ suc k → first a b ≡ suc k
unfolding first
first_fails a b k e = rw (e, ne_eqb (suc k) 0 (λ z. omega (arith, z)))

pub form_fails : (place : Place) (bytes : List ℕ) → Open place → (form_check bytes ≡ 0 → ⊥) → line_check place bytes ≡ 30
unfolding line_check first_in
form_fails place bytes isOpen bad =
    let ends = not_zero (form_numbered bytes) bad in
    rw (open_pass place isOpen) (first_pass _ ∙ first_fails (form_check bytes) _ 29 (omega (arith, ends.0, ends.1)))

pub ended_fails : (bytes : List ℕ) → line_check Ended bytes ≡ 30
unfolding line_check first_in open_check
ended_fails bytes = first_fails 30 _ 29 refl

-- a line whose form is wrong gives 30 at any place, and one that is not refused is well formed
pub by_form : (place : Place) (bytes : List ℕ) → form_check bytes ≡ 30 → line_check place bytes ≡ 30
by_form First bytes e = form_fails First bytes Lines.first (λ z. let y : ⊥ = omega (arith, e, z) in y)
by_form (Next n) bytes e = form_fails (Next n) bytes Lines.next (λ z. let y : ⊥ = omega (arith, e, z) in y)
by_form Ended bytes e = ended_fails bytes

pub passed_formed : (place : Place) (bytes : List ℕ) → line_check place bytes ≡ 0 → form_check bytes ≡ 0
unfolding line_check first_in
passed_formed place bytes e = (first_zero _ _ (first_zero _ _ e).1).0

-- by its type, and by its place
pub type_fails : (type : ℕ) → 2 ≤ type → under 1 type 31 ≡ 31
unfolding under
type_fails type h = rw (lt-ltb 1 type h)

pub follow_pass : (place : Place) (address : ℕ) → Follows place address → follow_check place address ≡ 0
unfolding follow_check
follow_pass First address Lines.base = refl
follow_pass (Next n) address Lines.on = differ_pass address address 32 refl
follow_pass Ended address x' = elim x' [ ]

pub follow_fails : (place : Place) (address : ℕ) → Open place → (Follows place address → ⊥) → follow_check place address ≡ 32
unfolding follow_check differ
follow_fails First address Lines.first bad = absurd (bad Lines.base)
follow_fails (Next n) address Lines.next bad =
    rw (ne_eqb address n (λ e. bad (subst (λ (m : ℕ). Follows (Next m) address) e Lines.on)))
follow_fails Ended address x'' bad = elim x'' [ ]
