-- The numbers of traps, and what `?` passes on.
use Prim.Native.Nat.{ℕ}
use mathlib.Core.Path.{◌≡◌, refl, ap, sym, ◌∙◌}
use mathlib.Core.Bool.{false}
use lib.Dec.{eqb}
use Rattle.std.specs.Prelude.{Result, Ok, Err, IsErrAnd}
use Rattle.std.proofs.lemmas.Result.{err_from_is_err_and}
use Rattle.numbers.specs.Checks.{first}
use Rattle.storage.specs.declared.Trap.{Trap}
use Rattle.storage.specs.declared.Trap.TheVariants.{Sp, Pc, Outside, Stack, Store}
use Rattle.storage.specs.Traps.{trap_number, number_of}

-- no trap has the number 0
pub trap_some : (trap : Trap) → eqb (trap_number trap) 0 ≡ false
trap_some Sp = refl
trap_some Pc = refl
trap_some Outside = refl
trap_some Stack = refl
trap_some Store = refl

-- so a trap is the first of two, whatever the other
pub first_trap : (trap : Trap) (other : ℕ) → trap_number trap ≡ first (trap_number trap) other
unfolding first
first_trap trap other = rw (trap_some trap)

pub passed_on : {T : Type 0} (trap : Trap) (r : Result T Trap) → IsErrAnd r (λ e. e ≡ trap) → r ≡ Err trap
passed_on trap r passed = let p = err_from_is_err_and r passed in p.1 ∙ ap Err p.2
