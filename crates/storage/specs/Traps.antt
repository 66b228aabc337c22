-- The traps of a step by document 01's numbers.
use Rattle.std.specs.Prelude.{ℕ, Result, Ok, Err}
use Rattle.storage.specs.declared.Trap.{Trap}
use Rattle.storage.specs.declared.Trap.TheVariants.{Sp, Pc, Outside, Stack, Store}

abbrev pub trap_number : Trap → ℕ
trap_number Sp = 21
trap_number Pc = 22
trap_number Outside = 23
trap_number Stack = 24
trap_number Store = 25

-- the number of a test: 0 where no trap is due
abbrev pub number_of : Result (Unit {0}) Trap → ℕ
number_of (Ok _) = 0
number_of (Err trap) = trap_number trap
