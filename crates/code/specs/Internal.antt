-- What the private functions of the code's own crate go by. No public contract cites it.
use Rattle.std.specs.Prelude.{ℕ, Bool, false, cond, not, eqb}
use Rattle.stm8.specs.declared.Instruction.TheVariants.{Callr}
use Rattle.code.specs.Set.{allowed}

-- whether a version leaves CALLR out,
abbrev pub without_callr : ℕ → Bool
without_callr version = not (allowed version (Callr 0))

-- and so all that begins with a byte
abbrev pub left_out : ℕ → ℕ → Bool
left_out version first = cond (eqb first 0xAD) (without_callr version) false
