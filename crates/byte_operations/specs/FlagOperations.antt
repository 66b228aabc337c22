-- The operations on a flag alone: CC after each.
use Rattle.std.specs.Prelude.{ℕ, true, false, not}
use Rattle.stm8.specs.declared.FlagOp.{FlagOp}
use Rattle.stm8.specs.declared.FlagOp.TheVariants.{Ccf, Rcf, Rvf, Scf}
use Rattle.arithmetic.specs.Flags.{flag_c, with_v, with_c}

abbrev pub flag_result : FlagOp → ℕ → ℕ
-- - - - - - - C, complemented
flag_result Ccf cc = with_c (not (flag_c cc)) cc
-- - - - - - - 0
flag_result Rcf cc = with_c false cc
-- 0 - - - - - -
flag_result Rvf cc = with_v false cc
-- - - - - - - 1
flag_result Scf cc = with_c true cc
