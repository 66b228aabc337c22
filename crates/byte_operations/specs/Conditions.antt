-- The conditions of the relative jumps, in the order of their op-codes 20 to 2F.
use Rattle.std.specs.Prelude.{ℕ, Bool, true, false, not, ◌&&◌, ◌||◌}
use Rattle.std.specs.Bool.{xor}
use Rattle.stm8.specs.declared.Condition.{Condition}
use Rattle.stm8.specs.declared.Condition.TheVariants.{Jra, Jrf, Jrugt, Jrule, Jrnc, Jrc, Jrne, Jreq, Jrnv, Jrv, Jrpl, Jrmi, Jrsgt, Jrsle, Jrsge, Jrslt}
use Rattle.arithmetic.specs.Flags.{flag_v, flag_n, flag_z, flag_c}

abbrev pub holds : Condition → ℕ → Bool
holds Jra cc = true
holds Jrf cc = false
-- C = 0 and Z = 0
holds Jrugt cc = not (flag_c cc) && not (flag_z cc)
-- C = 1 or Z = 1
holds Jrule cc = flag_c cc || flag_z cc
holds Jrnc cc = not (flag_c cc)
holds Jrc cc = flag_c cc
holds Jrne cc = not (flag_z cc)
holds Jreq cc = flag_z cc
holds Jrnv cc = not (flag_v cc)
holds Jrv cc = flag_v cc
holds Jrpl cc = not (flag_n cc)
holds Jrmi cc = flag_n cc
-- (Z or (N xor V)) = 0
holds Jrsgt cc = not (flag_z cc || xor (flag_n cc) (flag_v cc))
-- (Z or (N xor V)) = 1
holds Jrsle cc = flag_z cc || xor (flag_n cc) (flag_v cc)
-- (N xor V) = 0
holds Jrsge cc = not (xor (flag_n cc) (flag_v cc))
-- (N xor V) = 1
holds Jrslt cc = xor (flag_n cc) (flag_v cc)
