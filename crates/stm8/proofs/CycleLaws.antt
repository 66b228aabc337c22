-- What the figures of all instructions have in common.
use Prim.Native.Nat.{ℕ, ◌+◌, ◌≤◌}
use mathlib.Core.Path.{◌≡◌, refl}
use mathlib.Core.Bool.{Bool, true, false, cond}
use native.Mathlib.Omega.{arith}
use Rattle.stm8.specs.Effects.{effect, falls_through}
use Rattle.stm8.specs.Cycles.{once, either, cycles, charged}
use Rattle.stm8.specs.declared.Instruction.{Instruction}
use Rattle.stm8.specs.declared.Instruction.TheVariants as I
use Rattle.stm8.specs.declared.Flow.{Flow}
use Rattle.stm8.specs.declared.Flow.TheVariants.{Next, Branch, Jump, Call, CallRelative, Return}
use Rattle.stm8.specs.declared.Cycles.{Cycles}

-- what a branch costs more that is taken: what has no choice has one figure
abbrev pub extra : Flow → ℕ
extra Next = 0
extra (Branch n) = 1
extra (Jump n) = 0
extra (Call a) = 0
extra (CallRelative n) = 0
extra Return = 0

-- a cycle at least, and four at most
pub record Figures (c : Cycles) (flow : Flow) : Type 0 where
  pub fits : c.taken ≡ c.untaken + extra flow
  pub some : 1 ≤ c.untaken
  pub most : c.taken ≤ 4

of_jump : (falls : Bool) (n : ℕ) → Figures (cond falls (either 1 2) (once 2)) (cond falls (Branch n) (Jump n))
of_jump true n = record { fits = refl; some = omega arith; most = omega arith }
of_jump false n = record { fits = refl; some = omega arith; most = omega arith }

pub figures : (i : Instruction) → Figures (cycles i) (effect i).flow
figures (I.Alu o x) = record { fits = refl; some = omega arith; most = omega arith }
figures (I.WordAlu o r w) = record { fits = refl; some = omega arith; most = omega arith }
figures (I.AddSp n) = record { fits = refl; some = omega arith; most = omega arith }
figures (I.Bit o n a) = record { fits = refl; some = omega arith; most = omega arith }
figures (I.BitJump o n a j) = record { fits = refl; some = omega arith; most = omega arith }
figures (I.Call a) = record { fits = refl; some = omega arith; most = omega arith }
figures (I.Callr n) = record { fits = refl; some = omega arith; most = omega arith }
figures (I.Flag o) = record { fits = refl; some = omega arith; most = omega arith }
figures (I.Modify o x) = record { fits = refl; some = omega arith; most = omega arith }
figures (I.WordModify o r) = record { fits = refl; some = omega arith; most = omega arith }
figures I.Exgw = record { fits = refl; some = omega arith; most = omega arith }
figures (I.Jump o n) = of_jump (falls_through o) n
figures (I.Store x) = record { fits = refl; some = omega arith; most = omega arith }
figures (I.LoadHalf r h) = record { fits = refl; some = omega arith; most = omega arith }
figures (I.StoreHalf r h) = record { fits = refl; some = omega arith; most = omega arith }
figures (I.LoadWord r x) = record { fits = refl; some = omega arith; most = omega arith }
figures (I.StoreWord r x) = record { fits = refl; some = omega arith; most = omega arith }
figures (I.CopyWord r) = record { fits = refl; some = omega arith; most = omega arith }
figures (I.Mov to from) = record { fits = refl; some = omega arith; most = omega arith }
figures (I.Mul r) = record { fits = refl; some = omega arith; most = omega arith }
figures I.Nop = record { fits = refl; some = omega arith; most = omega arith }
figures (I.Pop x) = record { fits = refl; some = omega arith; most = omega arith }
figures (I.Popw r) = record { fits = refl; some = omega arith; most = omega arith }
figures (I.Push x) = record { fits = refl; some = omega arith; most = omega arith }
figures (I.Pushw r) = record { fits = refl; some = omega arith; most = omega arith }
figures I.Ret = record { fits = refl; some = omega arith; most = omega arith }
figures (I.SubSp n) = record { fits = refl; some = omega arith; most = omega arith }

-- so is what is charged
pub charged_some : (i : Instruction) (is : Bool) → 1 ≤ charged (cycles i) is
charged_some i true = omega (arith, (figures i).fits, (figures i).some)
charged_some i false = (figures i).some

pub charged_most : (i : Instruction) (is : Bool) → charged (cycles i) is ≤ 4
charged_most i true = (figures i).most
charged_most i false = omega (arith, (figures i).fits, (figures i).most)
