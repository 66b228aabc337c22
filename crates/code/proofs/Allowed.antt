-- Every version allows every instruction but CALLR.
use Prim.Native.Nat.{ℕ}
use mathlib.Core.Path.{◌≡◌, refl}
use mathlib.Core.Bool.{Bool, true, false, cond, not}
use lib.Dec.{eqb}
use Rattle.stm8.specs.Effects.{falls_through}
use Rattle.stm8.specs.declared.Instruction.{Instruction}
use Rattle.stm8.specs.declared.Instruction.TheVariants as I
use Rattle.stm8.specs.declared.Flow.TheVariants.{Branch, Jump}
use Rattle.code.specs.Set.{is_callr, allowed}

-- an instruction that is not CALLR
abbrev NotCallr : Instruction → Type 0
NotCallr i = (n : ℕ) → i ≡ I.Callr n → ⊥

pub others_allowed : (version : ℕ) (i : Instruction) → NotCallr i → allowed version i ≡ true
others_allowed version (I.Alu o x) k = refl
others_allowed version (I.Store x) k = refl
others_allowed version (I.LoadHalf r h) k = refl
others_allowed version (I.StoreHalf r h) k = refl
others_allowed version (I.Modify o x) k = refl
others_allowed version (I.LoadWord r x) k = refl
others_allowed version (I.StoreWord r x) k = refl
others_allowed version (I.CopyWord r) k = refl
others_allowed version (I.WordAlu o r w) k = refl
others_allowed version (I.WordModify o r) k = refl
others_allowed version (I.Pushw r) k = refl
others_allowed version (I.Popw r) k = refl
others_allowed version I.Exgw k = refl
others_allowed version (I.Mul r) k = refl
others_allowed version (I.Bit o n a) k = refl
others_allowed version (I.BitJump o n a j) k = refl
others_allowed version (I.Mov to from) k = refl
others_allowed version (I.Push x) k = refl
others_allowed version (I.Pop x) k = refl
others_allowed version (I.SubSp n) k = refl
others_allowed version (I.AddSp n) k = refl
others_allowed version (I.Jump o n) k = go (falls_through o)
  where
    go : (t : Bool) → cond (is_callr (cond t (Branch n) (Jump n))) (not (eqb version 0x0002)) true ≡ true
    go true = refl
    go false = refl
others_allowed version (I.Call a) k = refl
others_allowed version (I.Callr n) k = absurd (k n refl)
others_allowed version I.Ret k = refl
others_allowed version I.Nop k = refl
others_allowed version (I.Flag o) k = refl
