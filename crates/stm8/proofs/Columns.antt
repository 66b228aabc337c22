-- What holds of each operation of a list that has them all holds of every operation: one computed test for a group of operations.
use mathlib.Core.Path.{◌≡◌, refl}
use mathlib.Core.List.{List, [], ◌∷◌, map}
use lib.ListN.{get_or}
use Rattle.numbers.proofs.Computing.{agree}
use Rattle.stm8.specs.Encoding.{alu_column, modify_column, condition_column}
use Rattle.stm8.specs.declared.AluOp.{AluOp}
use Rattle.stm8.specs.declared.AluOp.TheVariants.{Adc, Add, And, Bcp, Cp, Ld, Or, Sbc, Sub, Xor}
use Rattle.stm8.specs.declared.ModifyOp.{ModifyOp}
use Rattle.stm8.specs.declared.ModifyOp.TheVariants.{Clr, Cpl, Dec, Inc, Neg, Rlc, Rrc, Sll, Sra, Srl, Swap, Tnz}
use Rattle.stm8.specs.declared.Condition.{Condition}
use Rattle.stm8.specs.declared.Condition.TheVariants.{Jra, Jrf, Jrugt, Jrule, Jrnc, Jrc, Jrne, Jreq, Jrnv, Jrv, Jrpl, Jrmi, Jrsgt, Jrsle, Jrsge, Jrslt}

-- each operation stands at its column; a column that has none is filled with the first
abbrev alu_rest : List AluOp
alu_rest = Cp ∷ Sbc ∷ Sub ∷ And ∷ Bcp ∷ Ld ∷ Sub ∷ Xor ∷ Adc ∷ Or ∷ Add ∷ []

at_alu : (o : AluOp) → get_or (Sub ∷ alu_rest) (alu_column o) Sub ≡ o
at_alu Sub = refl
at_alu Cp = refl
at_alu Sbc = refl
at_alu And = refl
at_alu Bcp = refl
at_alu Ld = refl
at_alu Xor = refl
at_alu Adc = refl
at_alu Or = refl
at_alu Add = refl

abbrev modify_rest : List ModifyOp
modify_rest = Neg ∷ Neg ∷ Cpl ∷ Srl ∷ Neg ∷ Rrc ∷ Sra ∷ Sll ∷ Rlc ∷ Dec ∷ Neg ∷ Inc ∷ Tnz ∷ Swap ∷ Clr ∷ []

at_modify : (o : ModifyOp) → get_or (Neg ∷ modify_rest) (modify_column o) Neg ≡ o
at_modify Neg = refl
at_modify Cpl = refl
at_modify Srl = refl
at_modify Rrc = refl
at_modify Sra = refl
at_modify Sll = refl
at_modify Rlc = refl
at_modify Dec = refl
at_modify Inc = refl
at_modify Tnz = refl
at_modify Swap = refl
at_modify Clr = refl

abbrev condition_rest : List Condition
condition_rest = Jrf ∷ Jrugt ∷ Jrule ∷ Jrnc ∷ Jrc ∷ Jrne ∷ Jreq ∷ Jrnv ∷ Jrv ∷ Jrpl ∷ Jrmi ∷ Jrsgt ∷ Jrsle ∷ Jrsge ∷ Jrslt ∷ []

at_condition : (o : Condition) → get_or (Jra ∷ condition_rest) (condition_column o) Jra ≡ o
at_condition Jra = refl
at_condition Jrf = refl
at_condition Jrugt = refl
at_condition Jrule = refl
at_condition Jrnc = refl
at_condition Jrc = refl
at_condition Jrne = refl
at_condition Jreq = refl
at_condition Jrnv = refl
at_condition Jrv = refl
at_condition Jrpl = refl
at_condition Jrmi = refl
at_condition Jrsgt = refl
at_condition Jrsle = refl
at_condition Jrsge = refl
at_condition Jrslt = refl

module _ {B : Type 0} where
  pub each_alu : (f g : AluOp → B) → map f (Sub ∷ alu_rest) ≡ map g (Sub ∷ alu_rest) → (o : AluOp) → f o ≡ g o
  each_alu f g e o = agree Sub alu_rest f g e (alu_column o) o (at_alu o)

  pub each_modify : (f g : ModifyOp → B) → map f (Neg ∷ modify_rest) ≡ map g (Neg ∷ modify_rest) → (o : ModifyOp) → f o ≡ g o
  each_modify f g e o = agree Neg modify_rest f g e (modify_column o) o (at_modify o)

  pub each_condition : (f g : Condition → B) → map f (Jra ∷ condition_rest) ≡ map g (Jra ∷ condition_rest) → (o : Condition) → f o ≡ g o
  each_condition f g e o = agree Jra condition_rest f g e (condition_column o) o (at_condition o)
