-- How long texts are: never empty, and at most `longest` bytes.
use Prim.Native.Nat.{ℕ, ◌+◌, ◌≤◌}
use mathlib.Core.Path.{◌≡◌, refl}
use mathlib.Core.Bool.{Bool, true, false, cond}
use mathlib.Core.List.{List, [], ◌∷◌}
use native.Mathlib.Nat.{le_refl}
use native.Mathlib.Omega.{arith}
use lib.Dec.{T, leb, lit≤}
use lib.ListN.{length, length-append}
use Rattle.numbers.specs.Ascii.{ascii}
use Rattle.stm8.specs.Encoding.{bytes_of}
use Rattle.stm8.specs.IndexRegisters.{other_of}
use Rattle.stm8.specs.declared.Register.{Register}
use Rattle.stm8.specs.declared.Register.TheVariants.{X, Y}
use Rattle.stm8.specs.declared.Half.{Half}
use Rattle.stm8.specs.declared.Half.TheVariants.{Low, High}
use Rattle.stm8.specs.declared.Offset.TheVariants.{Zero, Byte, Word}
use Rattle.stm8.specs.declared.Operand.{Operand}
use Rattle.stm8.specs.declared.Operand.TheVariants.{Accumulator, Immediate, ImmediateWord, Short, Long, Indexed, Sp}
use Rattle.stm8.specs.declared.AluOp.{AluOp}
use Rattle.stm8.specs.declared.AluOp.TheVariants.{Adc, Add, And, Bcp, Cp, Ld, Or, Sbc, Sub, Xor}
use Rattle.stm8.specs.declared.ModifyOp.{ModifyOp}
use Rattle.stm8.specs.declared.ModifyOp.TheVariants.{Clr, Cpl, Dec, Inc, Neg, Rlc, Rrc, Sll, Sra, Srl, Swap, Tnz}
use Rattle.stm8.specs.declared.WordAluOp.{WordAluOp}
use Rattle.stm8.specs.declared.WordAluOp.TheVariants.{Addw, Cpw, Subw}
use Rattle.stm8.specs.declared.WordModifyOp.{WordModifyOp}
use Rattle.stm8.specs.declared.WordModifyOp.TheVariants.{Clrw, Decw, Incw}
use Rattle.stm8.specs.declared.BitOp.{BitOp}
use Rattle.stm8.specs.declared.BitOp.TheVariants.{Bccm, Bcpl, Bres, Bset}
use Rattle.stm8.specs.declared.BitTest.{BitTest}
use Rattle.stm8.specs.declared.BitTest.TheVariants.{Btjf, Btjt}
use Rattle.stm8.specs.declared.Condition.{Condition}
use Rattle.stm8.specs.declared.Condition.TheVariants.{Jra, Jrf, Jrugt, Jrule, Jrnc, Jrc, Jrne, Jreq, Jrnv, Jrv, Jrpl, Jrmi, Jrsgt, Jrsle, Jrsge, Jrslt}
use Rattle.stm8.specs.declared.FlagOp.{FlagOp}
use Rattle.stm8.specs.declared.FlagOp.TheVariants.{Ccf, Rcf, Rvf, Scf}
use Rattle.stm8.specs.declared.Instruction.{Instruction}
use Rattle.stm8.specs.declared.Instruction.TheVariants.{Alu, Store, LoadHalf, StoreHalf, Modify, LoadWord, StoreWord, CopyWord, WordAlu, WordModify, Pushw, Popw, Exgw, Mul, Bit, BitJump, Mov, Push, Pop, SubSp, AddSp, Jump, Call, Callr, Ret, Nop, Flag}
use Rattle.notation.specs.Names.{alu_name, modify_name, word_alu_name, word_modify_name, bit_name, test_name, condition_name, flag_name}
use Rattle.notation.specs.Notation.{word_text, bit_position, register_text, half_text, operand_text, line}
use Rattle.notation.specs.Writing.{longest}
use Rattle.disassembly.specs.Text.{target, text_before, text}

pub length_cond : (t : Bool) (s : List ℕ) → length (cond t s []) ≡ cond t (length s) 0
length_cond true s = refl
length_cond false s = refl

-- at least one element, and at most n
pub record Sized (n : ℕ) (s : List ℕ) : Type 0 where
  pub some : 1 ≤ length s
  pub most : length s ≤ n

-- where the length computes
within : {n : ℕ} {s : List ℕ} → T (leb 1 (length s)) → T (leb (length s) n) → Sized n s
within low high = record { some = lit≤ low; most = lit≤ high }

exactly : (s : List ℕ) → T (leb 1 (length s)) → Sized (length s) s
exactly s low = record { some = lit≤ low; most = le_refl (length s) }

-- names have one to five letters
alu_size : (o : AluOp) → Sized 5 (alu_name o)
alu_size Adc = within tt tt
alu_size Add = within tt tt
alu_size And = within tt tt
alu_size Bcp = within tt tt
alu_size Cp = within tt tt
alu_size Ld = within tt tt
alu_size Or = within tt tt
alu_size Sbc = within tt tt
alu_size Sub = within tt tt
alu_size Xor = within tt tt

modify_size : (o : ModifyOp) → Sized 5 (modify_name o)
modify_size Clr = within tt tt
modify_size Cpl = within tt tt
modify_size Dec = within tt tt
modify_size Inc = within tt tt
modify_size Neg = within tt tt
modify_size Rlc = within tt tt
modify_size Rrc = within tt tt
modify_size Sll = within tt tt
modify_size Sra = within tt tt
modify_size Srl = within tt tt
modify_size Swap = within tt tt
modify_size Tnz = within tt tt

word_alu_size : (o : WordAluOp) → Sized 5 (word_alu_name o)
word_alu_size Addw = within tt tt
word_alu_size Cpw = within tt tt
word_alu_size Subw = within tt tt

word_modify_size : (o : WordModifyOp) → Sized 5 (word_modify_name o)
word_modify_size Clrw = within tt tt
word_modify_size Decw = within tt tt
word_modify_size Incw = within tt tt

bit_size : (o : BitOp) → Sized 5 (bit_name o)
bit_size Bccm = within tt tt
bit_size Bcpl = within tt tt
bit_size Bres = within tt tt
bit_size Bset = within tt tt

test_size : (o : BitTest) → Sized 5 (test_name o)
test_size Btjf = within tt tt
test_size Btjt = within tt tt

condition_size : (o : Condition) → Sized 5 (condition_name o)
condition_size Jra = within tt tt
condition_size Jrf = within tt tt
condition_size Jrugt = within tt tt
condition_size Jrule = within tt tt
condition_size Jrnc = within tt tt
condition_size Jrc = within tt tt
condition_size Jrne = within tt tt
condition_size Jreq = within tt tt
condition_size Jrnv = within tt tt
condition_size Jrv = within tt tt
condition_size Jrpl = within tt tt
condition_size Jrmi = within tt tt
condition_size Jrsgt = within tt tt
condition_size Jrsle = within tt tt
condition_size Jrsge = within tt tt
condition_size Jrslt = within tt tt

flag_size : (o : FlagOp) → Sized 5 (flag_name o)
flag_size Ccf = within tt tt
flag_size Rcf = within tt tt
flag_size Rvf = within tt tt
flag_size Scf = within tt tt

register_size : (r : Register) → Sized 1 (register_text r)
register_size X = within tt tt
register_size Y = within tt tt

half_size : (r : Register) (h : Half) → Sized 2 (half_text r h)
half_size X Low = within tt tt
half_size X High = within tt tt
half_size Y Low = within tt tt
half_size Y High = within tt tt

operand_size : (x : Operand) → Sized 9 (operand_text x)
operand_size Accumulator = within tt tt
operand_size (Immediate n) = within tt tt
operand_size (ImmediateWord w) = within tt tt
operand_size (Short a) = within tt tt
operand_size (Long a) = within tt tt
operand_size (Indexed X Zero) = within tt tt
operand_size (Indexed X (Byte n)) = within tt tt
operand_size (Indexed X (Word w)) = within tt tt
operand_size (Indexed Y Zero) = within tt tt
operand_size (Indexed Y (Byte n)) = within tt tt
operand_size (Indexed Y (Word w)) = within tt tt
operand_size (Sp n) = within tt tt

-- lines with no operand, with one, two and three
alone : {k : ℕ} {name : List ℕ} → Sized k name → k ≤ longest → Sized longest (line name [])
alone a h = record { some = simp length-append (omega arith); most = simp length-append (omega arith) }

module _ {k l : ℕ} {name x : List ℕ} (a : Sized k name) (b : Sized l x) where
  one : k + l ≤ 22 → Sized longest (line name (x ∷ []))
  one h = record { some = simp length-append (omega arith); most = simp length-append (omega arith) }

  two : {m : ℕ} {y : List ℕ} → Sized m y → k + l + m ≤ 21 → Sized longest (line name (x ∷ y ∷ []))
  two c h = record { some = simp length-append (omega arith); most = simp length-append (omega arith) }

  three : {m n : ℕ} {y z : List ℕ} → Sized m y → Sized n z → k + l + m + n ≤ 20 → Sized longest (line name (x ∷ y ∷ z ∷ []))
  three c d h = record { some = simp length-append (omega arith); most = simp length-append (omega arith) }

sizes : (next : ℕ) (i : Instruction) → Sized longest (text_before next i)
sizes next (Alu o x) = two (alu_size o) (exactly (ascii "A") tt) (operand_size x) (lit≤ tt)
sizes next (Store x) = two (exactly (ascii "LD") tt) (operand_size x) (exactly (ascii "A") tt) (lit≤ tt)
sizes next (LoadHalf r h) = two (exactly (ascii "LD") tt) (exactly (ascii "A") tt) (half_size r h) (lit≤ tt)
sizes next (StoreHalf r h) = two (exactly (ascii "LD") tt) (half_size r h) (exactly (ascii "A") tt) (lit≤ tt)
sizes next (Modify o x) = one (modify_size o) (operand_size x) (lit≤ tt)
sizes next (LoadWord r x) = two (exactly (ascii "LDW") tt) (register_size r) (operand_size x) (lit≤ tt)
sizes next (StoreWord r x) = two (exactly (ascii "LDW") tt) (operand_size x) (register_size r) (lit≤ tt)
sizes next (CopyWord r) = two (exactly (ascii "LDW") tt) (register_size r) (register_size (other_of r)) (lit≤ tt)
sizes next (WordAlu o r w) = two (word_alu_size o) (register_size r) (operand_size (ImmediateWord w)) (lit≤ tt)
sizes next (WordModify o r) = one (word_modify_size o) (register_size r) (lit≤ tt)
sizes next (Pushw r) = one (exactly (ascii "PUSHW") tt) (register_size r) (lit≤ tt)
sizes next (Popw r) = one (exactly (ascii "POPW") tt) (register_size r) (lit≤ tt)
sizes next Exgw = within tt tt
sizes next (Mul r) = two (exactly (ascii "MUL") tt) (register_size r) (exactly (ascii "A") tt) (lit≤ tt)
sizes next (Bit o n w) = two (bit_size o) (exactly (word_text w) tt) (exactly (bit_position n) tt) (lit≤ tt)
sizes next (BitJump o n w j) =
    three (test_size o) (exactly (word_text w) tt) (exactly (bit_position n) tt) (exactly (word_text (target next j)) tt) (lit≤ tt)
sizes next (Mov to from) = two (exactly (ascii "MOV") tt) (operand_size to) (operand_size from) (lit≤ tt)
sizes next (Push x) = one (exactly (ascii "PUSH") tt) (operand_size x) (lit≤ tt)
sizes next (Pop x) = one (exactly (ascii "POP") tt) (operand_size x) (lit≤ tt)
sizes next (SubSp n) = within tt tt
sizes next (AddSp n) = within tt tt
sizes next (Jump o n) = one (condition_size o) (exactly (word_text (target next n)) tt) (lit≤ tt)
sizes next (Call w) = within tt tt
sizes next (Callr n) = within tt tt
sizes next Ret = within tt tt
sizes next Nop = within tt tt
sizes next (Flag o) = alone (flag_size o) (lit≤ tt)

-- a text is never empty, and none is longer than `longest`
pub text_size : (address : ℕ) (i : Instruction) → Sized longest (text address i)
unfolding text
text_size address i = sizes (address + length (bytes_of i)) i
