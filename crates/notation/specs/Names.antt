-- The names of the operations, as document 01 lists them.
use Rattle.std.specs.Prelude.{ℕ, List}
use Rattle.numbers.specs.Ascii.{ascii}
use Rattle.stm8.specs.declared.AluOp.{AluOp}
use Rattle.stm8.specs.declared.AluOp.TheVariants.{Adc, Add, And, Bcp, Cp, Ld, Or, Sbc, Sub, Xor}
use Rattle.stm8.specs.declared.ModifyOp.{ModifyOp}
use Rattle.stm8.specs.declared.ModifyOp.TheVariants.{Clr, Cpl, Dec, Inc, Neg, Rlc, Rrc, Sll, Sra, Srl, Swap, Tnz}
use Rattle.stm8.specs.declared.WordAluOp.{WordAluOp}
use Rattle.stm8.specs.declared.WordAluOp.TheVariants.{Addw, Cpw, Subw}
use Rattle.stm8.specs.declared.WordModifyOp.{WordModifyOp}
use Rattle.stm8.specs.declared.WordModifyOp.TheVariants.{Clrw, Decw, Incw}
use Rattle.stm8.specs.declared.BitOp.{BitOp}
use Rattle.stm8.specs.declared.BitOp.TheVariants.{Bccm, Bcpl, Bres, Bset}
use Rattle.stm8.specs.declared.BitTest.{BitTest}
use Rattle.stm8.specs.declared.BitTest.TheVariants.{Btjf, Btjt}
use Rattle.stm8.specs.declared.Condition.{Condition}
use Rattle.stm8.specs.declared.Condition.TheVariants.{Jra, Jrf, Jrugt, Jrule, Jrnc, Jrc, Jrne, Jreq, Jrnv, Jrv, Jrpl, Jrmi, Jrsgt, Jrsle, Jrsge, Jrslt}
use Rattle.stm8.specs.declared.FlagOp.{FlagOp}
use Rattle.stm8.specs.declared.FlagOp.TheVariants.{Ccf, Rcf, Rvf, Scf}

abbrev pub alu_name : AluOp → List ℕ
alu_name Adc = ascii "ADC"
alu_name Add = ascii "ADD"
alu_name And = ascii "AND"
alu_name Bcp = ascii "BCP"
alu_name Cp = ascii "CP"
alu_name Ld = ascii "LD"
alu_name Or = ascii "OR"
alu_name Sbc = ascii "SBC"
alu_name Sub = ascii "SUB"
alu_name Xor = ascii "XOR"

abbrev pub modify_name : ModifyOp → List ℕ
modify_name Clr = ascii "CLR"
modify_name Cpl = ascii "CPL"
modify_name Dec = ascii "DEC"
modify_name Inc = ascii "INC"
modify_name Neg = ascii "NEG"
modify_name Rlc = ascii "RLC"
modify_name Rrc = ascii "RRC"
modify_name Sll = ascii "SLL"
modify_name Sra = ascii "SRA"
modify_name Srl = ascii "SRL"
modify_name Swap = ascii "SWAP"
modify_name Tnz = ascii "TNZ"

abbrev pub word_alu_name : WordAluOp → List ℕ
word_alu_name Addw = ascii "ADDW"
word_alu_name Cpw = ascii "CPW"
word_alu_name Subw = ascii "SUBW"

abbrev pub word_modify_name : WordModifyOp → List ℕ
word_modify_name Clrw = ascii "CLRW"
word_modify_name Decw = ascii "DECW"
word_modify_name Incw = ascii "INCW"

abbrev pub bit_name : BitOp → List ℕ
bit_name Bccm = ascii "BCCM"
bit_name Bcpl = ascii "BCPL"
bit_name Bres = ascii "BRES"
bit_name Bset = ascii "BSET"

abbrev pub test_name : BitTest → List ℕ
test_name Btjf = ascii "BTJF"
test_name Btjt = ascii "BTJT"

abbrev pub condition_name : Condition → List ℕ
condition_name Jra = ascii "JRA"
condition_name Jrf = ascii "JRF"
condition_name Jrugt = ascii "JRUGT"
condition_name Jrule = ascii "JRULE"
condition_name Jrnc = ascii "JRNC"
condition_name Jrc = ascii "JRC"
condition_name Jrne = ascii "JRNE"
condition_name Jreq = ascii "JREQ"
condition_name Jrnv = ascii "JRNV"
condition_name Jrv = ascii "JRV"
condition_name Jrpl = ascii "JRPL"
condition_name Jrmi = ascii "JRMI"
condition_name Jrsgt = ascii "JRSGT"
condition_name Jrsle = ascii "JRSLE"
condition_name Jrsge = ascii "JRSGE"
condition_name Jrslt = ascii "JRSLT"

abbrev pub flag_name : FlagOp → List ℕ
flag_name Ccf = ascii "CCF"
flag_name Rcf = ascii "RCF"
flag_name Rvf = ascii "RVF"
flag_name Scf = ascii "SCF"
