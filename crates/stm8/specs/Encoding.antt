-- Encoding: the bytes of an instruction, empty where its name and form are not paired in the gate set.
use Rattle.std.specs.Prelude.{ℕ, ◌+◌, ◌*◌, List, [], ◌∷◌, ◌++◌, cond, leb, length, take}
use Rattle.numbers.specs.Words.{high, low}
use Rattle.stm8.specs.declared.Register.{Register}
use Rattle.stm8.specs.declared.Register.TheVariants.{X, Y}
use Rattle.stm8.specs.declared.Half.{Half}
use Rattle.stm8.specs.declared.Half.TheVariants.{Low, High}
use Rattle.stm8.specs.declared.Offset.{Offset}
use Rattle.stm8.specs.declared.Offset.TheVariants.{Zero, Byte, Word}
use Rattle.stm8.specs.declared.Operand.{Operand}
use Rattle.stm8.specs.declared.Operand.TheVariants.{Accumulator, Immediate, ImmediateWord, Short, Long, Indexed, Sp}
use Rattle.stm8.specs.declared.AluOp.{AluOp}
use Rattle.stm8.specs.declared.AluOp.TheVariants.{Adc, Add, And, Bcp, Cp, Ld, Or, Sbc, Sub, Xor}
use Rattle.stm8.specs.declared.ModifyOp.{ModifyOp}
use Rattle.stm8.specs.declared.ModifyOp.TheVariants.{Clr, Cpl, Dec, Inc, Neg, Rlc, Rrc, Sll, Sra, Srl, Swap, Tnz}
use Rattle.stm8.specs.declared.WordAluOp.{WordAluOp}
use Rattle.stm8.specs.declared.WordAluOp.TheVariants.{Addw, Cpw, Subw}
use Rattle.stm8.specs.declared.WordModifyOp.{WordModifyOp}
use Rattle.stm8.specs.declared.WordModifyOp.TheVariants.{Clrw, Decw, Incw}
use Rattle.stm8.specs.declared.BitOp.{BitOp}
use Rattle.stm8.specs.declared.BitOp.TheVariants.{Bccm, Bcpl, Bres, Bset}
use Rattle.stm8.specs.declared.BitTest.{BitTest}
use Rattle.stm8.specs.declared.BitTest.TheVariants.{Btjf, Btjt}
use Rattle.stm8.specs.declared.Condition.{Condition}
use Rattle.stm8.specs.declared.Condition.TheVariants.{Jra, Jrf, Jrugt, Jrule, Jrnc, Jrc, Jrne, Jreq, Jrnv, Jrv, Jrpl, Jrmi, Jrsgt, Jrsle, Jrsge, Jrslt}
use Rattle.stm8.specs.declared.FlagOp.{FlagOp}
use Rattle.stm8.specs.declared.FlagOp.TheVariants.{Ccf, Rcf, Rvf, Scf}
use Rattle.stm8.specs.declared.Instruction.{Instruction}
use Rattle.stm8.specs.declared.Instruction.TheVariants.{Alu, Store, LoadHalf, StoreHalf, Modify, LoadWord, StoreWord, CopyWord, WordAlu, WordModify, Pushw, Popw, Exgw, Mul, Bit, BitJump, Mov, Push, Pop, SubSp, AddSp, Jump, Call, Callr, Ret, Nop, Flag}
use Rattle.stm8.specs.declared.Encoded.{Encoded}

-- the low digit of an operation's op-codes
abbrev pub alu_column : AluOp → ℕ
alu_column Sub = 0
alu_column Cp = 1
alu_column Sbc = 2
alu_column And = 4
alu_column Bcp = 5
alu_column Ld = 6
alu_column Xor = 8
alu_column Adc = 9
alu_column Or = 10
alu_column Add = 11

abbrev pub modify_column : ModifyOp → ℕ
modify_column Neg = 0
modify_column Cpl = 3
modify_column Srl = 4
modify_column Rrc = 6
modify_column Sra = 7
modify_column Sll = 8
modify_column Rlc = 9
modify_column Dec = 10
modify_column Inc = 12
modify_column Tnz = 13
modify_column Swap = 14
modify_column Clr = 15

abbrev pub condition_column : Condition → ℕ
condition_column Jra = 0
condition_column Jrf = 1
condition_column Jrugt = 2
condition_column Jrule = 3
condition_column Jrnc = 4
condition_column Jrc = 5
condition_column Jrne = 6
condition_column Jreq = 7
condition_column Jrnv = 8
condition_column Jrv = 9
condition_column Jrpl = 10
condition_column Jrmi = 11
condition_column Jrsgt = 12
condition_column Jrsle = 13
condition_column Jrsge = 14
condition_column Jrslt = 15

-- with (shortoff,SP): row 1, but LD A,(shortoff,SP) is 7B
abbrev pub alu_sp : AluOp → ℕ
alu_sp Sub = 0x10
alu_sp Cp = 0x11
alu_sp Sbc = 0x12
alu_sp And = 0x14
alu_sp Bcp = 0x15
alu_sp Ld = 0x7b
alu_sp Xor = 0x18
alu_sp Adc = 0x19
alu_sp Or = 0x1a
alu_sp Add = 0x1b

-- what has no pre-code for X has 90 for Y
abbrev pub on_register : Register → List ℕ → List ℕ
on_register X bytes = bytes
on_register Y bytes = 0x90 ∷ bytes

abbrev pub indexed_bytes : ℕ → Offset → List ℕ
indexed_bytes column (Word w) = (0xd0 + column) ∷ high w ∷ low w ∷ []
indexed_bytes column (Byte n) = (0xe0 + column) ∷ n ∷ []
indexed_bytes column Zero = (0xf0 + column) ∷ []

abbrev pub alu_bytes : AluOp → Operand → List ℕ
alu_bytes o Accumulator = []
alu_bytes o (Immediate n) = (0xa0 + alu_column o) ∷ n ∷ []
alu_bytes o (ImmediateWord w) = []
alu_bytes o (Short n) = (0xb0 + alu_column o) ∷ n ∷ []
alu_bytes o (Long w) = (0xc0 + alu_column o) ∷ high w ∷ low w ∷ []
alu_bytes o (Indexed r f) = on_register r (indexed_bytes (alu_column o) f)
alu_bytes o (Sp n) = alu_sp o ∷ n ∷ []

abbrev pub store_bytes : Operand → List ℕ
store_bytes Accumulator = []
store_bytes (Immediate n) = []
store_bytes (ImmediateWord w) = []
store_bytes (Short n) = 0xb7 ∷ n ∷ []
store_bytes (Long w) = 0xc7 ∷ high w ∷ low w ∷ []
store_bytes (Indexed r f) = []
store_bytes (Sp n) = 0x6b ∷ n ∷ []

abbrev pub load_half_code : Half → ℕ
load_half_code Low = 0x9f
load_half_code High = 0x9e

abbrev pub store_half_code : Half → ℕ
store_half_code Low = 0x97
store_half_code High = 0x95

abbrev pub modify_bytes : ModifyOp → Operand → List ℕ
modify_bytes o Accumulator = (0x40 + modify_column o) ∷ []
modify_bytes o (Immediate n) = []
modify_bytes o (ImmediateWord w) = []
modify_bytes o (Short n) = (0x30 + modify_column o) ∷ n ∷ []
modify_bytes o (Long w) = 0x72 ∷ (0x50 + modify_column o) ∷ high w ∷ low w ∷ []
modify_bytes o (Indexed r f) = []
modify_bytes o (Sp n) = []

-- LDW with (shortoff,SP) has no pre-code for either register
abbrev pub load_word_sp : Register → ℕ
load_word_sp X = 0x1e
load_word_sp Y = 0x16

abbrev pub store_word_sp : Register → ℕ
store_word_sp X = 0x1f
store_word_sp Y = 0x17

abbrev pub load_word_bytes : Register → Operand → List ℕ
load_word_bytes r Accumulator = []
load_word_bytes r (Immediate n) = []
load_word_bytes r (ImmediateWord w) = on_register r (0xae ∷ high w ∷ low w ∷ [])
load_word_bytes r (Short n) = []
load_word_bytes r (Long w) = on_register r (0xce ∷ high w ∷ low w ∷ [])
load_word_bytes r (Indexed q f) = []
load_word_bytes r (Sp n) = load_word_sp r ∷ n ∷ []

abbrev pub store_word_bytes : Register → Operand → List ℕ
store_word_bytes r Accumulator = []
store_word_bytes r (Immediate n) = []
store_word_bytes r (ImmediateWord w) = []
store_word_bytes r (Short n) = []
store_word_bytes r (Long w) = on_register r (0xcf ∷ high w ∷ low w ∷ [])
store_word_bytes r (Indexed q f) = []
store_word_bytes r (Sp n) = store_word_sp r ∷ n ∷ []

-- CPW Y is CPW X after 90; ADDW Y and SUBW Y have op-codes of their own after 72
abbrev pub word_alu_bytes : WordAluOp → Register → ℕ → List ℕ
word_alu_bytes Addw X w = 0x1c ∷ high w ∷ low w ∷ []
word_alu_bytes Addw Y w = 0x72 ∷ 0xa9 ∷ high w ∷ low w ∷ []
word_alu_bytes Subw X w = 0x1d ∷ high w ∷ low w ∷ []
word_alu_bytes Subw Y w = 0x72 ∷ 0xa2 ∷ high w ∷ low w ∷ []
word_alu_bytes Cpw r w = on_register r (0xa3 ∷ high w ∷ low w ∷ [])

abbrev pub word_modify_code : WordModifyOp → ℕ
word_modify_code Decw = 0x5a
word_modify_code Incw = 0x5c
word_modify_code Clrw = 0x5f

-- a bit operation's pre-code, and its op-code at bit 0: n = 2 * pos, one more for BRES, BCCM and BTJF
abbrev pub bit_precode : BitOp → ℕ
bit_precode Bset = 0x72
bit_precode Bres = 0x72
bit_precode Bcpl = 0x90
bit_precode Bccm = 0x90

abbrev pub bit_code : BitOp → ℕ
bit_code Bset = 0x10
bit_code Bres = 0x11
bit_code Bcpl = 0x10
bit_code Bccm = 0x11

abbrev pub test_code : BitTest → ℕ
test_code Btjt = 0x00
test_code Btjf = 0x01

-- MOV to longmem and to shortmem: the source precedes the destination
abbrev pub mov_long : ℕ → Operand → List ℕ
mov_long to Accumulator = []
mov_long to (Immediate n) = 0x35 ∷ n ∷ high to ∷ low to ∷ []
mov_long to (ImmediateWord w) = []
mov_long to (Short n) = []
mov_long to (Long w) = 0x55 ∷ high w ∷ low w ∷ high to ∷ low to ∷ []
mov_long to (Indexed r f) = []
mov_long to (Sp n) = []

abbrev pub mov_short : ℕ → Operand → List ℕ
mov_short to Accumulator = []
mov_short to (Immediate n) = []
mov_short to (ImmediateWord w) = []
mov_short to (Short n) = 0x45 ∷ n ∷ to ∷ []
mov_short to (Long w) = []
mov_short to (Indexed r f) = []
mov_short to (Sp n) = []

abbrev pub mov_bytes : Operand → Operand → List ℕ
mov_bytes Accumulator from = []
mov_bytes (Immediate n) from = []
mov_bytes (ImmediateWord w) from = []
mov_bytes (Short n) from = mov_short n from
mov_bytes (Long w) from = mov_long w from
mov_bytes (Indexed r f) from = []
mov_bytes (Sp n) from = []

abbrev pub push_bytes : Operand → List ℕ
push_bytes Accumulator = 0x88 ∷ []
push_bytes (Immediate n) = 0x4b ∷ n ∷ []
push_bytes (ImmediateWord w) = []
push_bytes (Short n) = []
push_bytes (Long w) = 0x3b ∷ high w ∷ low w ∷ []
push_bytes (Indexed r f) = []
push_bytes (Sp n) = []

abbrev pub pop_bytes : Operand → List ℕ
pop_bytes Accumulator = 0x84 ∷ []
pop_bytes (Immediate n) = []
pop_bytes (ImmediateWord w) = []
pop_bytes (Short n) = []
pop_bytes (Long w) = 0x32 ∷ high w ∷ low w ∷ []
pop_bytes (Indexed r f) = []
pop_bytes (Sp n) = []

abbrev pub flag_code : FlagOp → ℕ
flag_code Ccf = 0x8c
flag_code Rcf = 0x98
flag_code Scf = 0x99
flag_code Rvf = 0x9c

-- the bytes of an instruction, none where its name and form are not paired; a bit position is 0 to 7
abbrev pub bytes_of : Instruction → List ℕ
bytes_of (Alu o x) = alu_bytes o x
bytes_of (Store x) = store_bytes x
bytes_of (LoadHalf r h) = on_register r (load_half_code h ∷ [])
bytes_of (StoreHalf r h) = on_register r (store_half_code h ∷ [])
bytes_of (Modify o x) = modify_bytes o x
bytes_of (LoadWord r x) = load_word_bytes r x
bytes_of (StoreWord r x) = store_word_bytes r x
bytes_of (CopyWord r) = on_register r (0x93 ∷ [])
bytes_of (WordAlu o r w) = word_alu_bytes o r w
bytes_of (WordModify o r) = on_register r (word_modify_code o ∷ [])
bytes_of (Pushw r) = on_register r (0x89 ∷ [])
bytes_of (Popw r) = on_register r (0x85 ∷ [])
bytes_of Exgw = 0x51 ∷ []
bytes_of (Mul r) = on_register r (0x42 ∷ [])
bytes_of (Bit o n w) = cond (leb n 7) (bit_precode o ∷ (bit_code o + 2 * n) ∷ high w ∷ low w ∷ []) []
bytes_of (BitJump o n w j) = cond (leb n 7) (0x72 ∷ (test_code o + 2 * n) ∷ high w ∷ low w ∷ j ∷ []) []
bytes_of (Mov to from) = mov_bytes to from
bytes_of (Push x) = push_bytes x
bytes_of (Pop x) = pop_bytes x
bytes_of (SubSp n) = 0x52 ∷ n ∷ []
bytes_of (AddSp n) = 0x5b ∷ n ∷ []
bytes_of (Jump o n) = (0x20 + condition_column o) ∷ n ∷ []
bytes_of (Call w) = 0xcd ∷ high w ∷ low w ∷ []
bytes_of (Callr n) = 0xad ∷ n ∷ []
bytes_of Ret = 0x81 ∷ []
bytes_of Nop = 0x9d ∷ []
bytes_of (Flag o) = flag_code o ∷ []

-- the length, and five bytes, those past the length 00; no bytes give 18
abbrev pub padded : List ℕ → Encoded
padded [] = record { number = 18; length = 0; bytes = 0 ∷ 0 ∷ 0 ∷ 0 ∷ 0 ∷ [] }
padded (x ∷ s) = record { number = 0; length = length (x ∷ s); bytes = take 5 ((x ∷ s) ++ 0 ∷ 0 ∷ 0 ∷ 0 ∷ 0 ∷ []) }

abbrev pub encoded : Instruction → Encoded
encoded i = padded (bytes_of i)
