-- The op-code map of the gate set, to be held against the manual's: three pages (no pre-code, pre-code 72, pre-code 90) of sixteen rows, by the
-- op-code's high digit, of sixteen columns, by its low digit. a, b, c, d are the bytes after the op-code; a word stands high byte first.
-- A row that is [], or that is not there, has no op-code of the set.
use Rattle.std.specs.Prelude.{ℕ, ◌/◌, ◌%◌, List, [], ◌∷◌, get_or, set, replicate}
use Rattle.numbers.specs.Words.{word}
use Rattle.stm8.specs.declared.Register.{Register}
use Rattle.stm8.specs.declared.Register.TheVariants.{X, Y}
use Rattle.stm8.specs.declared.Half.TheVariants.{Low, High}
use Rattle.stm8.specs.declared.Offset.TheVariants.{Zero, Byte, Word}
use Rattle.stm8.specs.declared.Operand.{Operand}
use Rattle.stm8.specs.declared.Operand.TheVariants.{Accumulator, Immediate, ImmediateWord, Short, Long, Indexed, Sp}
use Rattle.stm8.specs.declared.AluOp.TheVariants.{Adc, Add, And, Bcp, Cp, Ld, Or, Sbc, Sub, Xor}
use Rattle.stm8.specs.declared.ModifyOp.TheVariants.{Clr, Cpl, Dec, Inc, Neg, Rlc, Rrc, Sll, Sra, Srl, Swap, Tnz}
use Rattle.stm8.specs.declared.WordAluOp.TheVariants.{Addw, Cpw, Subw}
use Rattle.stm8.specs.declared.WordModifyOp.TheVariants.{Clrw, Decw, Incw}
use Rattle.stm8.specs.declared.BitOp.TheVariants.{Bccm, Bcpl, Bres, Bset}
use Rattle.stm8.specs.declared.BitTest.TheVariants.{Btjf, Btjt}
use Rattle.stm8.specs.declared.Condition.TheVariants.{Jra, Jrf, Jrugt, Jrule, Jrnc, Jrc, Jrne, Jreq, Jrnv, Jrv, Jrpl, Jrmi, Jrsgt, Jrsle, Jrsge, Jrslt}
use Rattle.stm8.specs.declared.FlagOp.TheVariants.{Ccf, Rcf, Rvf, Scf}
use Rattle.stm8.specs.declared.Instruction.{Instruction}
use Rattle.stm8.specs.declared.Instruction.TheVariants.{Alu, Store, LoadHalf, StoreHalf, Modify, LoadWord, StoreWord, CopyWord, WordAlu, WordModify, Pushw, Popw, Exgw, Mul, Bit, BitJump, Mov, Push, Pop, SubSp, AddSp, Jump, Call, Callr, Ret, Nop, Flag}

-- the three op-code pages
pub data Page : Type 0 where
  Plain : Page
  After72 : Page
  After90 : Page

-- an entry of a page: an instruction, or nothing of the set
pub data Entry : Type 0 where
  Blank : Entry
  Is : Instruction → Entry

-- _0 SUB, _1 CP, _2 SBC, _4 AND, _5 BCP, _8 XOR, _9 ADC, _A OR, _B ADD of A with x; the columns 3, 6, 7 and C to F are given
abbrev pub alu_row : Operand → Entry → Entry → Entry → Entry → Entry → Entry → Entry → List Entry
alu_row x e3 e6 e7 eC eD eE eF =
    Is (Alu Sub x) ∷ Is (Alu Cp x) ∷ Is (Alu Sbc x) ∷ e3 ∷
    Is (Alu And x) ∷ Is (Alu Bcp x) ∷ e6 ∷ e7 ∷
    Is (Alu Xor x) ∷ Is (Alu Adc x) ∷ Is (Alu Or x) ∷ Is (Alu Add x) ∷
    eC ∷ eD ∷ eE ∷ eF ∷ []

-- _0 NEG, _3 CPL, _4 SRL, _6 RRC, _7 SRA, _8 SLL, _9 RLC, _A DEC, _C INC, _D TNZ, _E SWAP, _F CLR of x; the columns 2, 5 and B are given
abbrev pub modify_row : Operand → Entry → Entry → Entry → List Entry
modify_row x e2 e5 eB =
    Is (Modify Neg x) ∷ Blank ∷ e2 ∷ Is (Modify Cpl x) ∷
    Is (Modify Srl x) ∷ e5 ∷ Is (Modify Rrc x) ∷ Is (Modify Sra x) ∷
    Is (Modify Sll x) ∷ Is (Modify Rlc x) ∷ Is (Modify Dec x) ∷ eB ∷
    Is (Modify Inc x) ∷ Is (Modify Tnz x) ∷ Is (Modify Swap x) ∷ Is (Modify Clr x) ∷ []

-- at column 2 * n the operation f of bit n, at 2 * n + 1 the operation g
abbrev pub bit_row : (ℕ → Instruction) → (ℕ → Instruction) → List Entry
bit_row f g =
    Is (f 0) ∷ Is (g 0) ∷ Is (f 1) ∷ Is (g 1) ∷
    Is (f 2) ∷ Is (g 2) ∷ Is (f 3) ∷ Is (g 3) ∷
    Is (f 4) ∷ Is (g 4) ∷ Is (f 5) ∷ Is (g 5) ∷
    Is (f 6) ∷ Is (g 6) ∷ Is (f 7) ∷ Is (g 7) ∷ []

-- a row with one entry, and with two
abbrev pub one : ℕ → Instruction → List Entry
one k i = set (replicate 16 Blank) k (Is i)

abbrev pub two : ℕ → Instruction → ℕ → Instruction → List Entry
two k i l j = set (one k i) l (Is j)

-- What stands without pre-code for X stands after 90 for Y. The columns that hold something else without pre-code are given.
-- _A DECW, _C INCW, _F CLRW of r
abbrev pub register_row5 : Register → Entry → Entry → Entry → Entry → List Entry
register_row5 r e1 e2 e5 eB =
    Blank ∷ e1 ∷ e2 ∷ Blank ∷
    Blank ∷ e5 ∷ Blank ∷ Blank ∷
    Blank ∷ Blank ∷ Is (WordModify Decw r) ∷ eB ∷
    Is (WordModify Incw r) ∷ Blank ∷ Blank ∷ Is (WordModify Clrw r) ∷ []

-- 85 POPW r, 89 PUSHW r
abbrev pub register_row8 : Register → Entry → Entry → Entry → Entry → List Entry
register_row8 r e1 e4 e8 eC =
    Blank ∷ e1 ∷ Blank ∷ Blank ∷
    e4 ∷ Is (Popw r) ∷ Blank ∷ Blank ∷
    e8 ∷ Is (Pushw r) ∷ Blank ∷ Blank ∷
    eC ∷ Blank ∷ Blank ∷ Blank ∷ []

-- 93 LDW X,Y or Y,X; 95 LD XH,A or YH,A; 97 LD XL,A or YL,A; 9E LD A,XH or A,YH; 9F LD A,XL or A,YL
abbrev pub register_row9 : Register → Entry → Entry → Entry → Entry → List Entry
register_row9 r e8 e9 eC eD =
    Blank ∷ Blank ∷ Blank ∷ Is (CopyWord r) ∷
    Blank ∷ Is (StoreHalf r High) ∷ Blank ∷ Is (StoreHalf r Low) ∷
    e8 ∷ e9 ∷ Blank ∷ Blank ∷
    eC ∷ eD ∷ Is (LoadHalf r High) ∷ Is (LoadHalf r Low) ∷ []

-- D_, E_, F_: (longoff,r), (shortoff,r), (r), with LD A in column 6
abbrev pub indexed_row : Operand → List Entry
indexed_row x = alu_row x Blank (Is (Alu Ld x)) Blank Blank Blank Blank Blank

-- WITHOUT PRE-CODE
-- 1_: (shortoff,SP); 16 LDW Y,(shortoff,SP); 17 LDW (shortoff,SP),Y; 1C ADDW X,#word; 1D SUBW X,#word; 1E LDW X,(shortoff,SP); 1F LDW (shortoff,SP),X
abbrev pub row1 : ℕ → ℕ → List Entry
row1 a ab =
    alu_row (Sp a) Blank (Is (LoadWord Y (Sp a))) (Is (StoreWord Y (Sp a)))
    (Is (WordAlu Addw X ab)) (Is (WordAlu Subw X ab)) (Is (LoadWord X (Sp a))) (Is (StoreWord X (Sp a)))

-- 2_: the relative jumps
abbrev pub row2 : ℕ → List Entry
row2 a =
    Is (Jump Jra a) ∷ Is (Jump Jrf a) ∷ Is (Jump Jrugt a) ∷ Is (Jump Jrule a) ∷
    Is (Jump Jrnc a) ∷ Is (Jump Jrc a) ∷ Is (Jump Jrne a) ∷ Is (Jump Jreq a) ∷
    Is (Jump Jrnv a) ∷ Is (Jump Jrv a) ∷ Is (Jump Jrpl a) ∷ Is (Jump Jrmi a) ∷
    Is (Jump Jrsgt a) ∷ Is (Jump Jrsle a) ∷ Is (Jump Jrsge a) ∷ Is (Jump Jrslt a) ∷ []

-- 3_: shortmem; 32 POP longmem; 35 MOV longmem,#byte, the source first; 3B PUSH longmem
abbrev pub row3 : ℕ → ℕ → ℕ → List Entry
row3 a ab bc = modify_row (Short a) (Is (Pop (Long ab))) (Is (Mov (Long bc) (Immediate a))) (Is (Push (Long ab)))

-- 4_: A; 42 MUL X,A; 45 MOV shortmem,shortmem, the source first; 4B PUSH #byte
abbrev pub row4 : ℕ → ℕ → List Entry
row4 a b = modify_row Accumulator (Is (Mul X)) (Is (Mov (Short b) (Short a))) (Is (Push (Immediate a)))

-- 5_: 51 EXGW X,Y; 52 SUB SP,#byte; 55 MOV longmem,longmem, the source first; 5B ADDW SP,#byte
abbrev pub row5 : ℕ → ℕ → ℕ → List Entry
row5 a ab cd = register_row5 X (Is Exgw) (Is (SubSp a)) (Is (Mov (Long cd) (Long ab))) (Is (AddSp a))

-- 8_: 81 RET; 84 POP A; 88 PUSH A; 8C CCF
abbrev pub row8 : List Entry
row8 = register_row8 X (Is Ret) (Is (Pop Accumulator)) (Is (Push Accumulator)) (Is (Flag Ccf))

-- 9_: 98 RCF; 99 SCF; 9C RVF; 9D NOP
abbrev pub row9 : List Entry
row9 = register_row9 X (Is (Flag Rcf)) (Is (Flag Scf)) (Is (Flag Rvf)) (Is Nop)

-- A_: #byte; A3 CPW X,#word; A6 LD A,#byte; AD CALLR; AE LDW X,#word
abbrev pub row_a : ℕ → ℕ → List Entry
row_a a ab =
    alu_row (Immediate a) (Is (WordAlu Cpw X ab)) (Is (Alu Ld (Immediate a))) Blank
    Blank (Is (Callr a)) (Is (LoadWord X (ImmediateWord ab))) Blank

-- B_: shortmem; B6 LD A,shortmem; B7 LD shortmem,A
abbrev pub row_b : ℕ → List Entry
row_b a = alu_row (Short a) Blank (Is (Alu Ld (Short a))) (Is (Store (Short a))) Blank Blank Blank Blank

-- C_: longmem; C6 LD A,longmem; C7 LD longmem,A; CD CALL longmem; CE LDW X,longmem; CF LDW longmem,X
abbrev pub row_c : ℕ → List Entry
row_c ab =
    alu_row (Long ab) Blank (Is (Alu Ld (Long ab))) (Is (Store (Long ab)))
    Blank (Is (Call ab)) (Is (LoadWord X (Long ab))) (Is (StoreWord X (Long ab)))

-- 6B LD (shortoff,SP),A and 7B LD A,(shortoff,SP) stand alone in their rows
abbrev pub plain_page : ℕ → ℕ → ℕ → ℕ → List (List Entry)
plain_page a b c d =
    [] ∷
    row1 a (word a b) ∷
    row2 a ∷
    row3 a (word a b) (word b c) ∷
    row4 a b ∷
    row5 a (word a b) (word c d) ∷
    one 0xb (Store (Sp a)) ∷
    one 0xb (Alu Ld (Sp a)) ∷
    row8 ∷
    row9 ∷
    row_a a (word a b) ∷
    row_b a ∷
    row_c (word a b) ∷
    indexed_row (Indexed X (Word (word a b))) ∷
    indexed_row (Indexed X (Byte a)) ∷
    indexed_row (Indexed X Zero) ∷ []

-- AFTER 72
-- 0_: BTJT and BTJF longmem,#n; 1_: BSET and BRES longmem,#n; 5_: longmem; A2 SUBW Y,#word; A9 ADDW Y,#word
abbrev pub after72_page : ℕ → ℕ → ℕ → List (List Entry)
after72_page a b c =
    bit_row (λ n. BitJump Btjt n (word a b) c) (λ n. BitJump Btjf n (word a b) c) ∷
    bit_row (λ n. Bit Bset n (word a b)) (λ n. Bit Bres n (word a b)) ∷
    [] ∷
    [] ∷
    [] ∷
    modify_row (Long (word a b)) Blank Blank Blank ∷
    [] ∷
    [] ∷
    [] ∷
    [] ∷
    two 2 (WordAlu Subw Y (word a b)) 9 (WordAlu Addw Y (word a b)) ∷ []

-- AFTER 90
-- 1_: BCPL and BCCM longmem,#n; 42 MUL Y,A; A3 CPW Y,#word; AE LDW Y,#word; CE LDW Y,longmem; CF LDW longmem,Y
abbrev pub after90_page : ℕ → ℕ → List (List Entry)
after90_page a b =
    [] ∷
    bit_row (λ n. Bit Bcpl n (word a b)) (λ n. Bit Bccm n (word a b)) ∷
    [] ∷
    [] ∷
    one 2 (Mul Y) ∷
    register_row5 Y Blank Blank Blank Blank ∷
    [] ∷
    [] ∷
    register_row8 Y Blank Blank Blank Blank ∷
    register_row9 Y Blank Blank Blank Blank ∷
    two 3 (WordAlu Cpw Y (word a b)) 0xe (LoadWord Y (ImmediateWord (word a b))) ∷
    [] ∷
    two 0xe (LoadWord Y (Long (word a b))) 0xf (StoreWord Y (Long (word a b))) ∷
    indexed_row (Indexed Y (Word (word a b))) ∷
    indexed_row (Indexed Y (Byte a)) ∷
    indexed_row (Indexed Y Zero) ∷ []

abbrev pub rows : Page → ℕ → ℕ → ℕ → ℕ → List (List Entry)
rows Plain a b c d = plain_page a b c d
rows After72 a b c d = after72_page a b c
rows After90 a b c d = after90_page a b

-- the entry at an op-code of a page, with the bytes after it
abbrev pub entry : Page → ℕ → ℕ → ℕ → ℕ → ℕ → Entry
entry page op a b c d = get_or (get_or (rows page a b c d) (op / 16) []) (op % 16) Blank
