-- The text of an instruction, by document 01: its name and its operands, jumps and calls as $ and the four-digit target; and a text in a buffer.
use Rattle.std.specs.Prelude.{ℕ, ◌+◌, ◌%◌, List, [], ◌∷◌, ◌++◌, cond, ltb, length, drop, Result, Ok, Err}
use Rattle.numbers.specs.Ascii.{ascii}
use Rattle.stm8.specs.Effects.{relative}
use Rattle.stm8.specs.Encoding.{bytes_of}
use Rattle.stm8.specs.IndexRegisters.{other_of}
use Rattle.stm8.specs.declared.Operand.TheVariants.{Immediate, ImmediateWord, Long}
use Rattle.stm8.specs.declared.Instruction.{Instruction}
use Rattle.stm8.specs.declared.Instruction.TheVariants.{Alu, Store, LoadHalf, StoreHalf, Modify, LoadWord, StoreWord, CopyWord, WordAlu, WordModify, Pushw, Popw, Exgw, Mul, Bit, BitJump, Mov, Push, Pop, SubSp, AddSp, Jump, Call, Callr, Ret, Nop, Flag}
use Rattle.notation.specs.Names.{alu_name, modify_name, word_alu_name, word_modify_name, bit_name, test_name, condition_name, flag_name}
use Rattle.notation.specs.Notation.{word_text, bit_position, register_text, half_text, operand_text, line}
use Rattle.disassembly.specs.declared.TooShort.{TooShort}

-- the four digits of where a relative jump or call goes: taken modulo 10000, below 0 too
unfoldable pub target : ℕ → ℕ → ℕ
target next n = relative (0x10000 + next) n % 0x10000

-- the text of an instruction that the address `next` follows. One outside the set, which document 01 leaves free, has its text by the same rules.
abbrev pub text_before : ℕ → Instruction → List ℕ
text_before next (Alu o x) = line (alu_name o) (ascii "A" ∷ operand_text x ∷ [])
text_before next (Store x) = line (ascii "LD") (operand_text x ∷ ascii "A" ∷ [])
text_before next (LoadHalf r h) = line (ascii "LD") (ascii "A" ∷ half_text r h ∷ [])
text_before next (StoreHalf r h) = line (ascii "LD") (half_text r h ∷ ascii "A" ∷ [])
text_before next (Modify o x) = line (modify_name o) (operand_text x ∷ [])
text_before next (LoadWord r x) = line (ascii "LDW") (register_text r ∷ operand_text x ∷ [])
text_before next (StoreWord r x) = line (ascii "LDW") (operand_text x ∷ register_text r ∷ [])
text_before next (CopyWord r) = line (ascii "LDW") (register_text r ∷ register_text (other_of r) ∷ [])
text_before next (WordAlu o r w) = line (word_alu_name o) (register_text r ∷ operand_text (ImmediateWord w) ∷ [])
text_before next (WordModify o r) = line (word_modify_name o) (register_text r ∷ [])
text_before next (Pushw r) = line (ascii "PUSHW") (register_text r ∷ [])
text_before next (Popw r) = line (ascii "POPW") (register_text r ∷ [])
text_before next Exgw = line (ascii "EXGW") (ascii "X" ∷ ascii "Y" ∷ [])
text_before next (Mul r) = line (ascii "MUL") (register_text r ∷ ascii "A" ∷ [])
text_before next (Bit o n w) = line (bit_name o) (operand_text (Long w) ∷ bit_position n ∷ [])
text_before next (BitJump o n w j) = line (test_name o) (operand_text (Long w) ∷ bit_position n ∷ word_text (target next j) ∷ [])
text_before next (Mov to from) = line (ascii "MOV") (operand_text to ∷ operand_text from ∷ [])
text_before next (Push x) = line (ascii "PUSH") (operand_text x ∷ [])
text_before next (Pop x) = line (ascii "POP") (operand_text x ∷ [])
text_before next (SubSp n) = line (ascii "SUB") (ascii "SP" ∷ operand_text (Immediate n) ∷ [])
text_before next (AddSp n) = line (ascii "ADDW") (ascii "SP" ∷ operand_text (Immediate n) ∷ [])
text_before next (Jump o n) = line (condition_name o) (word_text (target next n) ∷ [])
text_before next (Call w) = line (ascii "CALL") (word_text w ∷ [])
text_before next (Callr n) = line (ascii "CALLR") (word_text (target next n) ∷ [])
text_before next Ret = line (ascii "RET") []
text_before next Nop = line (ascii "NOP") []
text_before next (Flag o) = line (flag_name o) []

-- the text of an instruction at an address
unfoldable pub text : ℕ → Instruction → List ℕ
text address i = text_before (address + length (bytes_of i)) i

-- a text goes to the start of a buffer that has room for it; one that has not is refused, and stays as it was
unfoldable pub placed : List ℕ → List ℕ → Result ℕ TooShort × List ℕ
placed s buffer = cond (ltb (length buffer) (length s)) (Err (record {}), buffer) (Ok (length s), s ++ drop (length s) buffer)
