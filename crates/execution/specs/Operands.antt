-- The operands of an instruction.
use Rattle.std.specs.Prelude.{ℕ, ◌+◌, List, Option, Some, None}
use Rattle.stm8.specs.declared.Register.{Register}
use Rattle.stm8.specs.declared.Register.TheVariants.{X, Y}
use Rattle.stm8.specs.declared.Offset.{Offset}
use Rattle.stm8.specs.declared.Offset.TheVariants.{Zero, Byte, Word}
use Rattle.stm8.specs.declared.Operand.{Operand}
use Rattle.stm8.specs.declared.Operand.TheVariants.{Accumulator, Immediate, ImmediateWord, Short, Long, Indexed, Sp}
use Rattle.storage.specs.Reading.{read_byte, read_word}
use Rattle.execution.specs.declared.Registers.{Registers}

abbrev pub index_of : Registers → Register → ℕ
index_of regs X = regs.x
index_of regs Y = regs.y

abbrev pub offset_of : Offset → ℕ
offset_of Zero = 0
offset_of (Byte n) = n
offset_of (Word w) = w

-- where an operand lies in memory, if it does
abbrev pub address_of : Registers → Operand → Option ℕ
address_of regs Accumulator = None
address_of regs (Immediate n) = None
address_of regs (ImmediateWord w) = None
address_of regs (Short a) = Some a
address_of regs (Long a) = Some a
address_of regs (Indexed r f) = Some (index_of regs r + offset_of f)
address_of regs (Sp f) = Some (regs.sp + f)

-- an operand's byte, and its word; X, Y or SP plus an offset is not cut to 16 bits
abbrev pub byte_of : List ℕ → List ℕ → Registers → Operand → ℕ
byte_of image memory regs Accumulator = regs.a
byte_of image memory regs (Immediate n) = n
byte_of image memory regs (ImmediateWord w) = 0
byte_of image memory regs (Short a) = read_byte image memory a
byte_of image memory regs (Long a) = read_byte image memory a
byte_of image memory regs (Indexed r f) = read_byte image memory (index_of regs r + offset_of f)
byte_of image memory regs (Sp f) = read_byte image memory (regs.sp + f)

abbrev pub word_of : List ℕ → List ℕ → Registers → Operand → ℕ
word_of image memory regs Accumulator = 0
word_of image memory regs (Immediate n) = 0
word_of image memory regs (ImmediateWord w) = w
word_of image memory regs (Short a) = read_word image memory a
word_of image memory regs (Long a) = read_word image memory a
word_of image memory regs (Indexed r f) = read_word image memory (index_of regs r + offset_of f)
word_of image memory regs (Sp f) = read_word image memory (regs.sp + f)
