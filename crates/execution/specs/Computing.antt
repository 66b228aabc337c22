-- What an instruction computes: A, X, Y and CC after it, the value that it stores, and whether its condition holds. What it moves (SP, PC
-- and memory) is its effect's.
use Rattle.std.specs.Prelude.{ℕ, ◌+◌, ◌%◌, Bool, false, List}
use Rattle.numbers.specs.Words.{word, high, low}
use Rattle.stm8.specs.IndexRegisters.{other_of}
use Rattle.stm8.specs.declared.Register.{Register}
use Rattle.stm8.specs.declared.Register.TheVariants.{X, Y}
use Rattle.stm8.specs.declared.Half.{Half}
use Rattle.stm8.specs.declared.Half.TheVariants.{Low, High}
use Rattle.stm8.specs.declared.Operand.{Operand}
use Rattle.stm8.specs.declared.Operand.TheVariants.{Accumulator, Immediate, ImmediateWord, Short, Long, Indexed, Sp}
use Rattle.stm8.specs.declared.Instruction.{Instruction}
use Rattle.stm8.specs.declared.Instruction.TheVariants as I
use Rattle.arithmetic.specs.declared.Flagged.{Flagged}
use Rattle.arithmetic.specs.Flags.{with_nz}
use Rattle.byte_operations.specs.Accumulator.{alu_result}
use Rattle.byte_operations.specs.Unary.{modify_result}
use Rattle.byte_operations.specs.BitOperations.{bit_result, bit_holds, bit_tested}
use Rattle.byte_operations.specs.FlagOperations.{flag_result}
use Rattle.byte_operations.specs.Conditions.{holds}
use Rattle.index_operations.specs.Words.{ldw_result, word_alu_result, word_modify_result, mul_result}
use Rattle.storage.specs.Reading.{read_byte, read_word}
use Rattle.execution.specs.Operands.{index_of, byte_of, word_of}
use Rattle.execution.specs.declared.Registers.{Registers}
use Rattle.execution.specs.declared.Computed.{Computed}

-- the registers as they are, with nothing stored; and with one thing changed
abbrev pub unchanged : Registers → Computed
unchanged regs = record { a = regs.a; x = regs.x; y = regs.y; cc = regs.cc; stored = 0; taken = false }

abbrev pub with_a : Registers → Flagged ℕ → Computed
with_a regs r = record { a = r.value; x = regs.x; y = regs.y; cc = r.cc; stored = 0; taken = false }

abbrev pub with_index : Registers → Register → Flagged ℕ → Computed
with_index regs X r = record { a = regs.a; x = r.value; y = regs.y; cc = r.cc; stored = 0; taken = false }
with_index regs Y r = record { a = regs.a; x = regs.x; y = r.value; cc = r.cc; stored = 0; taken = false }

abbrev pub storing : Registers → ℕ → ℕ → Computed
storing regs value cc = record { a = regs.a; x = regs.x; y = regs.y; cc = cc; stored = value; taken = false }

abbrev pub testing : Registers → Bool → ℕ → Computed
testing regs taken cc = record { a = regs.a; x = regs.x; y = regs.y; cc = cc; stored = 0; taken = taken }

-- a result goes to A, or to the place that the effect names
abbrev pub into_operand : Registers → Operand → Flagged ℕ → Computed
into_operand regs Accumulator r = with_a regs r
into_operand regs (Immediate n) r = storing regs r.value r.cc
into_operand regs (ImmediateWord w) r = storing regs r.value r.cc
into_operand regs (Short a) r = storing regs r.value r.cc
into_operand regs (Long a) r = storing regs r.value r.cc
into_operand regs (Indexed q f) r = storing regs r.value r.cc
into_operand regs (Sp f) r = storing regs r.value r.cc

-- XL and XH, YL and YH: the halves of an index register
abbrev pub half_of : Half → ℕ → ℕ
half_of Low w = low w
half_of High w = high w

abbrev pub with_half : Half → ℕ → ℕ → ℕ
with_half Low w n = word (high w) n
with_half High w n = word n (low w)

abbrev pub exchanged : Registers → Computed
exchanged regs = record { a = regs.a; x = regs.y; y = regs.x; cc = regs.cc; stored = 0; taken = false }

-- an instruction, with the address after it; loads between registers touch no flag, LD and LDW to memory give N and Z of what they store, POP
-- and POPW read above SP, and a call stores the address after it, 16 bits
unfoldable pub computed : List ℕ → List ℕ → Registers → ℕ → Instruction → Computed
computed image memory regs next (I.Alu o x) = with_a regs (alu_result o regs.a (byte_of image memory regs x) regs.cc)
computed image memory regs next (I.Store x) = storing regs regs.a (with_nz 8 regs.a regs.cc)
computed image memory regs next (I.LoadHalf r h) = with_a regs (record { value = half_of h (index_of regs r); cc = regs.cc })
computed image memory regs next (I.StoreHalf r h) = with_index regs r (record { value = with_half h (index_of regs r) regs.a; cc = regs.cc })
computed image memory regs next (I.Modify o x) = into_operand regs x (modify_result o (byte_of image memory regs x) regs.cc)
computed image memory regs next (I.LoadWord r x) = with_index regs r (ldw_result (word_of image memory regs x) regs.cc)
computed image memory regs next (I.StoreWord r x) = storing regs (index_of regs r) (with_nz 16 (index_of regs r) regs.cc)
computed image memory regs next (I.CopyWord r) = with_index regs r (record { value = index_of regs (other_of r); cc = regs.cc })
computed image memory regs next (I.WordAlu o r w) = with_index regs r (word_alu_result o (index_of regs r) w regs.cc)
computed image memory regs next (I.WordModify o r) = with_index regs r (word_modify_result o (index_of regs r) regs.cc)
computed image memory regs next (I.Pushw r) = storing regs (index_of regs r) regs.cc
computed image memory regs next (I.Popw r) = with_index regs r (record { value = read_word image memory (regs.sp + 1); cc = regs.cc })
computed image memory regs next I.Exgw = exchanged regs
computed image memory regs next (I.Mul r) = with_index regs r (mul_result (index_of regs r) regs.a regs.cc)
computed image memory regs next (I.Bit o n a) = storing regs (bit_result o n (read_byte image memory a) regs.cc) regs.cc
computed image memory regs next (I.BitJump o n a j) =
    let m = read_byte image memory a in
    testing regs (bit_holds o n m) (bit_tested n m regs.cc)
computed image memory regs next (I.Mov to from) = storing regs (byte_of image memory regs from) regs.cc
computed image memory regs next (I.Push x) = storing regs (byte_of image memory regs x) regs.cc
computed image memory regs next (I.Pop x) = into_operand regs x (record { value = read_byte image memory (regs.sp + 1); cc = regs.cc })
computed image memory regs next (I.SubSp n) = unchanged regs
computed image memory regs next (I.AddSp n) = unchanged regs
computed image memory regs next (I.Jump o n) = testing regs (holds o regs.cc) regs.cc
computed image memory regs next (I.Call a) = storing regs (next % 0x10000) regs.cc
computed image memory regs next (I.Callr n) = storing regs (next % 0x10000) regs.cc
computed image memory regs next I.Ret = unchanged regs
computed image memory regs next I.Nop = unchanged regs
computed image memory regs next (I.Flag o) = testing regs false (flag_result o regs.cc)
