-- What the functions under `encode` give. No public contract cites it: laws in proofs/ tie it to the bytes of an instruction.
use Rattle.std.specs.Prelude.{ℕ, ◌+◌, List, [], ◌∷◌, cond, eqb, ltb, set}
use Rattle.numbers.specs.Words.{high, low}
use Rattle.stm8.specs.Encoding.{padded}
use Rattle.stm8.specs.declared.Register.{Register}
use Rattle.stm8.specs.declared.Register.TheVariants.{X, Y}
use Rattle.stm8.specs.declared.Operand.{Operand}
use Rattle.stm8.specs.declared.Operand.TheVariants.{Accumulator, Immediate, ImmediateWord, Short, Long, Indexed, Sp}
use Rattle.stm8.specs.declared.Encoded.{Encoded}

-- the pre-code that tells Y from X, 0 for none
abbrev pub register_precode : Register → ℕ
register_precode X = 0
register_precode Y = 0x90

-- pre-code and op-code; a pre-code 0 is none, and an op-code 0 no instruction
abbrev pub opcode_bytes : ℕ → ℕ → List ℕ
opcode_bytes precode code = cond (eqb code 0) [] (cond (eqb precode 0) (code ∷ []) (precode ∷ code ∷ []))

-- one byte more; where there is no instruction, none
abbrev pub appended : Encoded → ℕ → Encoded
appended e byte =
    cond (eqb e.length 0) e
    (cond (ltb e.length 5) (record { number = e.number; length = e.length + 1; bytes = set e.bytes e.length byte }) e)

abbrev pub appended_word : Encoded → ℕ → Encoded
appended_word e w = appended (appended e (high w)) (low w)

-- an instruction by the form of its operand, an op-code for each form
abbrev pub operand_form : ℕ → ℕ → ℕ → ℕ → ℕ → ℕ → ℕ → Operand → Encoded
operand_form precode accumulator immediate word short long sp Accumulator = padded (opcode_bytes 0 accumulator)
operand_form precode accumulator immediate word short long sp (Immediate n) = appended (padded (opcode_bytes 0 immediate)) n
operand_form precode accumulator immediate word short long sp (ImmediateWord w) = appended_word (padded (opcode_bytes precode word)) w
operand_form precode accumulator immediate word short long sp (Short n) = appended (padded (opcode_bytes 0 short)) n
operand_form precode accumulator immediate word short long sp (Long w) = appended_word (padded (opcode_bytes precode long)) w
operand_form precode accumulator immediate word short long sp (Indexed r f) = padded []
operand_form precode accumulator immediate word short long sp (Sp n) = appended (padded (opcode_bytes 0 sp)) n
