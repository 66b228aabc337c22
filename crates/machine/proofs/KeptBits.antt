-- Bit 6, I1 and I0 of CC are after every step and every run what they were before it.
use Prim.Native.Nat.{ℕ, zero, suc, ◌+◌, ◌-◌}
use mathlib.Core.Path.{◌≡◌, refl, ap, ◌∙◌}
use mathlib.Core.List.{List}
use lib.Dec.{eqb}
use Rattle.std.specs.Prelude.{Ok, Err}
use Rattle.numbers.specs.Checks.{first}
use Rattle.numbers.proofs.Checking.{by_test}
use Rattle.stm8.specs.Decoding.{Decoded}
use Rattle.stm8.specs.Effects.{effect}
use Rattle.stm8.specs.declared.Register.{Register}
use Rattle.stm8.specs.declared.Register.TheVariants.{X, Y}
use Rattle.stm8.specs.declared.Operand.{Operand}
use Rattle.stm8.specs.declared.Operand.TheVariants.{Accumulator, Immediate, ImmediateWord, Short, Long, Indexed, Sp}
use Rattle.stm8.specs.declared.Instruction.{Instruction}
use Rattle.stm8.specs.declared.Instruction.TheVariants as I
use Rattle.arithmetic.specs.declared.Flagged.{Flagged}
use Rattle.arithmetic.specs.Flags.{rest, Keeps}
use Rattle.arithmetic.proofs.Kept.{rest_nz}
use Rattle.byte_operations.proofs.Kept.{alu_keeps, modify_keeps, flag_keeps, bit_test_keeps}
use Rattle.index_operations.proofs.Kept.{ldw_keeps, word_alu_keeps, word_modify_keeps, mul_keeps}
use Rattle.image.specs.declared.Limits.{Limits}
use Rattle.image.specs.Image.{base_of}
use Rattle.code.specs.Code.{instruction_in}
use Rattle.storage.specs.Reading.{read_byte}
use Rattle.execution.specs.Operands.{index_of, byte_of, word_of}
use Rattle.execution.specs.Computing.{with_index, into_operand, computed}
use Rattle.storage.specs.Storing.{sp_trap}
use Rattle.execution.specs.Performing.{Result, effect_trap, made, performed}
use Rattle.machine.specs.Step.{pc_trap, decoded_step, step_valid, step_refusal, stepped}
use Rattle.machine.specs.Run.{after_step, no_steps_left, ran}
use Rattle.execution.specs.declared.Registers.{Registers}
use Rattle.execution.specs.declared.StepAnswer.{StepAnswer}
use Rattle.execution.specs.declared.StepAnswer.TheVariants.{Made, Finished, Trap, Refused}
use Rattle.machine.specs.declared.Ran.{Ran}

-- where a result goes makes no difference to CC
index_cc : (regs : Registers) (r : Register) (result : Flagged ℕ) → (with_index regs r result).cc ≡ result.cc
index_cc regs X result = refl
index_cc regs Y result = refl

operand_cc : (regs : Registers) (x : Operand) (result : Flagged ℕ) → (into_operand regs x result).cc ≡ result.cc
operand_cc regs Accumulator result = refl
operand_cc regs (Immediate n) result = refl
operand_cc regs (ImmediateWord w) result = refl
operand_cc regs (Short a) result = refl
operand_cc regs (Long a) result = refl
operand_cc regs (Indexed r f) result = refl
operand_cc regs (Sp f) result = refl

module _ (image memory : List ℕ) (regs : Registers) (next : ℕ) where
  into_index : (r : Register) (result : Flagged ℕ) → Keeps regs.cc result.cc → Keeps regs.cc (with_index regs r result).cc
  into_index r result kept = ap rest (index_cc regs r result) ∙ kept

  into_place : (x : Operand) (result : Flagged ℕ) → Keeps regs.cc result.cc → Keeps regs.cc (into_operand regs x result).cc
  into_place x result kept = ap rest (operand_cc regs x result) ∙ kept

  computed_keeps : (i : Instruction) → Keeps regs.cc (computed image memory regs next i).cc
  unfolding computed
  computed_keeps (I.Alu o x) = alu_keeps o regs.a (byte_of image memory regs x) regs.cc
  computed_keeps (I.Store x) = rest_nz 8 regs.a regs.cc
  computed_keeps (I.LoadHalf r h) = refl
  computed_keeps (I.StoreHalf r h) = into_index r _ refl
  computed_keeps (I.Modify o x) = into_place x _ (modify_keeps o (byte_of image memory regs x) regs.cc)
  computed_keeps (I.LoadWord r x) = into_index r _ (ldw_keeps (word_of image memory regs x) regs.cc)
  computed_keeps (I.StoreWord r x) = rest_nz 16 (index_of regs r) regs.cc
  computed_keeps (I.CopyWord r) = into_index r _ refl
  computed_keeps (I.WordAlu o r w) = into_index r _ (word_alu_keeps o (index_of regs r) w regs.cc)
  computed_keeps (I.WordModify o r) = into_index r _ (word_modify_keeps o (index_of regs r) regs.cc)
  computed_keeps (I.Pushw r) = refl
  computed_keeps (I.Popw r) = into_index r _ refl
  computed_keeps I.Exgw = refl
  computed_keeps (I.Mul r) = into_index r _ (mul_keeps (index_of regs r) regs.a regs.cc)
  computed_keeps (I.Bit o n a) = refl
  computed_keeps (I.BitJump o n a j) = bit_test_keeps n (read_byte image memory a) regs.cc
  computed_keeps (I.Mov to from) = refl
  computed_keeps (I.Push x) = refl
  computed_keeps (I.Pop x) = into_place x _ refl
  computed_keeps (I.SubSp n) = refl
  computed_keeps (I.AddSp n) = refl
  computed_keeps (I.Jump o n) = refl
  computed_keeps (I.Call a) = refl
  computed_keeps (I.Callr n) = refl
  computed_keeps I.Ret = refl
  computed_keeps I.Nop = refl
  computed_keeps (I.Flag o) = flag_keeps o regs.cc

module _ (image : List ℕ) (limits : Limits) where
  module _ (regs : Registers) (memory : List ℕ) where
    KeptIn : Result → Type 0
    KeptIn r = Keeps regs.cc r.0.registers.cc

    decoded_keeps : (d : Decoded) → KeptIn (decoded_step image limits regs memory d)
    unfolding decoded_step performed made KeptIn
    decoded_keeps (Err e) = refl
    decoded_keeps (Ok (i, n)) =
        by_test KeptIn (eqb (effect_trap limits regs.sp (regs.pc + n) (effect i)) 0)
        (λ t. computed_keeps image memory regs (regs.pc + n) i)
        (λ t. refl)

    pub step_keeps : Keeps regs.cc (stepped image limits regs memory).0.registers.cc
    unfolding stepped step_valid KeptIn
    step_keeps =
        by_test KeptIn (eqb (step_refusal image limits memory) 0)
        (λ t. by_test KeptIn (eqb regs.pc 0) (λ u. refl)
        (λ u. by_test KeptIn (eqb (first (sp_trap limits regs.sp) (pc_trap image regs.pc)) 0)
        (λ v. decoded_keeps (instruction_in image (regs.pc - base_of image)))
        (λ v. refl)))
        (λ t. refl)

  -- a run's answer, where the rest of it keeps them
  after_keeps : (cc : ℕ) (answer : StepAnswer) (regs : Registers) (memory : List ℕ) (others : Ran × List ℕ) →
      Keeps cc regs.cc → Keeps cc others.0.registers.cc → Keeps cc (after_step answer regs memory others).0.registers.cc
  after_keeps cc Made regs memory others here there = there
  after_keeps cc Finished regs memory others here there = here
  after_keeps cc (Trap number) regs memory others here there = here
  after_keeps cc (Refused number) regs memory others here there = here

  pub run_keeps : (budget : ℕ) (regs : Registers) (memory : List ℕ) → Keeps regs.cc (ran budget image limits regs memory).0.registers.cc
  unfolding ran no_steps_left
  run_keeps zero regs memory =
      by_test (λ (r : Ran × List ℕ). Keeps regs.cc r.0.registers.cc) (eqb (step_refusal image limits memory) 0) (λ t. refl) (λ t. refl)
  run_keeps (suc budget) regs memory =
      let s = stepped image limits regs memory in
      after_keeps regs.cc s.0.answer regs memory (ran budget image limits s.0.registers s.1) refl
      (run_keeps budget s.0.registers s.1 ∙ step_keeps regs memory)
