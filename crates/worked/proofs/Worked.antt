-- Every case of the table holds, by computation.
use mathlib.Core.Path.{◌≡◌, refl}
use mathlib.Core.Bool.{xor}
use mathlib.Core.List.{map}
use Rattle.numbers.specs.Bits as Bits
use Rattle.numbers.specs.Checks as Checks
use Rattle.numbers.specs.Folds as Folds
use Rattle.numbers.specs.Lists as Lists
use Rattle.numbers.specs.Words as Words
use Rattle.arithmetic.specs.Bits as CC
use Rattle.arithmetic.specs.Flags as Flags
use Rattle.arithmetic.specs.Sums as Sums
use Rattle.stm8.specs.Effects as Effects
use Rattle.byte_operations.specs.Accumulator as Accumulator
use Rattle.byte_operations.specs.Unary as Unary
use Rattle.index_operations.specs.Words as WordResults
use Rattle.image.specs.Image as Image
use Rattle.image.specs.Validation as Validation
use Rattle.image.specs.Access.{wholly, granted}
use Rattle.code.specs.Depth as Depth
use Rattle.code.specs.Code as Code
use Rattle.code.specs.Set as Set
use Rattle.control_flow.specs.Routine as Routine
use Rattle.control_flow.specs.Measuring as Measuring
use Rattle.rules.specs.Paths as Paths
use Rattle.acceptance.specs.Cells as Cells
use Rattle.code.specs.Instructions as Instructions
use Rattle.acceptance.specs.Starts as Starts
use Rattle.acceptance.specs.Exploration as Exploration
use Rattle.acceptance.specs.Check as Check
use Rattle.storage.specs.Reading as Reading
use Rattle.storage.specs.Storing as Storing
use Rattle.execution.specs.Computing as Computing
use Rattle.execution.specs.Performing as Performing
use Rattle.execution.specs.Cycles as InstructionCycles
use Rattle.machine.specs.Step as Step
use Rattle.machine.specs.Cycles as Cycles
use Rattle.worked.specs.Cases.{outcome, expected, cases}

pub all_hold : map outcome cases ≡ map expected cases
unfolding xor Bits.bit Checks.first Checks.both Checks.under Checks.unless Checks.differ Folds.first_in Folds.total Lists.same Words.word Words.high
    Words.low Words.word_at CC.with_bit Flags.with_nz Sums.sum Sums.carry_out Sums.borrow_out Sums.difference Sums.sum_overflow Sums.after_sum
    Accumulator.added Accumulator.result_nz Accumulator.alu_result Unary.modify_result WordResults.mul_result Effects.relative Effects.jump_target
    Effects.call_target wholly granted Image.version_of Image.base_of Image.count_of Image.lengths_of Image.length_at Image.code_at Image.code_of Image.size_of
    Image.layout_of Image.start_of Image.end_of Image.main_of Validation.area_check Validation.apart Validation.second_check Validation.limits_check Validation.mark_check
    Validation.version_check Validation.length_check Validation.lengths_check Validation.header_check Validation.layout_check Validation.refusal
    Validation.validated Set.decoded_for Depth.popped Depth.pushed Code.decoded_at
    Routine.jump_number Routine.depth_number Routine.count_from Measuring.call_use Measuring.greatest_use Cells.target_cell Cells.store_cell
    Paths.beginning Paths.callee Cells.callee_cell Instructions.starts_from Instructions.starts_of Starts.listed Exploration.explore_from
    Exploration.most_moved Exploration.bias_for Exploration.explored Check.first_at Check.bias_of Check.explored_in Check.flow_refusing
    Check.routine_refusing Check.routines_from Check.swept Check.code_checked Check.checked
    Reading.read_byte Computing.computed Storing.sp_trap Step.pc_trap Storing.move_trap Storing.store_trap Storing.call_trap Performing.effect_trap Performing.pc_after
    Storing.stored_at Storing.memory_after Performing.made Performing.performed Step.decoded_step Step.step_valid Step.step_refusal Step.stepped
    InstructionCycles.instruction_cycles Cycles.cycles_at Cycles.step_cycles
all_hold = refl
