-- The turns of two images, by computation. The first has two levels of calls, and the theorem speaks of it: 10 steps at most.
--
--     8000 NOP; RET
--     8002 CALL $8000; CALL $8000; RET
--     8009 JREQ $800E; CALL $8002; RET
use Prim.Native.Nat.{ℕ, ◌≤◌}
use mathlib.Core.Path.{◌≡◌, refl}
use mathlib.Core.List.{List, [], ◌∷◌, flat_map}
use lib.ListN.{length, replicate}
use borrow.Author.Tests.{eq-eqb}
use Rattle.numbers.specs.Checks as Checks
use Rattle.numbers.specs.Words as Words
use Rattle.numbers.specs.Folds as Folds
use Rattle.numbers.specs.Lists as Lists
use Rattle.stm8.specs.Effects.{relative, jump_target, call_target}
use Rattle.image.specs.Image as Image
use Rattle.image.specs.Validation as Validation
use Rattle.image.specs.Access.{wholly, granted}
use Rattle.image.specs.declared.Limits.{Limits}
use Rattle.code.specs.Set as Set
use Rattle.code.specs.Code as Code
use Rattle.code.specs.Depth as Depth
use Rattle.code.specs.Instructions as Instructions
use Rattle.control_flow.specs.Routine as Routine
use Rattle.control_flow.specs.Measuring as Measuring
use Rattle.rules.specs.Paths as Paths
use Rattle.rules.specs.Verdict.{Accepted}
use Rattle.acceptance.specs.Cells as Cells
use Rattle.acceptance.specs.Starts as Starts
use Rattle.acceptance.specs.Exploration as Exploration
use Rattle.acceptance.specs.Check as Check
use Rattle.machine.specs.Run.{ran}
use Rattle.gate.specs.Start.{started}
use Rattle.gate.proofs.Sample as Loop
use Rattle.turns.specs.Turn as Turn
use Rattle.turns.specs.declared.TurnAnswer.TheVariants.{NoTurn, Within}
use Rattle.finishing.specs.Finishing.{FinishedWithin}
use Rattle.finishing.proofs.Reported.{within_finishes}

abbrev pub sample : List ℕ
sample =
    0x53 ∷ 0x4C ∷ 0x55 ∷ 0x00 ∷ 0x02 ∷ 0x80 ∷ 0x00 ∷ 0x03 ∷ 0x00 ∷ 0x02 ∷ 0x00 ∷ 0x07 ∷ 0x00 ∷ 0x06 ∷
    0x9D ∷ 0x81 ∷
    0xCD ∷ 0x80 ∷ 0x00 ∷ 0xCD ∷ 0x80 ∷ 0x00 ∷ 0x81 ∷
    0x27 ∷ 0x03 ∷ 0xCD ∷ 0x80 ∷ 0x02 ∷ 0x81 ∷ []

abbrev pub limits : Limits
limits =
    record {
      grant = record { low = 0x0000; high = 0x00FF };
      stack = record { low = 0x03FA; high = 0x03FF };
      second = record { low = 0xFFFF; high = 0x0000 };
    }

sample_checked : (Check.checked sample limits (replicate 15 0)).0 ≡ Accepted 6 8
unfolding Check.checked Folds.first_in Folds.total Checks.first Checks.both Checks.under Checks.unless Checks.differ Lists.same Words.word
    Words.word_at relative jump_target call_target wholly granted Image.version_of Image.base_of Image.count_of Image.lengths_of Image.length_at Image.code_at
    Image.code_of Image.size_of Image.layout_of Image.start_of Image.end_of Image.main_of Validation.area_check Validation.apart
    Validation.second_check Validation.limits_check Validation.mark_check Validation.version_check Validation.length_check Validation.lengths_check
    Validation.header_check Validation.layout_check Validation.refusal Validation.validated Set.decoded_for Code.decoded_at
    Depth.popped Depth.pushed Routine.jump_number
    Routine.depth_number Routine.count_from Measuring.call_use Measuring.greatest_use Cells.target_cell Cells.store_cell Paths.beginning
    Paths.callee Cells.callee_cell Instructions.starts_from Instructions.starts_of Starts.listed Exploration.explore_from Exploration.most_moved
    Exploration.bias_for Exploration.explored Check.first_at Check.bias_of Check.explored_in Check.flow_refusing Check.routine_refusing
    Check.routines_from Check.swept Check.code_checked
sample_checked = refl

sample_answer : Turn.answer_of sample ≡ Within 10
unfolding Turn.answer_of Turn.some_jumps_back Turn.turn_after Turn.turns_of Folds.total Words.word Words.word_at relative jump_target call_target
    Image.version_of Image.base_of Image.count_of Image.lengths_of Image.length_at Image.code_at Image.code_of Image.size_of Image.start_of Image.end_of
    Image.main_of Set.decoded_for Code.decoded_at Paths.beginning Paths.callee Instructions.starts_from Instructions.starts_of Instructions.instructions_of flat_map
sample_answer = refl

-- the loop of the guarantee's sample
loop_answer : Turn.answer_of Loop.sample ≡ NoTurn
unfolding Turn.answer_of Turn.some_jumps_back Turn.turn_after Turn.turns_of Folds.total Words.word Words.word_at relative jump_target call_target
    Image.version_of Image.base_of Image.count_of Image.lengths_of Image.length_at Image.code_at Image.code_of Image.size_of Image.start_of Image.end_of
    Image.main_of Set.decoded_for Code.decoded_at Paths.beginning Paths.callee Instructions.starts_from Instructions.starts_of Instructions.instructions_of flat_map
loop_answer = refl

sample_turned : (Turn.turned sample limits (replicate 15 0)).0 ≡ Within 10
unfolding Turn.turned
sample_turned = rw sample_checked sample_answer

module _ (memory : List ℕ) (size : length memory ≡ 32768) (a x y cc : ℕ) where
  sample_started : (started sample limits (replicate 15 0) memory a x y cc).started.verdict ≡ Accepted 6 8
  unfolding started
  sample_started = rw (eq-eqb (length memory) 32768 size, sample_checked)

  pub sample_finishes : (budget : ℕ) → 10 ≤ budget →
      let s = started sample limits (replicate 15 0) memory a x y cc in
      FinishedWithin 10 (ran budget sample limits s.started.registers s.memory).0
  sample_finishes =
      within_finishes sample (Loop.bytes_below sample refl) limits (replicate 15 0) (replicate 15 0) memory a x y cc 6 8 sample_started 10 sample_turned
