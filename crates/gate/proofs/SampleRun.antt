-- The sample at work: from its start with A = 1, a run of up to 100 steps comes to its end in ten, by computation. Its call is in the book until the
-- return that it belongs to, and main's return finishes the run.
use Prim.Native.Nat.{ℕ}
use mathlib.Core.Path.{◌≡◌, refl}
use mathlib.Core.Bool.{true, false, xor}
use mathlib.Core.List.{List, [], ◌∷◌, map}
use mathlib.Core.Option.{Option, none, some}
use lib.ListN.{replicate, length-replicate}
use Rattle.numbers.specs.Bits as Bits
use Rattle.numbers.specs.Checks as Checks
use Rattle.numbers.specs.Folds as Folds
use Rattle.numbers.specs.Lists as Lists
use Rattle.numbers.specs.Words as Words
use Rattle.arithmetic.specs.Bits as CC
use Rattle.arithmetic.specs.Flags as Flags
use Rattle.arithmetic.specs.Sums as Sums
use Rattle.byte_operations.specs.Accumulator as Accumulator
use Rattle.byte_operations.specs.Unary as Unary
use Rattle.stm8.specs.Effects.{relative}
use Rattle.image.specs.Image as Image
use Rattle.image.specs.Validation as Validation
use Rattle.image.specs.Access.{wholly, granted}
use Rattle.code.specs.Set as Set
use Rattle.code.specs.Code as Code
use Rattle.storage.specs.Reading as Reading
use Rattle.storage.specs.Storing as Storing
use Rattle.execution.specs.Computing as Computing
use Rattle.execution.specs.Performing as Performing
use Rattle.machine.specs.Step as Step
use Rattle.machine.specs.Run as Run
use Rattle.execution.specs.declared.StepAnswer.TheVariants.{Made}
use Rattle.machine.specs.declared.RunAnswer.TheVariants.{Finished}
use Rattle.gate.specs.Start.{begun, cleared, started}
use Rattle.gate.specs.History.{Book, empty_book, run, Point, point_started, Answer, initial, stepped_to, ran_to, Moment, fed_to, history}
use Rattle.gate.proofs.Starting.{accepted_start}
use Rattle.gate.proofs.Sample.{sample, limits, sample_started}

-- what is seen of a state: the answer, PC, the address that a RET owed, and the book
abbrev pub Seen : Type 0
Seen = Answer × ℕ × Option ℕ × Book

abbrev pub seen : Moment → Seen
seen m = (m.answer, m.point.state.registers.pc, m.owed, m.point.book)

abbrev pub step_to : ℕ → List ℕ → Seen
step_to pc addresses = (stepped_to Made, pc, none, record { addresses = addresses; returned = false })

abbrev pub trace : List Seen
trace =
    (initial, 0x8005, none, empty_book) ∷
    step_to 0x8000 (0x8008 ∷ []) ∷
    step_to 0x8001 (0x8008 ∷ []) ∷
    step_to 0x8003 (0x8008 ∷ []) ∷
    step_to 0x8004 (0x8008 ∷ []) ∷
    (stepped_to Made, 0x8008, some 0x8008, empty_book) ∷
    step_to 0x800A [] ∷
    step_to 0x800D [] ∷
    step_to 0x800E [] ∷
    step_to 0x8010 [] ∷
    (stepped_to Made, 0, some 0, record { addresses = []; returned = true }) ∷
    (ran_to Finished, 0, none, record { addresses = []; returned = true }) ∷
    []

abbrev pub memory : List ℕ
memory = replicate 32768 0xFE

abbrev pub seen_from : Point → List Seen
seen_from p = map seen (history (run (record { image = sample; limits = limits }) 100 ∷ []) p)

runs_from : seen_from (record { state = record { registers = begun sample limits 1 0 0 0; memory = cleared limits memory }; book = empty_book }) ≡ trace
unfolding xor Bits.bit Checks.first Checks.both Checks.under Checks.unless Checks.differ Folds.first_in Folds.total Lists.same Words.word Words.high
    Words.low CC.with_bit Flags.with_nz Sums.borrow_out Sums.difference Sums.difference_overflow Sums.after_decrement Accumulator.result_nz Unary.modify_result
    relative wholly granted Set.decoded_for Code.decoded_at Image.version_of Image.base_of Image.count_of Image.lengths_of Image.length_at Image.code_at Image.code_of Image.size_of
    Image.start_of Image.end_of Image.main_of Words.word_at Validation.area_check Validation.apart Validation.second_check Validation.limits_check Validation.mark_check
    Validation.version_check Validation.length_check Validation.lengths_check Validation.header_check Validation.layout_check Validation.refusal Reading.read_byte
    Reading.read_word Computing.computed Storing.sp_trap Step.pc_trap Storing.move_trap Storing.store_trap Storing.call_trap Performing.effect_trap Performing.pc_after
    Storing.stored_at Storing.memory_after Performing.made Performing.performed Step.decoded_step Step.step_valid Step.step_refusal Step.stepped Run.no_steps_left Run.ran fed_to
runs_from = refl

pub sample_runs : seen_from (point_started (started sample limits (replicate 17 0) memory 1 0 0 0)) ≡ trace
sample_runs =
    let s = accepted_start sample limits (replicate 17 0) memory 1 0 0 0 5 10 (sample_started memory (length-replicate {A = ℕ} 32768 0xFE) 1 0 0 0) in
    rw (s.registers, s.cleared_memory) runs_from
