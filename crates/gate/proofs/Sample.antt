-- The guarantee of one image, so that it speaks of something: two routines with a call, a loop, a store in each grant and one on the stack.
--
--     8000 PUSH A; LD ($01,SP),A; POP A; RET
--     8005 CALL $8000; LD $10,A; LD $4000,A; DEC A; JRNE $8005; RET
use Prim.Native.Nat.{ℕ, zero, suc}
use mathlib.Core.Path.{◌≡◌, refl}
use mathlib.Core.Bool.{Bool, true, false, cond, false≢true}
use mathlib.Core.List.{List, [], ◌∷◌}
use native.Mathlib.Omega.{arith}
use lib.Dec.{ltb}
use lib.ListN.{length, replicate}
use borrow.Author.Tests.{eq-eqb, ltb-true}
use Rattle.numbers.specs.Lists.{Bytes}
use Rattle.numbers.specs.Checks as Checks
use Rattle.numbers.specs.Words as Words
use Rattle.numbers.specs.Folds as Folds
use Rattle.numbers.specs.Lists as Lists
use Rattle.numbers.proofs.Checking.{by_cond}
use Rattle.stm8.specs.Effects.{relative, jump_target, call_target}
use Rattle.image.specs.Image as Image
use Rattle.image.specs.Validation as Validation
use Rattle.image.specs.Access.{wholly, granted}
use Rattle.image.specs.declared.Limits.{Limits}
use Rattle.code.specs.Set as Set
use Rattle.code.specs.Code as Code
use Rattle.code.specs.Depth as Depth
use Rattle.code.specs.Instructions as Instructions
use Rattle.control_flow.specs.Routine as Routine
use Rattle.control_flow.specs.Measuring as Measuring
use Rattle.acceptance.specs.Cells as Cells
use Rattle.acceptance.specs.Starts as Starts
use Rattle.acceptance.specs.Exploration as Exploration
use Rattle.acceptance.specs.Check as Check
use Rattle.rules.specs.Paths as Paths
use Rattle.rules.specs.Verdict.{Accepted}
use Rattle.gate.specs.Start.{started}
use Rattle.gate.specs.History.{Request, point_started, history}
use Rattle.gate.specs.Guarantee.{All, Allowed, Holds}
use Rattle.gate.proofs.Guarantee.{guarantee}

abbrev pub sample : List ℕ
sample =
    0x53 ∷ 0x4C ∷ 0x55 ∷ 0x00 ∷ 0x01 ∷ 0x80 ∷ 0x00 ∷ 0x02 ∷ 0x00 ∷ 0x05 ∷ 0x00 ∷ 0x0C ∷
    0x88 ∷ 0x6B ∷ 0x01 ∷ 0x84 ∷ 0x81 ∷
    0xCD ∷ 0x80 ∷ 0x00 ∷ 0xB7 ∷ 0x10 ∷ 0xC7 ∷ 0x40 ∷ 0x00 ∷ 0x4A ∷ 0x26 ∷ 0xF5 ∷ 0x81 ∷ []

abbrev pub limits : Limits
limits =
    record {
      grant = record { low = 0x0000; high = 0x00FF };
      stack = record { low = 0x03FB; high = 0x03FF };
      second = record { low = 0x4000; high = 0x400F };
    }

sample_accepted : (Check.checked sample limits (replicate 17 0)).0 ≡ Accepted 5 10
unfolding Check.checked Folds.first_in Folds.total Checks.first Checks.both Checks.under Checks.unless Checks.differ Lists.same Words.word
    Words.word_at relative jump_target call_target wholly granted Image.version_of Image.base_of Image.count_of Image.lengths_of Image.length_at Image.code_at
    Image.code_of Image.size_of Image.layout_of Image.start_of Image.end_of Image.main_of Validation.area_check Validation.apart
    Validation.second_check Validation.limits_check Validation.mark_check Validation.version_check Validation.length_check Validation.lengths_check
    Validation.header_check Validation.layout_check Validation.refusal Validation.validated Set.decoded_for Code.decoded_at
    Depth.popped Depth.pushed Routine.jump_number
    Routine.depth_number Routine.count_from Measuring.call_use Measuring.greatest_use Cells.target_cell Cells.store_cell Paths.beginning
    Paths.callee Cells.callee_cell Instructions.starts_from Instructions.starts_of Starts.listed Exploration.explore_from Exploration.most_moved
    Exploration.bias_for Exploration.explored Check.first_at Check.bias_of Check.explored_in Check.flow_refusing Check.routine_refusing
    Check.routines_from Check.swept Check.code_checked
sample_accepted = refl

-- every element is below 256
abbrev bytes : List ℕ → Bool
bytes [] = true
bytes (b ∷ rest) = cond (ltb b 256) (bytes rest) false

pub bytes_below : (s : List ℕ) → bytes s ≡ true → Bytes s
bytes_below [] e k = omega arith
bytes_below (b ∷ rest) e zero = by_cond (ltb b 256) (λ t u. ltb-true b 256 t) (λ t u. absurd (false≢true u)) e
bytes_below (b ∷ rest) e (suc k) = by_cond (ltb b 256) (λ t u. bytes_below rest u k) (λ t u. absurd (false≢true u)) e

module _ (memory : List ℕ) (size : length memory ≡ 32768) (a x y cc : ℕ) where
  pub sample_started : (started sample limits (replicate 17 0) memory a x y cc).started.verdict ≡ Accepted 5 10
  unfolding started
  sample_started = rw (eq-eqb (length memory) 32768 size, sample_accepted)

  pub sample_holds : (calls : List Request) → All (Allowed (record { image = sample; limits = limits })) calls →
      All (Holds sample limits 5 memory) (history calls (point_started (started sample limits (replicate 17 0) memory a x y cc)))
  sample_holds = guarantee sample (bytes_below sample refl) limits (replicate 17 0) memory a x y cc 5 10 sample_started
