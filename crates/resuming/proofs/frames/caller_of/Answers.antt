-- `resuming::frames::caller_of` meets its contract.
use Prim.Native.Nat.{ℕ, ◌+◌, ◌-◌, ◌<◌, ◌≤◌}
use mathlib.Core.Path.{◌≡◌, ap}
use native.Mathlib.Omega.{arith}
use Rattle.image.specs.Image.{base_of}
use Rattle.resuming.proofs.MarkedCode.{marked_code}
use Rattle.resuming.proofs.Walking.{caller_told}
use Rattle.resuming.proofs.frames.caller_of.Goals as goal

-- a mark has 16 bits
place_fits : (f : ℕ) {depth mark : ℕ} → depth ≡ mark - 1 → mark < 65536 → f ≤ 0x7FFF → f + 2 + depth ≤ 0x1FFFE
place_fits f is fits low = omega arith

pub overflow_add-result-2 : goal.overflow_add-result-2
overflow_add-result-2 c = omega (arith, place_fits c.args.f c.depth_in.ensures (c.shared_slice_known-4-1.given c.call_before-call.result.at).fits c.requires.3)

pub returns : goal.returns
returns c =
    let image = c.args.image.now in record {
      routine_bound = (rw (← c.count_of.ensures) c.routine_of.ensures.upper_bound, omega arith, place_fits c.args.f c.depth_in.ensures (c.shared_slice_known-4-1.given c.call_before-call.result.at).fits c.requires.3);
      caller_told = λ limits a other.
          caller_told image limits c.args.marks.now (marked_code a) c.args.memory.now c.args.r c.args.f other
          c.call_before-call.result.found c.word_at-word.ensures (ap (λ k. base_of image + k) (a.begin c.args.r c.requires.2))
          (c.call_before-call.ensures.call_told limits c.args.begins.now a)
          c.count_of.ensures (c.routine_of.ensures.by_index image (rw (← c.count_of.ensures) at a.begin)) (ap (λ d. c.args.f + 2 + d) c.depth_in.ensures);
    }
