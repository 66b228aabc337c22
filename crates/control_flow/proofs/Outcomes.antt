-- From known depths to what the check of a routine finds.
use Prim.Native.Nat.{ℕ, ◌<◌, ◌≤◌}
use mathlib.Core.Path.{◌≡◌, refl}
use mathlib.Core.Logic.{inl, inr, ⊎_elim}
use mathlib.Core.Bool.{Bool, true, false}
use mathlib.Core.List.{List}
use native.Mathlib.Omega.{arith}
use lib.ListN.{length, get_or}
use Rattle.control_flow.specs.Graph.{Reached, start, cells}
use Rattle.control_flow.specs.Routine.{Routine, Start, WellFormed, jump_check, depth_check}
use Rattle.control_flow.specs.Outcome.{First, Passes, AllReached, Measured, FlowOutcome, unreached, disagreeing, misused, passing, Left}
use Rattle.control_flow.specs.Exploring.{Known, Explorable, Explored, LowestUnknown, Tested, fails, passes}
use Rattle.control_flow.specs.Measuring.{Measurable}
use Rattle.control_flow.proofs.Paths.{reached_start}

-- a test that gives a number fails first at the offset, and one that gives 0 passes at every start
pub tested_fails : {x : Routine} {check : ℕ → ℕ} {number at : ℕ} → Tested x check number at → (number ≡ 0 → ⊥) → First x check number at
tested_fails (fails f) some = f
tested_fails (passes p) some = absurd (some (omega arith))

pub tested_passes : {x : Routine} {check : ℕ → ℕ} {number at : ℕ} → Tested x check number at → number ≡ 0 → Passes x check
tested_passes (fails f) none = absurd (omega (arith, f.some))
tested_passes (passes p) none = p

pub tested_none : {x : Routine} {check : ℕ → ℕ} {number at : ℕ} → number ≡ 0 → Passes x check → Tested x check number at
tested_none none p = rw none (passes p)

-- an outcome, where its number and its offset are known by equations
pub outcome_by : {x : Routine} {needs given marks : List ℕ} {counted number number' at at' need count : ℕ} → number' ≡ number → at' ≡ at →
    FlowOutcome x needs given counted number at marks need count → FlowOutcome x needs given counted number' at' marks need count
outcome_by n a o = rw (n, a) o

-- nothing is written
pub untouched : {x : Routine} {depths stack : List ℕ} → length depths ≡ 4096 → length stack ≡ 4096 → Left x depths depths stack
untouched size slots = record { cells = size; slots = slots; others = λ o. inr refl }

module _ {x : Routine} (formed : WellFormed x) {before : List ℕ} (clear : (o : ℕ) → Start x o → get_or before o 0 ≡ 0) where
  pub explorable : {stack : List ℕ} → length before ≡ 4096 → length stack ≡ 4096 → Explorable x.graph before stack
  explorable size slots =
      record {
        cells = size;
        slots = slots;
        inside = λ o r. omega (arith, (reached_start formed r).high, formed.size);
        clear = λ o r. clear o (reached_start formed r);
      }

  module _ {bias : ℕ} {depths : List ℕ} {agree : Bool} (found : Explored bias x.graph before depths agree) where
    -- a start's depth is known only where it is reached
    known_reached : (o : ℕ) → Start x o → Known depths o → Reached x.graph o
    known_reached o s k = ⊎_elim (λ r. r) (λ z. absurd (omega (arith, z, clear o s, k))) (found.others o)

    pub left : {stack : List ℕ} → length stack ≡ 4096 → Left x before depths stack
    left slots =
        record {
          cells = found.cells;
          slots = slots;
          others = λ o. ⊎_elim (λ r. inl (reached_start formed r)) inr (found.others o);
        }

    pub measurable : agree ≡ true → {marks : List ℕ} {counted : ℕ} → x.end ≤ length marks → counted ≤ x.graph.entry →
        Measurable x bias (cells depths) marks counted
    measurable a room low =
        record { size = formed.size; entry = formed.entry; zero = omega (arith, found.depth a _ 0 0 start); room = room; counted_low = low }

    module _ {lowest : ℕ} (w : LowestUnknown x depths lowest) where
      below : (o : ℕ) → o < lowest → Start x o → Reached x.graph o
      below o low s = known_reached o s (w.below o low s)

      pub all_reached : x.end ≤ lowest → AllReached x
      all_reached end o s = below o (omega (arith, s.high)) s

      module _ (landed : Passes x (jump_check x)) {needs given marks : List ℕ} {counted need count : ℕ} where
        pub unreached_at : lowest < x.end → FlowOutcome x needs given counted 6 lowest marks need count
        unreached_at l =
            let h = w.here l in
            unreached landed h.0 (λ r. omega (arith, found.known lowest r, h.1)) below

        pub disagreeing_at : x.end ≤ lowest → agree ≡ false → FlowOutcome x needs given counted 7 x.graph.entry marks need count
        disagreeing_at end a = disagreeing landed (all_reached end) (found.disagree a)

        -- 11, 12 or 14, or none of them
        pub tested_at : {number at : ℕ} → x.end ≤ lowest → agree ≡ true → Tested x (depth_check x bias (cells depths)) number at →
            (number ≡ 0 → Measured x needs bias (cells depths) given marks counted need count) →
            FlowOutcome x needs given counted number at marks need count
        tested_at end a (fails f) m = misused landed (all_reached end) bias (cells depths) (found.depth a) f
        tested_at end a (passes p) m = passing landed (all_reached end) bias (cells depths) (found.depth a) p (m (omega arith))
