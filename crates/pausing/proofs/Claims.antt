-- Every state that a run from the start reaches is good; from any good record the guarantee holds; what is resumed can be saved and resumed again; and
-- resuming has one outcome.
use Prim.Native.Nat.{ℕ, ◌+◌, ◌≤◌}
use mathlib.Core.Path.{◌≡◌, ap}
use mathlib.Core.List.{List}
use lib.ListN.{length}
use Rattle.numbers.specs.Lists.{Bytes}
use Rattle.image.specs.declared.Limits.{Limits}
use Rattle.rules.specs.Verdict as Verdicts
use Rattle.rules.specs.Verdict.{Verdict}
use Rattle.acceptance.specs.Check.{checked}
use Rattle.acceptance.specs.Passed.{depth_in}
use Rattle.machine.specs.Run.{ran}
use Rattle.gate.specs.Start.{started}
use Rattle.gate.specs.History.{Given, State, Request, Point, Moment, point_started, ran_point, history}
use Rattle.gate.specs.Guarantee.{All, Allowed}
use Rattle.gate.specs.GoodPoint.{GoodPoint}
use Rattle.gate.proofs.AnyList.{all_map}
use Rattle.gate.proofs.OneStep.{unchanged_none}
use Rattle.gate.proofs.Starting.{accepted_start}
use Rattle.gate.proofs.Guarantee.{accepted_code, good_guarantee, every_good}
use Rattle.saved_state.specs.Sls.{state_in}
use Rattle.saved_state.proofs.Trips.{saved_reads, state_fits}
use Rattle.resuming.specs.Good.{point_at, Good}
use Rattle.resuming.specs.Resuming.{ceiling, allowance, ran_on, unreadable, not_good, resumed, Resumes, no_memory, refused, accepted}
use Rattle.resuming.specs.declared.Resumed.{Resumed}
use Rattle.resuming.proofs.GoodRuns.{good_run}
use Rattle.resuming.proofs.RunEndings.{total_most}
use Rattle.pausing.specs.Pausing.{RunsOn, Resumable, FromRecord}
use Rattle.pausing.proofs.Resuming.{good_pc, saving_passes}

module _ (image : List ℕ) (bytes : Bytes image) (limits : Limits) (marks : List ℕ) (need count : ℕ)
    (accept : (checked image limits marks).0 ≡ Verdicts.Accepted need count) where
  abbrev left : List ℕ
  left = (checked image limits marks).1

  -- a good point can be saved and resumed from
  good_resumable : (p : Point) → GoodPoint image limits (depth_in left) p → (steps : ℕ) → steps ≤ ceiling →
      Resumable image limits left p.state.registers steps p.state.memory
  good_resumable p good steps few =
      let h = accepted_code image bytes limits marks need count accept in
      let saves = saving_passes p.state.registers steps (good_pc image limits (depth_in left) h.needs h.code p good) in
      let reads = saved_reads p.state.registers steps saves few in
      record { saves = saves; reads = reads.0; says = reads.1; good = (p.book, good) }

  -- a good record's claims
  from_record : {memory stored after : List ℕ} {budget : ℕ} {r : Resumed} → length memory ≡ 32768 →
      (g : Good image limits left (state_in stored).registers memory) →
      (r, after) ≡ ran_on image limits memory (state_in stored) budget r.answer → FromRecord image limits marks memory stored budget r after
  from_record {memory} {stored} size g is =
      record {
        need = need;
        count = count;
        accepted = accept;
        book = g.0;
        good = g.1;
        holds =
            good_guarantee image bytes limits marks need count accept memory size (point_at (state_in stored).registers memory g.0) g.1
            (unchanged_none limits need memory);
        run_is = ap (λ (x : Resumed × List ℕ). let s : State = record { registers = x.0.registers; memory = x.1 } in s) is;
      }

  -- where a resumed run came to
  came_good : (stored : List ℕ) (budget : ℕ) {memory after : List ℕ} {r : Resumed} → Bytes stored → length memory ≡ 32768 →
      (g : Good image limits left (state_in stored).registers memory) →
      (r, after) ≡ ran_on image limits memory (state_in stored) budget r.answer → Resumable image limits left r.registers r.steps after
  came_good stored budget {memory} {r = r} small size g is =
      let h = accepted_code image bytes limits marks need count accept in
      let state = state_in stored in
      let g0 : Given = record { image = image; limits = limits } in
      let p = point_at state.registers memory g.0 in
      let allowed = allowance budget state in
      let end = good_run image limits (depth_in left) h.needs h.code allowed p size g.1 in
      let most = total_most image limits memory state budget (state_fits stored small).1 in
      let there = good_resumable (ran_point g0 allowed p) end.0 (state.steps + (ran allowed image limits state.registers memory).0.steps) most in
      let registers = ap (λ (x : Resumed × List ℕ). x.0.registers) is in
      let steps = ap (λ (x : Resumed × List ℕ). x.0.steps) is in
      let memory-is = ap (λ (x : Resumed × List ℕ). x.1) is in
      rw (registers, steps, memory-is) there

-- Every state that a run from the start reaches, inside runs too, is good: saved with any total it can have, it can be resumed from.
pub reached_resumable : (image : List ℕ) → Bytes image → (limits : Limits) (marks memory : List ℕ) (a x y cc need count : ℕ) →
    (started image limits marks memory a x y cc).started.verdict ≡ Verdicts.Accepted need count →
    (calls : List Request) → All (Allowed (record { image = image; limits = limits })) calls →
    All (λ (m : Moment). (steps : ℕ) → steps ≤ ceiling →
    Resumable image limits (checked image limits marks).1 m.point.state.registers steps m.point.state.memory)
    (history calls (point_started (started image limits marks memory a x y cc)))
reached_resumable image bytes limits marks memory a x y cc need count accept calls allowed =
    let s = accepted_start image limits marks memory a x y cc need count accept in
    all_map (λ m good. good_resumable image bytes limits marks need count s.accepted m.point good)
    (history calls (point_started (started image limits marks memory a x y cc)))
    (every_good image bytes limits marks memory a x y cc need count accept calls allowed)

module _ (image : List ℕ) (bytes : Bytes image) (limits : Limits) (marks memory stored : List ℕ) (budget : ℕ) where
  -- From any good record, with any other bytes in memory, the guarantee for accepted routines holds.
  pub resumed_guarantee : {r : Resumed} {marks' after : List ℕ} → Resumes image limits marks memory stored budget r marks' after → RunsOn r.answer →
      FromRecord image limits marks memory stored budget r after
  resumed_guarantee (no_memory other) on = absurd on
  resumed_guarantee (refused size check) on = absurd on
  resumed_guarantee (accepted size check (unreadable is some)) on = absurd on
  resumed_guarantee (accepted size check (not_good read bad)) on = absurd on
  resumed_guarantee (accepted {need = need} {count = count} size check (resumed read good ends is)) on =
      let verdict = ap (λ (x : Verdict × List ℕ). x.0) check in
      from_record image bytes limits marks need count verdict size (rw (← ap (λ (x : Verdict × List ℕ). x.1) check) at good) is

  -- What is resumed can be saved and resumed again.
  pub resumed_again : Bytes stored → {r : Resumed} {marks' after : List ℕ} → Resumes image limits marks memory stored budget r marks' after →
      RunsOn r.answer → Resumable image limits marks' r.registers r.steps after
  resumed_again small (no_memory other) on = absurd on
  resumed_again small (refused size check) on = absurd on
  resumed_again small (accepted size check (unreadable is some)) on = absurd on
  resumed_again small (accepted size check (not_good read bad)) on = absurd on
  resumed_again small (accepted {need = need} {count = count} size check (resumed read good ends is)) on =
      let verdict = ap (λ (x : Verdict × List ℕ). x.0) check in
      let left_is = ap (λ (x : Verdict × List ℕ). x.1) check in
      rw left_is at (came_good image bytes limits marks need count verdict stored budget small size (rw (← left_is) at good) is)
