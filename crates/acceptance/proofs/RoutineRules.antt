-- A routine whose cells pass every check meets the rules, at the depths that its marks say.
use Prim.Native.Nat.{ℕ, ◌+◌, ◌≤◌}
use mathlib.Core.Path.{◌≡◌, refl}
use mathlib.Core.List.{List}
use native.Mathlib.Omega.{arith}
use lib.ListN.{get_or}
use Rattle.stm8.specs.Effects.{effect}
use Rattle.stm8.specs.declared.Instruction.{Instruction}
use Rattle.image.specs.declared.Limits.{Limits}
use Rattle.image.specs.Image.{base_of}
use Rattle.code.specs.Depth.{after}
use Rattle.code.specs.Code.{Start}
use Rattle.rules.specs.Paths.{Goes, falling, jumping, Path, entry, onward}
use Rattle.rules.specs.Rules.{InstructionRules, StartAt, RoutineRules}
use Rattle.rules.specs.Refusal.{Arrival}
use Rattle.rules.proofs.Ranges.{range_rules}
use Rattle.control_flow.specs.Routine as cells
use Rattle.control_flow.specs.Outcome.{Passes}
use Rattle.acceptance.specs.Passed.{depth_in}
use Rattle.acceptance.proofs.Graphs.{reached_code}
use Rattle.acceptance.proofs.Strays.{jump_lands}
use Rattle.acceptance.proofs.DepthTests.{Allowed}
use Rattle.acceptance.proofs.DepthFaults.{Explored, well_formed, arrived, path_held, depth_allows}

module _ {image : List ℕ} {limits : Limits} {r : ℕ} {x : cells.Routine} {bias : ℕ} {held : ℕ → ℕ} (h : Explored image limits r x bias held)
    (passed : Passes x (cells.depth_check x bias held)) (marks : List ℕ)
    (deep : (o : ℕ) → cells.Start x o → get_or marks o 0 + bias ≡ held o + 1) where
  allowed : {o n pushes pops : ℕ} {i : Instruction} → Arrival image r o n i pushes pops →
      Allowed image limits r (base_of image + (o + n)) (effect i) pushes pops
  allowed {o} a = depth_allows h a (passed o (h.filled.starts o a.start))

  -- a mark is one more than the depth of every path
  pub mark_held : {o : ℕ} → Start image r o → (1 ≤ get_or marks o 0) × (depth_in marks o + bias ≡ held o)
  mark_held {o} s =
      let a = (arrived h s).arrival in
      let low = (allowed a).ranges.before_low in
      let p = (path_held h a.path).1 in
      let m = deep o (h.filled.starts o s) in
      (omega arith, omega arith)

  path_depth : {o pushes pops : ℕ} → Path image r o pushes pops → Start image r o × (depth_in marks o + pops ≡ pushes)
  path_depth p = let q = path_held h p in (q.0, omega (arith, (mark_held q.0).1, q.1))

  goes_to : {o to n pushes pops : ℕ} {i : Instruction} → Arrival image r o n i pushes pops → Goes image r o to →
      StartAt image (depth_in marks) r to (after (effect i) (depth_in marks o))
  unfolding after
  goes_to {i = i} a g =
      let comes = (path_depth a.path).1 in
      let there = path_depth (onward a.path a.found g) in
      let rules = range_rules comes i (allowed a).ranges in
      record { start = there.0; deep = omega (arith, there.1, rules.pops_enough) }

  rules_at : {o n pushes pops : ℕ} {i : Instruction} → Arrival image r o n i pushes pops →
      InstructionRules image limits r (StartAt image (depth_in marks) r) o (depth_in marks o) i n
  rules_at {o} {i = i} a =
      let comes = (path_depth a.path).1 in
      let rules = range_rules comes i (allowed a).ranges in
      record {
        pops_enough = rules.pops_enough;
        depth_before = rules.depth_before;
        depth_after = rules.depth_after;
        return_empty = rules.return_empty;
        store = (allowed a).stores _ comes;
        jump = λ j.
            let l = jump_lands h.filled (well_formed h).size a.start a.found (h.landed o (h.filled.starts o a.start)) j in
            let t = h.filled.starts _ l.2 in
            record {
              to = l.0;
              target = l.1;
              low = omega (arith, t.low, h.filled.entry);
              high = omega (arith, t.high, h.filled.end);
              lands = goes_to a (jumping a.found (rw l.1 at j));
            };
        call = λ c. (allowed a).calls c;
        fall = λ t. goes_to a (falling a.found t refl);
      }

  pub routine_rules : RoutineRules image limits (depth_in marks) r
  routine_rules =
      record {
        entry = omega (arith, (path_depth entry).1);
        starts = λ {o} s.
            let a = arrived h s in
            record {
              instruction = a.instruction;
              size = a.size;
              found = a.arrival.found;
              reached = reached_code h.filled (well_formed h) (h.reached o (h.filled.starts o s));
              rules = rules_at a.arrival;
            };
      }
