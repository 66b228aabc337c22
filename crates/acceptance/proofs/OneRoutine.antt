-- One routine: what the check by its cells finds is what the rules and the refusals say of its code.
use Prim.Native.Nat.{ℕ, ◌<◌, ◌≤◌}
use mathlib.Core.Path.{◌≡◌, refl, sym, subst}
use mathlib.Core.List.{List}
use native.Mathlib.Omega.{arith}
use lib.ListN.{get_or}
use Rattle.image.specs.declared.Limits.{Limits}
use Rattle.image.specs.Image.{count_of, start_of}
use Rattle.image.specs.Rules.{ImageRules}
use Rattle.rules.specs.Rules.{count_below}
use Rattle.rules.specs.Refusal as refusal
use Rattle.rules.specs.Refusal.{Lowest, RoutineRefusal, here, later}
use Rattle.rules.proofs.RefusalNumbers.{fault_at, routine_refusal_at}
use Rattle.control_flow.specs.Graph as graph
use Rattle.control_flow.specs.Routine as cells
use Rattle.control_flow.specs.Outcome as flow
use Rattle.control_flow.proofs.Numbers.{well_formed_lem}
use Rattle.acceptance.specs.Cells.{Filled}
use Rattle.acceptance.specs.Passed.{marked, RoutinePassed, RoutineChecked, refused, passed}
use Rattle.acceptance.proofs.Graphs.{decoded, reached_code, reached_graph, disagree_code, disagree_graph}
use Rattle.acceptance.proofs.CodeFaults.{stored_passes}
use Rattle.acceptance.proofs.Faults.{first_lowest, no_faults}
use Rattle.acceptance.proofs.Strays.{strays}
use Rattle.acceptance.proofs.DepthFaults.{Explored, depth_faults}
use Rattle.acceptance.proofs.RoutinePasses.{routine_passed}

module _ {image : List ℕ} {limits : Limits} {needs : List ℕ} {r : ℕ} {given : List ℕ} where
  refuses : {number at need count : ℕ} {marks : List ℕ} → RoutineRefusal image limits r number at →
      RoutineChecked image limits needs r given number at marks need count
  refuses {number} x = let some : 1 ≤ number = omega (arith, (routine_refusal_at x).least) in refused some x

  -- 8, 9 and 15
  pub code_refused : {number at need count : ℕ} {marks : List ℕ} → Lowest (refusal.CodeFault image r) number at →
      RoutineChecked image limits needs r given number at marks need count
  code_refused l = refuses (here l)

  -- the number tells whether a routine passes
  pub checked_refused : {number at need count : ℕ} {marks : List ℕ} → RoutineChecked image limits needs r given number at marks need count →
      (number ≡ 0 → ⊥) → RoutineRefusal image limits r number at
  checked_refused (refused some x) not = x
  checked_refused (passed p) not = absurd (not refl)

  pub checked_passed : {number at need count : ℕ} {marks : List ℕ} → RoutineChecked image limits needs r given number at marks need count →
      number ≡ 0 → RoutinePassed image limits needs r given marks need count
  checked_passed (refused some x) e = absurd (omega arith)
  checked_passed (passed p) e = p

-- what comes after 8, 9 and 15, by cells that are filled
module _ {image : List ℕ} {limits : Limits} {r : ℕ} {x : cells.Routine} (layout : ImageRules image) (inside : r < count_of image)
    (filled : Filled image limits r x) where
  no_code : (o n : ℕ) → refusal.CodeFault image r o n → ⊥
  no_code o n f = stored_passes (filled.cells o (fault_at limits refusal.codes o n f).start) f

  module _ (landed : flow.Passes x (cells.jump_check x)) where
    well_formed : cells.WellFormed x
    well_formed = well_formed_lem (decoded filled layout inside) landed

    no_jump : (o n : ℕ) → refusal.JumpFault image r o n → ⊥
    no_jump = no_faults (strays filled well_formed.size) landed

    reach_passes : {o n : ℕ} → (cells.Start x o → graph.Reached x.graph o) → refusal.ReachFault image r o n → ⊥
    reach_passes {o} reached (refusal.unreached s none) = none (reached_code filled well_formed (reached (filled.starts o s)))

    lowest_unreached : {at : ℕ} → cells.Start x at → (graph.Reached x.graph at → ⊥) →
        ((o : ℕ) → o < at → cells.Start x o → graph.Reached x.graph o) → Lowest (refusal.ReachFault image r) 6 at
    lowest_unreached {at} s none lower =
        record {
          fault = refusal.unreached (filled.start at s) (λ p. none (reached_graph filled well_formed p));
          lowest = λ o n l. reach_passes (lower o l);
        }

    path_first : {o n : ℕ} → refusal.PathFault image r o n → o ≡ start_of image r
    path_first (refusal.disagree e) = refl

    lowest_path : graph.Disagree x.graph → Lowest (refusal.PathFault image r) 7 x.graph.entry
    lowest_path d =
        subst (λ (o : ℕ). Lowest (refusal.PathFault image r) 7 o) (sym filled.entry)
        (record { fault = refusal.disagree (disagree_code filled well_formed d); lowest = λ o n l f. omega (arith, path_first f) })

    no_path : (bias : ℕ) (held : ℕ → ℕ) → flow.Held x bias held → (o n : ℕ) → refusal.PathFault image r o n → ⊥
    no_path bias held holds o n (refusal.disagree e) =
        let d = disagree_graph filled well_formed e in
        d.differ (omega (arith, holds _ _ _ d.path, holds _ _ _ d.path'))

  explored : flow.Passes x (cells.jump_check x) → flow.AllReached x → (bias : ℕ) (held : ℕ → ℕ) → flow.Held x bias held →
      Explored image limits r x bias held
  explored landed all bias held holds =
      record { layout = layout; inside = inside; filled = filled; landed = landed; reached = all; holds = holds }

  pub filled_checked : {needs given marks : List ℕ} {counted number at need count : ℕ} →
      ((o : ℕ) → start_of image r ≤ o → get_or given o 0 ≡ 0) → counted ≡ count_below (marked given) (start_of image r) →
      flow.FlowOutcome x needs given counted number at marks need count → RoutineChecked image limits needs r given number at marks need count
  filled_checked clear before (flow.strayed f) =
      refuses (later no_code (here (first_lowest (strays filled (decoded filled layout inside).size) f)))
  filled_checked clear before (flow.unreached landed s none lower) =
      refuses (later no_code (later (no_jump landed) (here (lowest_unreached landed s none lower))))
  filled_checked clear before (flow.disagreeing landed all d) =
      refuses (later no_code (later (no_jump landed) (later (λ o n. reach_passes landed (all o)) (here (lowest_path landed d)))))
  filled_checked clear before (flow.misused landed all bias held holds f) =
      refuses
      (later no_code (later (no_jump landed) (later (λ o n. reach_passes landed (all o)) (later (no_path landed bias held holds)
      (here (first_lowest (depth_faults (explored landed all bias held holds)) f))))))
  filled_checked clear before (flow.passing landed all bias held holds passes m) =
      passed (routine_passed (explored landed all bias held holds) passes m clear before)
