-- The phases after decoding, as a function over the cells of a routine, find what they are to find.
use Prim.Native.Nat.{ℕ, ◌+◌, ◌-◌, ◌*◌, ◌<◌, ◌≤◌}
use mathlib.Core.Path.{◌≡◌, refl, ◌∙◌}
use mathlib.Core.Logic.{⊎_map, by_cases}
use mathlib.Core.Bool.{Bool, true, false, cond}
use mathlib.Core.List.{List, [], ◌∷◌, map}
use native.Mathlib.Decide.{ℕ_discrete}
use native.Mathlib.Omega.{arith}
use lib.Dec.{eqb}
use lib.ListN.{length, get_or, replicate, length-replicate, get_or-replicate}
use borrow.Author.Tests.{eqb-true, eqb-false, eq-eqb, ne_eqb}
use Rattle.numbers.specs.Folds.{total}
use Rattle.numbers.proofs.Checking.{by_test}
use Rattle.image.specs.declared.Limits.{Limits}
use Rattle.image.specs.Image.{count_of, start_of, end_of}
use Rattle.image.specs.Rules.{ImageRules}
use Rattle.image.proofs.Layouts.{begins_before_end}
use Rattle.code.specs.Code.{begins}
use Rattle.control_flow.specs.Graph.{cells, Reached}
use Rattle.control_flow.specs.Routine.{Routine, Start, WellFormed, jump_check, depth_check, count_from}
use Rattle.control_flow.specs.Measuring.{use_at}
use Rattle.control_flow.specs.Outcome.{First, Passes, Measured, FlowOutcome, strayed}
use Rattle.control_flow.specs.Exploring.{Explored, LowestUnknown, fails, passes}
use Rattle.control_flow.proofs.Numbers.{well_formed_lem}
use Rattle.control_flow.proofs.DepthNumbers.{depth_passes}
use Rattle.control_flow.proofs.Using.{use_most, use_attained}
use Rattle.control_flow.proofs.Paths.{reached_start}
use Rattle.control_flow.proofs.Outcomes.{explorable, unreached_at, disagreeing_at, tested_at}
use Rattle.acceptance.specs.Cells.{Filled}
use Rattle.acceptance.specs.Starts.{cells_of}
use Rattle.acceptance.specs.Exploration.{most_moved, bias_for}
use Rattle.acceptance.specs.Check.{Refusing, nowhere, first_at, or_else, flow_refusing, bias_of, explored_in, reach_number, mark_all}
use Rattle.code.specs.Instructions.{In, head, tail, starts_of}
use Rattle.code.proofs.StartList.{in_none, starts_rise, listed_start, start_listed}
use Rattle.acceptance.proofs.Offsets.{first_none, first_found}
use Rattle.acceptance.proofs.Graphs.{decoded}
use Rattle.acceptance.proofs.Exploring.{explored_all}
use Rattle.acceptance.proofs.Measuring.{greatest, greatest_bounds, greatest_in, marks_size, mark_at, mark_or}

abbrev zeros : List ℕ
zeros = replicate 4096 0

-- one of a list's numbers is not more than their sum
in_total : (f : ℕ → ℕ) {o : ℕ} {l : List ℕ} → In o l → f o ≤ total (map f l)
unfolding total
in_total f head = omega arith
in_total f (tail i) = omega (arith, in_total f i)

module _ (image : List ℕ) (limits : Limits) (r : ℕ) (layout : ImageRules image) (inside : r < count_of image)
    (filled : Filled image limits r (cells_of image limits r)) where
  abbrev x : Routine
  x = cells_of image limits r

  abbrev starts : List ℕ
  starts = starts_of image r

  abbrev depths : List ℕ
  depths = (explored_in image limits r).depths

  abbrev bias : ℕ
  bias = bias_of image limits r

  some : start_of image r < end_of image r
  some = begins_before_end image layout r inside

  start_in : {o : ℕ} → Start x o → In o starts
  start_in {o} s = start_listed image r some (filled.start o s)

  in_start : {o : ℕ} → In o starts → Start x o
  in_start {o} i = filled.starts o (listed_start image r i)

  -- a check over the list of starts is one over the starts
  first_of : (check : ℕ → ℕ) → ((first_at check starts).number ≡ 0 → ⊥) → First x check (first_at check starts).number (first_at check starts).at
  first_of check not =
      let f = first_found check starts (starts_rise image r) not in
      record {
        start = in_start f.inside;
        is = f.is;
        some = omega arith;
        lower = λ o below s. f.lower o below (start_in s);
      }

  passes_of : (check : ℕ → ℕ) → (first_at check starts).number ≡ 0 → Passes x check
  passes_of check none o s = first_none check starts none (start_in s)

  module _ (landed : Passes x (jump_check x)) where
    formed : WellFormed x
    formed = well_formed_lem (decoded filled layout inside) landed

    moves : (o : ℕ) → Reached x.graph o → (x.graph.pops o ≤ most_moved x.graph starts) × (x.graph.pushes o ≤ most_moved x.graph starts)
    unfolding most_moved
    moves o p =
        let t = in_total (λ o. x.graph.pops o + x.graph.pushes o) (start_in (reached_start formed p)) in
        (omega arith, omega arith)

    small : most_moved x.graph starts * 4097 < bias
    unfolding bias_of bias_for
    small = omega arith

    clear : (o : ℕ) → Start x o → get_or zeros o 0 ≡ 0
    clear o s = get_or-replicate {A = ℕ} 4096 o 0 0 (omega (arith, s.high, formed.size))

    found : Explored bias x.graph zeros depths (explored_in image limits r).agree
    unfolding explored_in
    found = explored_all small moves (explorable formed clear (length-replicate {A = ℕ} 4096 0) (length-replicate {A = ℕ} 4096 0))

    -- 6: the first start whose depth is not known
    reach_number_lem : (o : ℕ) → (reach_number depths o ≡ 0 → ⊥) → get_or depths o 0 ≡ 0
    reach_number_lem o not = by_cases (ℕ_discrete (get_or depths o 0) 0) (λ z. z) (λ z. absurd (not (rw (ne_eqb _ _ z))))

    known_at : (o : ℕ) → reach_number depths o ≡ 0 → 1 ≤ get_or depths o 0
    known_at o e = by_cases (ℕ_discrete (get_or depths o 0) 0) (λ z. absurd (omega (arith, rw (eq-eqb _ _ z) at e))) (λ z. omega arith)

    all_known : (first_at (reach_number depths) starts).number ≡ 0 → LowestUnknown x depths x.end
    all_known none =
        record {
          high = omega arith;
          below = λ k low s. known_at k (passes_of (reach_number depths) none k s);
          here = λ l. absurd (omega arith);
        }

    lowest : (not : (first_at (reach_number depths) starts).number ≡ 0 → ⊥) → LowestUnknown x depths (first_at (reach_number depths) starts).at
    lowest not =
        let f = first_of (reach_number depths) not in
        record {
          high = omega (arith, f.start.high);
          below = λ k low s. known_at k (f.lower k low s);
          here = λ l. (f.start, reach_number_lem _ (λ z. not (f.is ∙ z)));
        }

    -- what the routine that passes measures
    module _ (needs given : List ℕ) (counted : ℕ) (long : end_of image r ≤ length given)
        (deep : Passes x (depth_check x bias (cells depths))) where
      lows : (o : ℕ) → Start x o → (bias ≤ get_or depths o 0) × (bias + x.graph.pops o ≤ get_or depths o 0 + x.graph.pushes o)
      lows o s = let p = (depth_passes _ _ _ _ _ _ _ _ (deep o s)).0 in (p.before_low, p.after_low)

      attained : (l : List ℕ) → starts ≡ l → In (start_of image r) l →
          (o : ℕ) × In o starts × (greatest (use_at x needs bias (cells depths)) starts ≡ use_at x needs bias (cells depths) o)
      attained [] e i = in_none refl i
      attained (s ∷ rest) e i = rw e (greatest_in (use_at x needs bias (cells depths)) s rest)

      measured : Measured x needs bias (cells depths) given (mark_all bias depths given starts) counted
          (greatest (use_at x needs bias (cells depths)) starts) (counted + count_from x.starts (start_of image r) (end_of image r - start_of image r))
      measured =
          let g = attained starts refl (start_listed image r some begins) in
          let there = in_start g.1 in
          let low = lows g.0 there in
          record {
            attained = (g.0, there, rw g.2 (use_attained x needs bias (cells depths) g.0 low.0 low.1));
            bounds = λ o v s u.
                let l = lows o s in
                let b = greatest_bounds (use_at x needs bias (cells depths)) (start_in s) in
                omega (arith, use_most x needs bias (cells depths) o l.0 l.1 v u);
            number = refl;
            size = marks_size bias depths given starts;
            starts = λ o s.
                let m = mark_at bias depths given (λ k i. omega (arith, (in_start i).high)) (start_in s) in
                omega (arith, (lows o s).0);
            others = λ o. ⊎_map in_start (λ e. e) (mark_or bias depths given o starts);
          }

  -- the phases one after the other
  module _ (needs given : List ℕ) (counted : ℕ) (long : end_of image r ≤ length given) where
    Found : Refusing → Type 0
    Found q =
        FlowOutcome x needs given counted q.number q.at (mark_all bias depths given starts) (greatest (use_at x needs bias (cells depths)) starts)
        (counted + count_from x.starts (start_of image r) (end_of image r - start_of image r))

    module _ (landed : Passes x (jump_check x)) (reached : (first_at (reach_number depths) starts).number ≡ 0) where
      deep_found : (explored_in image limits r).agree ≡ true → Found (first_at (depth_check x bias (cells depths)) starts)
      unfolding Found
      deep_found agree =
          let check = depth_check x bias (cells depths) in
          let w = all_known landed reached in
          let same : x.end ≤ x.end = omega arith in
          by_cases (ℕ_discrete (first_at check starts).number 0)
          (λ z.
          let p = passes_of check z in
          tested_at (formed landed) (clear landed) (found landed) w landed same agree (rw z (passes p))
          (λ e. measured landed needs given counted long p))
          (λ z. tested_at (formed landed) (clear landed) (found landed) w landed same agree (fails (first_of check z)) (λ e. absurd (z e)))

      disagree_found : (explored_in image limits r).agree ≡ false → Found (record { number = 7; at = start_of image r })
      unfolding Found
      disagree_found disagree =
          let same : x.end ≤ x.end = omega arith in
          disagreeing_at (formed landed) (clear landed) (found landed) (all_known landed reached) landed same disagree

      paths_found : (agree : Bool) → (explored_in image limits r).agree ≡ agree →
          Found (or_else (cond agree nowhere (record { number = 7; at = start_of image r })) (first_at (depth_check x bias (cells depths)) starts))
      paths_found true e = deep_found e
      paths_found false e = disagree_found e

    abbrev paths_refusing : Refusing
    paths_refusing =
        or_else (cond (explored_in image limits r).agree nowhere (record { number = 7; at = start_of image r }))
        (first_at (depth_check x bias (cells depths)) starts)

    module _ (landed : Passes x (jump_check x)) where
      six : (not : (first_at (reach_number depths) starts).number ≡ 0 → ⊥) → (first_at (reach_number depths) starts).number ≡ 6
      six not =
          let f = first_of (reach_number depths) not in
          f.is ∙ rw (eq-eqb _ 0 (reach_number_lem landed _ (λ z. not (f.is ∙ z))))

      unreached_found : ((first_at (reach_number depths) starts).number ≡ 0 → ⊥) → Found (first_at (reach_number depths) starts)
      unfolding Found
      unreached_found not =
          let f = first_of (reach_number depths) not in
          rw (six not) (unreached_at (formed landed) (clear landed) (found landed) (lowest landed not) landed f.start.high)

      reach_found : Found (or_else (first_at (reach_number depths) starts) paths_refusing)
      reach_found =
          by_test Found (eqb (first_at (reach_number depths) starts).number 0)
          (λ t. paths_found landed (eqb-true _ 0 t) (explored_in image limits r).agree refl)
          (λ t. unreached_found (eqb-false _ 0 t))

    strayed_found : ((first_at (jump_check x) starts).number ≡ 0 → ⊥) → Found (first_at (jump_check x) starts)
    unfolding Found
    strayed_found not = strayed (first_of (jump_check x) not)

    flow_found : Found (flow_refusing image limits r)
    unfolding flow_refusing
    flow_found =
        by_test Found (eqb (first_at (jump_check x) starts).number 0)
        (λ t. reach_found (passes_of (jump_check x) (eqb-true _ 0 t)))
        (λ t. strayed_found (eqb-false _ 0 t))

    pub flow_outcome :
        FlowOutcome x needs given counted (flow_refusing image limits r).number (flow_refusing image limits r).at (mark_all bias depths given starts)
        (greatest (use_at x needs bias (cells depths)) starts) (counted + count_from x.starts (start_of image r) (end_of image r - start_of image r))
    unfolding Found
    flow_outcome = flow_found
