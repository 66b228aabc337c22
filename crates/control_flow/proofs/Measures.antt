-- The invariant of the depth pass, that one offset keeps it, and what it ends with.
use Prim.Native.Nat.{ℕ, ◌+◌, ◌-◌, ◌<◌, ◌≤◌, max}
use mathlib.Core.Path.{◌≡◌, refl, sym, ap, ◌∙◌}
use mathlib.Core.Logic.{◌⊎◌, inl, inr, ⊎_elim, by_cases}
use mathlib.Core.List.{List}
use native.Mathlib.Decide.{ℕ_discrete}
use native.Mathlib.Omega.{arith}
use lib.ListN.{length, get_or, set, length-set}
use lib.Seq.{get_or-set_same, get_or-set_other}
use Rattle.control_flow.specs.Routine.{Routine, Start, depth_check, Uses, before, count_from}
use Rattle.control_flow.specs.Outcome.{First, Passes, Measured}
use Rattle.control_flow.specs.Measuring.{use_at, DepthStep, skips, refuses, measures, Measurable}
use Rattle.control_flow.proofs.DepthNumbers.{Inside, depth_passes}
use Rattle.control_flow.proofs.Rising.{Below, none_below, one_more}
use Rattle.control_flow.proofs.Using.{either, use_most, use_attained}
use Rattle.control_flow.proofs.Counting.{count_most, count_start, count_other}

-- what the pass knows of a start that it is done with
pub record Done (x : Routine) (needs : List ℕ) (bias : ℕ) (held : ℕ → ℕ) (marks : List ℕ) (need o : ℕ) : Type 0 where
  pub passed : depth_check x bias held o ≡ 0
  pub most : (v : ℕ) → Uses x needs bias held o v → v ≤ need
  pub mark : get_or marks o 0 + bias ≡ held o + 1

-- every start below `at` is done
pub record Measuring (x : Routine) (needs : List ℕ) (bias : ℕ) (held : ℕ → ℕ) (given : List ℕ) (counted at : ℕ) (marks : List ℕ) (need count : ℕ) : Type 0 where
  pub low : x.graph.entry ≤ at
  pub high : at ≤ x.end
  pub size : length marks ≡ length given
  pub number : count ≡ counted + count_from x.starts x.graph.entry (at - x.graph.entry)
  pub attained : (o : ℕ) × Start x o × Uses x needs bias held o need
  pub done : Below x.graph.entry x.starts (Done x needs bias held marks need) at
  pub others : (o : ℕ) → Start x o ⊎ (get_or marks o 0 ≡ get_or given o 0)

module _ {x : Routine} (needs : List ℕ) {bias : ℕ} {held : ℕ → ℕ} {given : List ℕ} {counted : ℕ} (asks : Measurable x bias held given counted) where
  pub measuring_begins : Measuring x needs bias held given counted x.graph.entry given 0 counted
  unfolding count_from
  measuring_begins =
      let none : x.graph.entry - x.graph.entry ≡ 0 = omega arith in
      record {
        low = omega arith;
        high = omega (arith, asks.entry.high);
        size = refl;
        number = rw none (omega arith);
        attained = (x.graph.entry, asks.entry, before {v = 0} (omega (arith, asks.zero)));
        done = none_below x.graph.entry x.starts (Done x needs bias held given 0);
        others = λ o. inr refl;
      }

  module _ {at : ℕ} {marks : List ℕ} {need count : ℕ} (m : Measuring x needs bias held given counted at marks need count) where
    pub count_low : count ≤ at
    count_low = omega (arith, m.low, m.number, count_most x.starts x.graph.entry (at - x.graph.entry), asks.counted_low)

    pub measuring_ends : at ≡ x.end → Measured x needs bias held given marks counted need count
    measuring_ends end =
        let done : (o : ℕ) → Start x o → Done x needs bias held marks need o = λ o s. m.done o s.low (omega (arith, s.high)) s.is in
        record {
          attained = m.attained;
          bounds = λ o v s u. (done o s).most v u;
          number = rw end at m.number;
          size = m.size;
          starts = λ o s. (done o s).mark;
          others = m.others;
        }

    pub measuring_passes : at ≡ x.end → Passes x (depth_check x bias held)
    measuring_passes end o s = (m.done o s.low (omega (arith, s.high)) s.is).passed

    module _ (inside : at < x.end) where
      -- the start at `at`, where its check passes
      start_here : 1 ≤ x.starts at → Start x at
      start_here is = record { low = m.low; high = inside; is = is }

      depth_here : depth_check x bias held at ≡ 0 → Inside bias (held at) (x.graph.falls at) (x.graph.jumps at) (x.graph.pops at)
          (x.graph.pushes at) (x.stores at) (x.calls at)
      depth_here p = (depth_passes _ _ _ _ _ _ _ _ p).0

      new : depth_check x bias held at ≡ 0 → Done x needs bias held (set marks at (held at - bias + 1)) (max need (use_at x needs bias held at)) at
      new p =
          let d = depth_here p in
          record {
            passed = p;
            most = λ v u. omega (arith, use_most x needs bias held at d.before_low d.after_low v u);
            mark = omega (arith, d.before_low, get_or-set_same marks at (held at - bias + 1) 0 (omega (arith, m.size, asks.room)));
          }

      -- a lower start stays done
      still : (o : ℕ) → o < at → Done x needs bias held marks need o →
          Done x needs bias held (set marks at (held at - bias + 1)) (max need (use_at x needs bias held at)) o
      still o l d =
          record {
            passed = d.passed;
            most = λ v u. omega (arith, d.most v u);
            mark = omega (arith, d.mark, get_or-set_other marks at o (held at - bias + 1) 0 (λ e. omega arith));
          }

      measured_attained : 1 ≤ x.starts at → depth_check x bias held at ≡ 0 →
          (o : ℕ) × Start x o × Uses x needs bias held o (max need (use_at x needs bias held at))
      measured_attained is p =
          let d = depth_here p in
          let u = use_attained x needs bias held at d.before_low d.after_low in
          either (λ n. (o : ℕ) × Start x o × Uses x needs bias held o n) need (use_at x needs bias held at) m.attained (at, start_here is, u)

      pub step_refuses : {number at' need' count' : ℕ} {marks' : List ℕ} → DepthStep x needs bias held marks at need count number at' marks' need' count' →
          (number ≡ 0 → ⊥) → First x (depth_check x bias held) number at'
      step_refuses (skips none) some = absurd (some (omega arith))
      step_refuses (measures is p) some = absurd (some (omega arith))
      step_refuses (refuses is e more) some =
          record {
            start = start_here is;
            is = e;
            some = more;
            lower = λ o l s. (m.done o s.low l s.is).passed;
          }

      pub step_keeps : {number at' need' count' : ℕ} {marks' : List ℕ} → DepthStep x needs bias held marks at need count number at' marks' need' count' →
          number ≡ 0 → Measuring x needs bias held given counted at' marks' need' count'
      step_keeps (skips none) z =
          record {
            low = omega (arith, m.low);
            high = omega arith;
            size = m.size;
            number = m.number ∙ ap (λ n. counted + n) (sym (count_other x.starts x.graph.entry at m.low none));
            attained = m.attained;
            done = one_more x.graph.entry x.starts (Done x needs bias held marks need) at m.done (λ is. absurd (omega arith));
            others = m.others;
          }
      step_keeps (refuses is e more) z = absurd (omega arith)
      step_keeps (measures is p) z =
          record {
            low = omega (arith, m.low);
            high = omega arith;
            size = length-set marks at (held at - bias + 1) ∙ m.size;
            number = omega (arith, m.number, count_start x.starts x.graph.entry at m.low is);
            attained = measured_attained is p;
            done = one_more x.graph.entry x.starts _ at (λ o low l is'. still o l (m.done o low l is')) (λ is'. new p);
            others = λ o. by_cases (ℕ_discrete o at) (λ here. inl (rw here (start_here is)))
                (λ away. ⊎_elim inl (λ e. inr (get_or-set_other marks at o (held at - bias + 1) 0 away ∙ e)) (m.others o));
          }

      pub step_on : {number at' need' count' : ℕ} {marks' : List ℕ} → DepthStep x needs bias held marks at need count number at' marks' need' count' →
          number ≡ 0 → at' ≡ at + 1
      step_on (skips none) z = refl
      step_on (refuses is e more) z = absurd (omega arith)
      step_on (measures is p) z = refl

      pub step_inside : {number at' need' count' : ℕ} {marks' : List ℕ} → DepthStep x needs bias held marks at need count number at' marks' need' count' →
          (at' ≤ x.end) × (count' ≤ x.end)
      step_inside (skips none) = (omega arith, omega (arith, count_low))
      step_inside (refuses is e more) = (omega arith, omega (arith, count_low))
      step_inside (measures is p) = (omega arith, omega (arith, count_low))
