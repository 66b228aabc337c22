-- The target of an edge gets its depth and goes on the stack: the invariant is kept.
use Prim.Native.Nat.{ℕ, ◌+◌, ◌*◌, ◌<◌}
use mathlib.Core.Path.{◌≡◌, sym, ◌∙◌}
use mathlib.Core.Logic.{◌⊎◌, inl, inr, ⊎_elim, by_cases}
use mathlib.Core.Bool.{Bool}
use mathlib.Core.List.{List}
use native.Mathlib.Decide.{ℕ_discrete}
use native.Mathlib.Nat.{mul-add, mul-one}
use native.Mathlib.Omega.{arith}
use lib.ListN.{length, get_or, set, length-set}
use lib.Seq.{get_or-set_same, get_or-set_other}
use Rattle.control_flow.specs.Graph.{Graph, Edge, Reached, followed, Path, onward}
use Rattle.control_flow.specs.Exploring.{Known, known, DepthAfter}
use Rattle.control_flow.proofs.Knowing.{known_most, known_set, depth_kept}
use Rattle.control_flow.proofs.Invariant.{Waiting, Deep, Near, Done, Exploring}

module _ {bias most : ℕ} {g : Graph} {before : List ℕ} {Visiting : ℕ → Type 0} {depths stack : List ℕ} {height : ℕ} {agree : Bool}
    (s : Exploring bias most g before Visiting depths stack height agree) (inside : (x : ℕ) → Reached g x → x < 4096)
    (o depth : ℕ) (reached : Reached g o) (is : Known depths o) (after : DepthAfter most (get_or depths o 0) (g.pushes o) (g.pops o) depth) where
  -- the path to o, and on to t
  pub further : {t : ℕ} → Edge g o t → (pushed : ℕ) × (popped : ℕ) × Path g t pushed popped × (depth + popped ≡ bias + pushed)
  further e =
      let d = s.deep o reached is in
      (d.pushed + g.pushes o, d.popped + g.pops o, onward d.path e, omega (arith, d.depth, after.moved))

  -- the target gets its depth and goes on the stack
  module _ (t : ℕ) (e : Edge g o t) (none : get_or depths t 0 ≡ 0) where
    grown_reached : Reached g t
    grown_reached = followed reached e

    new : get_or (set depths t depth) t 0 ≡ depth
    new = get_or-set_same depths t depth 0 (omega (arith, inside t grown_reached, s.cells))

    count : known (set depths t depth) ≡ known depths + 1
    count = known_set depths t depth (omega (arith, inside t grown_reached, s.cells)) none after.some

    more : most * known (set depths t depth) ≡ most * known depths + most
    more = rw (count, mul-add, mul-one)

    full : height < length stack
    full = omega (arith, count, known_most (set depths t depth), length-set depths t depth, s.cells, s.slots, s.room)

    pushed_top : get_or (set stack height t) height 0 ≡ t
    pushed_top = get_or-set_same stack height t 0 full

    kept : (x : ℕ) → Known depths x → get_or (set depths t depth) x 0 ≡ get_or depths x 0
    kept x k = depth_kept depths t depth x none k

    still : (x : ℕ) → (x ≡ t → ⊥) → get_or (set depths t depth) x 0 ≡ get_or depths x 0
    still x away = get_or-set_other depths t x depth 0 away

    under : (i : ℕ) → i < height → get_or (set stack height t) i 0 ≡ get_or stack i 0
    under i low = get_or-set_other stack height i t 0 (λ z. omega arith)

    done_still : (x : ℕ) → Known depths x → Done g depths agree x → Done g (set depths t depth) agree x
    done_still x k d u f =
        let here = d u f in
        (omega (arith, kept u here.0, here.0), λ a. omega (arith, kept u here.0, kept x k, here.1 a))

    waits : (x : ℕ) → Waiting stack height x → Waiting (set stack height t) (height + 1) x
    waits x w = record { index = w.index; low = omega (arith, w.low); is = under w.index w.low ∙ w.is }

    grown_deep : (x : ℕ) → Reached g x → Known (set depths t depth) x → Deep bias g (set depths t depth) x
    grown_deep x r k =
        by_cases (ℕ_discrete x t)
        (λ here. let p = further e in
        rw here (record { pushed = p.0; popped = p.1; path = p.2; depth = omega (arith, new, p.3) }))
        (λ away.
        let d = s.deep x r (omega (arith, still x away, k)) in
        record { pushed = d.pushed; popped = d.popped; path = d.path; depth = omega (arith, still x away, d.depth) })

    grown_near : (x : ℕ) → Reached g x → Known (set depths t depth) x → Near bias most (set depths t depth) x
    grown_near x r k =
        by_cases (ℕ_discrete x t)
        (λ here.
        let n = s.near o reached is in
        rw here
        (record {
          low = omega (arith, n.low, after.moved, after.popped_most, more, new);
          high = omega (arith, n.high, after.moved, after.pushed_most, more, new);
        }))
        (λ away.
        let n = s.near x r (omega (arith, still x away, k)) in
        record { low = omega (arith, n.low, still x away, more); high = omega (arith, n.high, still x away, more) })

    grown_waiting : (i : ℕ) → i < height + 1 → Reached g (get_or (set stack height t) i 0) × Known (set depths t depth) (get_or (set stack height t) i 0)
    grown_waiting i low =
        by_cases (ℕ_discrete i height)
        (λ here. rw (here, pushed_top) (grown_reached, omega (arith, new, after.some)))
        (λ away.
        let below : i < height = omega arith in
        let w = s.waiting i below in
        rw (under i below) (w.0, omega (arith, kept _ w.1, w.1)))

    grown_done : (x : ℕ) → Reached g x → Known (set depths t depth) x →
        Visiting x ⊎ (Waiting (set stack height t) (height + 1) x ⊎ Done g (set depths t depth) agree x)
    grown_done x r k =
        by_cases (ℕ_discrete x t)
        (λ here. inr (inl (record { index = height; low = omega arith; is = pushed_top ∙ sym here })))
        (λ away.
        let old : Known depths x = omega (arith, still x away, k) in
        ⊎_elim inl (λ w. inr (⊎_elim (λ h. inl (waits x h)) (λ d. inr (done_still x old d)) w)) (s.done x r old))

    pub grown : Exploring bias most g before Visiting (set depths t depth) (set stack height t) (height + 1) agree
    grown =
        record {
          some = s.some;
          cells = length-set depths t depth ∙ s.cells;
          slots = length-set stack height t ∙ s.slots;
          room = omega (arith, count, s.room);
          entry = kept g.entry (omega (arith, s.entry, s.some)) ∙ s.entry;
          others = λ x. by_cases (ℕ_discrete x t) (λ here. inl (rw here grown_reached))
              (λ away. ⊎_elim inl (λ z. inr (still x away ∙ z)) (s.others x));
          deep = grown_deep;
          near = grown_near;
          waiting = grown_waiting;
          done = grown_done;
          disagree = s.disagree;
        }
