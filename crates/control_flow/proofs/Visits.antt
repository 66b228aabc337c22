-- A visit keeps the invariant of an exploration, and leaves less to do.
use Prim.Native.Nat.{ℕ, ◌+◌, ◌-◌, ◌*◌, ◌<◌, ◌≤◌}
use mathlib.Core.Path.{◌≡◌, sym, ap, ◌∙◌}
use mathlib.Core.Logic.{inl, inr, ⊎_elim, by_cases}
use mathlib.Core.Bool.{Bool}
use mathlib.Core.List.{List}
use native.Mathlib.Decide.{ℕ_discrete}
use native.Mathlib.Nat.{mul-le-mul_left}
use native.Mathlib.Omega.{arith}
use lib.ListN.{get_or}
use Rattle.control_flow.specs.Graph.{Graph, Edge, falling, jumping, Reached, followed}
use Rattle.control_flow.specs.Exploring.{middle, Known, known, DepthAfter, Ready, Visited}
use Rattle.control_flow.proofs.Knowing.{known_most}
use Rattle.control_flow.proofs.Following.{Effect, effect}
use Rattle.control_flow.proofs.Invariant.{Done, Exploring, Nothing}
use Rattle.control_flow.proofs.Edges.{follow_keeps}

-- the top of the stack is taken, and its edges are followed
module _ {bias most : ℕ} {g : Graph} {before depths stack : List ℕ} {height : ℕ} {agree : Bool}
    (s : Exploring bias most g before Nothing depths stack height agree) (inside : (x : ℕ) → Reached g x → x < 4096) (some : 1 ≤ height)
    (o : ℕ) (top : get_or stack (height - 1) 0 ≡ o) where
  pub waited : Reached g o × Known depths o
  waited = rw top at (s.waiting (height - 1) (omega arith))

  pub in_range : (bias ≤ get_or depths o 0 + most * 4096) × (get_or depths o 0 ≤ bias + most * 4096)
  in_range =
      let n = s.near o waited.0 waited.1 in
      let all : known depths ≤ 4096 = omega (arith, known_most depths, s.cells) in
      let least = mul-le-mul_left most all in
      (omega (arith, n.low, least), omega (arith, n.high, least))

  -- the depth after the visited instruction, where the bias is large enough
  pub depth_after : most * 4097 < bias → g.pushes o ≤ most → g.pops o ≤ most →
      DepthAfter most (get_or depths o 0) (g.pushes o) (g.pops o) (get_or depths o 0 + g.pushes o - g.pops o)
  depth_after small pushed popped =
      record { moved = omega (arith, in_range.0); some = omega (arith, in_range.0); pushed_most = pushed; popped_most = popped }

  taken : Exploring bias most g before (λ x. x ≡ o) depths stack (height - 1) agree
  taken =
      record {
        some = s.some;
        cells = s.cells;
        slots = s.slots;
        room = omega (arith, s.room);
        entry = s.entry;
        others = s.others;
        deep = s.deep;
        near = s.near;
        waiting = λ i low. s.waiting i (omega arith);
        done = λ x r k.
            ⊎_elim (λ z. absurd z)
            (λ w. ⊎_elim
            (λ h. by_cases (ℕ_discrete h.index (height - 1))
            (λ here. inl (sym h.is ∙ ap (λ i. get_or stack i 0) here ∙ top))
            (λ away. inr (inl (record { index = h.index; low = omega (arith, h.low); is = h.is }))))
            (λ d. inr (inr d)) w)
            (s.done x r k);
        disagree = s.disagree;
      }

  -- an edge that goes somewhere goes to a reached offset
  edge_in_range : (to : ℕ) → ((t : ℕ) → to ≡ t + 1 → Edge g o t) → to ≤ 4096
  edge_in_range to edge =
      by_cases (ℕ_discrete to 0) (λ z. omega arith)
      (λ z. let e : to ≡ (to - 1) + 1 = omega arith in omega (arith, inside (to - 1) (followed waited.0 (edge (to - 1) e))))

  pub falls_high : g.falls o ≤ 4096
  falls_high = edge_in_range (g.falls o) (λ t e. falling e)

  pub jumps_high : g.jumps o ≤ 4096
  jumps_high = edge_in_range (g.jumps o) (λ t e. jumping e)

  module _ {depths'' stack'' : List ℕ} {height'' : ℕ} {agree'' : Bool}
      (v : Visited most g o depths stack (height - 1) agree depths'' stack'' height'' agree'') where
    fall_effect : Effect (g.falls o) v.depth depths stack (height - 1) agree v.depths' v.stack' v.height' v.agree'
    fall_effect = effect falls_high v.after.some s.cells v.fall

    jump_effect : Effect (g.jumps o) v.depth v.depths' v.stack' v.height' v.agree' depths'' stack'' height'' agree''
    jump_effect = effect jumps_high v.after.some fall_effect.cells v.jump

    fallen : Exploring bias most g before (λ x. x ≡ o) v.depths' v.stack' v.height' v.agree'
    fallen = follow_keeps taken inside o v.depth waited.0 waited.1 v.after (λ t e. falling e) v.fall

    here : get_or v.depths' o 0 ≡ get_or depths o 0
    here = fall_effect.stays o waited.1

    here_known : Known v.depths' o
    here_known = omega (arith, here, waited.1)

    still_after : DepthAfter most (get_or v.depths' o 0) (g.pushes o) (g.pops o) v.depth
    still_after = rw here v.after

    jumped : Exploring bias most g before (λ x. x ≡ o) depths'' stack'' height'' agree''
    jumped = follow_keeps fallen inside o v.depth waited.0 here_known still_after (λ t e. jumping e) v.jump

    end_here : get_or depths'' o 0 ≡ get_or depths o 0
    end_here = jump_effect.stays o here_known ∙ here

    visited : Done g depths'' agree'' o
    visited t (falling e) =
        let f = fall_effect.target t e in
        let k = jump_effect.stays t f.0 in
        (omega (arith, k, f.0), λ a. omega (arith, k, f.1 (jump_effect.agreed a), end_here, v.after.moved))
    visited t (jumping e) =
        let f = jump_effect.target t e in
        (f.0, λ a. omega (arith, f.1 a, end_here, v.after.moved))

    pub visit_keeps : Exploring bias most g before Nothing depths'' stack'' height'' agree''
    visit_keeps =
        record {
          some = jumped.some;
          cells = jumped.cells;
          slots = jumped.slots;
          room = jumped.room;
          entry = jumped.entry;
          others = jumped.others;
          deep = jumped.deep;
          near = jumped.near;
          waiting = jumped.waiting;
          done = λ x r k. inr (⊎_elim (λ z. inr (rw z visited)) (λ w. w) (jumped.done x r k));
          disagree = jumped.disagree;
        }

    -- offsets whose depth is not known and those on the stack get fewer
    pub visit_less : (4096 - known depths'') + height'' < (4096 - known depths) + height
    visit_less =
        let n : known depths'' ≤ 4096 = omega (arith, known_most depths'', jump_effect.cells) in
        omega (arith, fall_effect.count, jump_effect.count)

-- the same graph, entered at another offset: a visit does not look at the entry
abbrev pub from : ℕ → Graph → Graph
from o g = record { entry = o; falls = g.falls; jumps = g.jumps; pops = g.pops; pushes = g.pushes }

-- what a visit by the code asks
pub ready : {g : Graph} {before depths stack : List ℕ} {height : ℕ} {agree : Bool} → Exploring middle 65535 g before Nothing depths stack height agree →
    ((x : ℕ) → Reached g x → x < 4096) → 1 ≤ height → (o : ℕ) → get_or stack (height - 1) 0 ≡ o → Ready (from o g) depths (height - 1) o
ready s inside some o top =
    let range = in_range s inside some o top in
    record {
      room = omega (arith, s.room);
      cells = s.cells;
      inside = inside o (waited s inside some o top).0;
      fall = falls_high s inside some o top;
      jump = jumps_high s inside some o top;
      low = omega (arith, range.0);
      high = omega (arith, range.1);
    }
