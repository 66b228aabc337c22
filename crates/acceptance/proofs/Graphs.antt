-- The graph of a routine's cells is the control flow of its code: edges, reach, paths and their depths.
use Prim.Native.Nat.{ℕ, ◌+◌, ◌-◌, ◌<◌, ◌≤◌}
use mathlib.Core.Path.{◌≡◌, sym, ◌∙◌, subst}
use mathlib.Core.Logic.{by_cases}
use mathlib.Core.Bool.{true}
use mathlib.Core.List.{List}
use native.Mathlib.Decide.{dec_lt}
use native.Mathlib.Omega.{arith}
use Rattle.stm8.specs.Effects.{effect}
use Rattle.image.specs.declared.Limits.{Limits}
use Rattle.image.specs.Image.{count_of}
use Rattle.image.specs.Rules.{ImageRules}
use Rattle.image.proofs.Measuring.{end_inside}
use Rattle.code.specs.Depth.{falls}
use Rattle.code.specs.Code.{Start, begins, follows}
use Rattle.rules.specs.Paths.{Goes, falling, jumping, Reached, entered, followed, Path, entry, onward, Disagree}
use Rattle.code.proofs.Starts.{same_found}
use Rattle.control_flow.specs.Graph as graph
use Rattle.control_flow.specs.Routine as cells
use Rattle.acceptance.specs.Cells.{Filled}
use Rattle.acceptance.proofs.JumpCells.{fall_cell_lem, cell_target, jump_target_lem, jump_stored}

module _ {image : List ℕ} {limits : Limits} {r : ℕ} {x : cells.Routine} (filled : Filled image limits r x) where
  fall_to : {o to : ℕ} (s : Start image r o) → x.graph.falls o ≡ to + 1 →
      (falls (effect (filled.cells o s).instruction).flow ≡ true) × (to ≡ o + (filled.cells o s).size)
  fall_to {o} {to} s e =
      let c = filled.cells o s in
      fall_cell_lem (falls (effect c.instruction).flow) (o + c.size) to (sym c.fall ∙ e)

  pub decoded : ImageRules image → r < count_of image → cells.Decoded x
  decoded layout inside =
      record {
        size = omega (arith, filled.end, end_inside image r inside, layout.code);
        entry = subst (λ (o : ℕ). cells.Start x o) (sym filled.entry) (filled.starts _ begins);
        falls = λ o to s e.
            let t = filled.start o s in
            let f = fall_to t e in
            rw f.1 (filled.starts _ (follows t (filled.cells o t).found ((filled.cells o t).inside f.0)));
        jumps = λ o to s e small.
            let t = cell_target _ _ _ _ (jump_stored (filled.cells o (filled.start o s))) e small in
            rw (filled.entry, filled.end) (t.1, t.2);
      }

  module _ (well_formed : cells.WellFormed x) where
    onto : {o to : ℕ} → Start image r o → graph.Edge x.graph o to → Start image r to
    onto {o} {to} s e = filled.start to (well_formed.edges o to (filled.starts o s) e)

    jump_small : {o : ℕ} → Start image r o → x.graph.jumps o ≤ 4096
    jump_small {o} s =
        by_cases (dec_lt 0 (x.graph.jumps o))
        (λ l.
        let t = well_formed.edges o (x.graph.jumps o - 1) (filled.starts o s) (graph.jumping (omega arith)) in
        omega (arith, t.high, well_formed.size))
        (λ l. omega arith)

    -- control goes where the edges go
    pub edge_goes : {o to : ℕ} → Start image r o → graph.Edge x.graph o to → Goes image r o to
    edge_goes {o} s (graph.falling e) = let f = fall_to s e in falling (filled.cells o s).found f.0 f.1
    edge_goes {o} s (graph.jumping e) =
        jumping (filled.cells o s).found (cell_target _ _ _ _ (jump_stored (filled.cells o s)) e (omega (arith, jump_small s))).0

    pub goes_edge : {o to : ℕ} → Start image r o → Goes image r o to → graph.Edge x.graph o to
    goes_edge {o} s (falling f t e) =
        let c = filled.cells o s in
        let same = same_found f c.found in
        let cell : x.graph.falls o ≡ o + c.size + 1 = c.fall ∙ rw (rw same.0 at t) in
        graph.falling (omega (arith, cell, same.1))
    goes_edge {o} s (jumping f j) =
        let same = same_found f (filled.cells o s).found in
        graph.jumping (jump_target_lem _ _ _ _ (jump_stored (filled.cells o s)) (rw (same.0, same.1) at j) (jump_small s))

    -- reach is reach, and of starts alone
    reached_both : {o : ℕ} → graph.Reached x.graph o → Start image r o × Reached image r o
    reached_both graph.entered = rw filled.entry (begins, entered)
    reached_both (graph.followed p e) = let q = reached_both p in (onto q.0 e, followed q.1 (edge_goes q.0 e))

    pub reached_code : {o : ℕ} → graph.Reached x.graph o → Reached image r o
    reached_code p = (reached_both p).1

    graph_both : {o : ℕ} → Reached image r o → Start image r o × graph.Reached x.graph o
    graph_both entered = (begins, rw (← filled.entry) graph.entered)
    graph_both (followed p g) = let q = graph_both p in let e = goes_edge q.0 g in (onto q.0 e, graph.followed q.1 e)

    pub reached_graph : {o : ℕ} → Reached image r o → graph.Reached x.graph o
    reached_graph p = (graph_both p).1

    -- a path in the graph is one in the code, with the same bytes pushed and popped
    pub path_code : {o pushed popped : ℕ} → graph.Path x.graph o pushed popped → Start image r o × Path image r o pushed popped
    path_code graph.start = rw filled.entry (begins, entry)
    path_code (graph.onward {o} p e) =
        let q = path_code p in
        let c = filled.cells o q.0 in
        (onto q.0 e, rw (c.push, c.pop) (onward q.1 c.found (edge_goes q.0 e)))

    pub path_graph : {o pushed popped : ℕ} → Path image r o pushed popped → Start image r o × graph.Path x.graph o pushed popped
    path_graph entry = (begins, rw (← filled.entry) graph.start)
    path_graph (onward {o} p f g) =
        let q = path_graph p in
        let c = filled.cells o q.0 in
        let e = goes_edge q.0 g in
        (onto q.0 e, rw ((same_found f c.found).0, ← c.push, ← c.pop) (graph.onward q.1 e))

    pub disagree_code : graph.Disagree x.graph → Disagree image r
    disagree_code d =
        record {
          offset = d.offset;
          pushes = d.pushed;
          pops = d.popped;
          pushes' = d.pushed';
          pops' = d.popped';
          path = (path_code d.path).1;
          path' = (path_code d.path').1;
          differ = d.differ;
        }

    pub disagree_graph : Disagree image r → graph.Disagree x.graph
    disagree_graph d =
        record {
          offset = d.offset;
          pushed = d.pushes;
          popped = d.pops;
          pushed' = d.pushes';
          popped' = d.pops';
          path = (path_graph d.path).1;
          path' = (path_graph d.path').1;
          differ = d.differ;
        }
