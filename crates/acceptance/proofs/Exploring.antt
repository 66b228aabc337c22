-- The exploration of a graph, as a function, finds what an exploration is to find.
use Prim.Native.Nat.{ℕ, zero, suc, ◌+◌, ◌-◌, ◌*◌, ◌<◌, ◌≤◌}
use mathlib.Core.Path.{◌≡◌, refl}
use mathlib.Core.Logic.{by_cases}
use mathlib.Core.List.{List}
use native.Mathlib.Decide.{ℕ_discrete}
use native.Mathlib.Omega.{arith}
use lib.ListN.{get_or, replicate}
use borrow.Author.Tests.{eq-eqb, ne_eqb}
use Rattle.control_flow.specs.Graph.{Graph, Reached}
use Rattle.control_flow.specs.Exploring.{known, Followed, nowhere, fresh, same, other, Visited, Explorable, Explored}
use Rattle.control_flow.proofs.Invariant.{Exploring, Nothing, begins}
use Rattle.control_flow.proofs.Visits.{waited, depth_after, visit_keeps, visit_less}
use Rattle.control_flow.proofs.Ends.{ends}
use Rattle.acceptance.specs.Exploration.{Exploration, follow, visit, top, pop_top, explore_from, explored}

-- an edge is followed as the laws of an exploration have it
abbrev FollowedBy : ℕ → ℕ → Exploration → Exploration → Type 0
FollowedBy to depth s s' =
    Followed to depth s.depths s.stack s.height s.agree s'.depths s'.stack s'.height s'.agree

follow_followed : (to depth : ℕ) (s : Exploration) → 1 ≤ depth → FollowedBy to depth s (follow to depth s)
follow_followed zero depth s some = nowhere refl
follow_followed (suc t) depth s some =
    let to : suc t ≡ t + 1 = omega arith in
    by_cases (ℕ_discrete (get_or s.depths t 0) 0)
    (λ z. rw (eq-eqb _ _ z) (fresh t to z))
    (λ z.
    by_cases (ℕ_discrete (get_or s.depths t 0) depth)
    (λ e. rw (ne_eqb _ _ z, eq-eqb _ _ e) (same t to e some))
    (λ e. rw (ne_eqb _ _ z, ne_eqb _ _ e) (other t to (omega arith) e)))

-- the state between two visits
abbrev State : ℕ → ℕ → Graph → List ℕ → Exploration → Type 0
State bias most g before s = Exploring bias most g before Nothing s.depths s.stack s.height s.agree

module _ {bias most : ℕ} {g : Graph} (small : most * 4097 < bias) (moves : (o : ℕ) → Reached g o → (g.pops o ≤ most) × (g.pushes o ≤ most))
    (inside : (o : ℕ) → Reached g o → o < 4096) (before : List ℕ) where
  module _ (s : Exploration) (state : State bias most g before s) (some : 1 ≤ s.height) where
    visited : let s' = visit g (top s) (pop_top s) in
        Visited most g (top s) s.depths s.stack (s.height - 1) s.agree s'.depths s'.stack s'.height s'.agree
    visited =
        let o = top s in
        let w = waited state inside some o refl in
        let m = moves o w.0 in
        let depth = get_or s.depths o 0 + g.pushes o - g.pops o in
        let after = depth_after state inside some o refl small m.1 m.0 in
        let fallen = follow (g.falls o) depth (pop_top s) in
        record {
          depth = depth;
          after = after;
          depths' = fallen.depths;
          stack' = fallen.stack;
          height' = fallen.height;
          agree' = fallen.agree;
          fall = follow_followed (g.falls o) depth (pop_top s) after.some;
          jump = follow_followed (g.jumps o) depth fallen after.some;
        }

    next_state : State bias most g before (visit g (top s) (pop_top s))
    next_state = visit_keeps state inside some (top s) refl visited

    less : let s' = visit g (top s) (pop_top s) in (4096 - known s'.depths) + s'.height < (4096 - known s.depths) + s.height
    less = visit_less state inside some (top s) refl visited

  explores : (fuel : ℕ) (s : Exploration) → State bias most g before s → (4096 - known s.depths) + s.height ≤ fuel →
      State bias most g before (explore_from fuel g s) × ((explore_from fuel g s).height ≤ 0)
  unfolding explore_from
  explores zero s state enough = (state, omega arith)
  explores (suc fuel) s state enough =
      by_cases (ℕ_discrete s.height 0)
      (λ z. rw (eq-eqb _ _ z) (state, omega arith))
      (λ z.
      let some : 1 ≤ s.height = omega arith in
      rw (ne_eqb _ _ z) (explores fuel _ (next_state s state some) (omega (arith, less s state some))))

-- from the entry, over depths and a stack that are all 0
module _ {bias most : ℕ} {g : Graph} (small : most * 4097 < bias) (moves : (o : ℕ) → Reached g o → (g.pops o ≤ most) × (g.pushes o ≤ most))
    (asks : Explorable g (replicate 4096 0) (replicate 4096 0)) where
  pub explored_all : Explored bias g (replicate 4096 0) (explored g bias).depths (explored g bias).agree
  unfolding explored
  explored_all =
      let some : 1 ≤ bias = omega arith in
      let first = begins bias most some g (replicate 4096 0) (replicate 4096 0) asks in
      let all = explores small moves asks.inside _ 4096 _ first (omega (arith, first.room)) in
      ends (replicate 4096 0) all.0 all.1
