-- An edge of the offset that is visited is followed: the invariant is kept.
use Prim.Native.Nat.{ℕ, ◌+◌, ◌<◌}
use mathlib.Core.Path.{◌≡◌}
use mathlib.Core.Logic.{inl, inr, ⊎_elim}
use mathlib.Core.Bool.{Bool, false}
use mathlib.Core.List.{List}
use native.Mathlib.Omega.{arith}
use lib.ListN.{get_or}
use Rattle.control_flow.specs.Graph.{Graph, Edge, Reached, followed, Disagree}
use Rattle.control_flow.specs.Exploring.{Known, Followed, nowhere, fresh, same, other, DepthAfter}
use Rattle.control_flow.proofs.Following.{differ}
use Rattle.control_flow.proofs.Invariant.{Exploring}
use Rattle.control_flow.proofs.Growing.{further, grown}

module _ {bias most : ℕ} {g : Graph} {before : List ℕ} {Visiting : ℕ → Type 0} {depths stack : List ℕ} {height : ℕ} {agree : Bool}
    (s : Exploring bias most g before Visiting depths stack height agree) (inside : (x : ℕ) → Reached g x → x < 4096)
    (o depth : ℕ) (reached : Reached g o) (is : Known depths o) (after : DepthAfter most (get_or depths o 0) (g.pushes o) (g.pops o) depth) where
  -- the target has another depth: its path and this one disagree
  conflict : (t : ℕ) → Edge g o t → Known depths t → (get_or depths t 0 ≡ depth → ⊥) → Disagree g
  conflict t e some not =
      let here = s.deep t (followed reached e) some in
      let there = further s inside o depth reached is after e in
      record {
        offset = t;
        pushed = here.pushed;
        popped = here.popped;
        pushed' = there.0;
        popped' = there.1;
        path = here.path;
        path' = there.2;
        differ = λ z. not (omega (arith, here.depth, there.3));
      }

  apart : (t : ℕ) → Edge g o t → Known depths t → (get_or depths t 0 ≡ depth → ⊥) → Exploring bias most g before Visiting depths stack height false
  apart t e some not =
      record {
        some = s.some;
        cells = s.cells;
        slots = s.slots;
        room = s.room;
        entry = s.entry;
        others = s.others;
        deep = s.deep;
        near = s.near;
        waiting = s.waiting;
        done = λ x r k.
            ⊎_elim inl (λ w. inr (⊎_elim inl (λ d. inr (λ u f. ((d u f).0, λ z. differ z))) w)) (s.done x r k);
        disagree = λ z. conflict t e some not;
      }

  pub follow_keeps : {to : ℕ} {depths' stack' : List ℕ} {height' : ℕ} {agree' : Bool} → ((t : ℕ) → to ≡ t + 1 → Edge g o t) →
      Followed to depth depths stack height agree depths' stack' height' agree' → Exploring bias most g before Visiting depths' stack' height' agree'
  follow_keeps edge (nowhere e) = s
  follow_keeps edge (fresh t e none) = grown s inside o depth reached is after t (edge t e) none
  follow_keeps edge (same t e z some) = s
  follow_keeps edge (other t e some not) = apart t (edge t e) some not
