-- An exploration whose stack is empty has found what it is to find.
use Prim.Native.Nat.{ℕ, ◌+◌, ◌≤◌}
use mathlib.Core.Path.{◌≡◌, ◌∙◌}
use mathlib.Core.Logic.{inl, inr, ⊎_elim, by_cases}
use mathlib.Core.Bool.{Bool, true}
use mathlib.Core.List.{List}
use native.Mathlib.Decide.{ℕ_discrete}
use native.Mathlib.Omega.{arith}
use lib.ListN.{get_or, set}
use lib.Seq.{get_or-set_other}
use Rattle.control_flow.specs.Graph.{Graph, Reached, entered, followed, Path, start, onward}
use Rattle.control_flow.specs.Exploring.{Known, Explored}
use Rattle.control_flow.proofs.Invariant.{Done, Exploring, Nothing}
use Rattle.control_flow.proofs.Paths.{path_reached}

module _ {bias most : ℕ} {g : Graph} (before : List ℕ) {depths stack : List ℕ} {height : ℕ} {agree : Bool}
    (s : Exploring bias most g (set before g.entry bias) Nothing depths stack height agree) (none : height ≤ 0) where
  all_done : (o : ℕ) → Reached g o → Known depths o → Done g depths agree o
  all_done o r k = ⊎_elim (λ z. absurd z) (⊎_elim (λ h. absurd (omega (arith, h.low))) (λ d. d)) (s.done o r k)

  all_known : {o : ℕ} → Reached g o → Known depths o
  all_known entered = omega (arith, s.entry, s.some)
  all_known (followed {o} {to} r e) = (all_done o r (all_known r) to e).0

  all_deep : agree ≡ true → {o pushed popped : ℕ} → Path g o pushed popped → get_or depths o 0 + popped ≡ bias + pushed
  all_deep a start = omega (arith, s.entry)
  all_deep a (onward {o} {to} p e) =
      let r = path_reached p in
      omega (arith, all_deep a p, (all_done o r (all_known r) to e).1 a)

  pub ends : Explored bias g before depths agree
  ends =
      record {
        cells = s.cells;
        known = λ o r. all_known r;
        others = λ o.
            by_cases (ℕ_discrete o g.entry) (λ here. inl (rw here entered))
            (λ away. ⊎_elim inl (λ z. inr (z ∙ get_or-set_other before g.entry o bias 0 away)) (s.others o));
        disagree = s.disagree;
        depth = λ a o pushed popped p. all_deep a p;
      }
