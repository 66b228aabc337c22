-- What it means that 13 and 10 pass: control stays on the starts.
use Prim.Native.Nat.{ℕ, ◌-◌, ◌≤◌}
use mathlib.Core.Path.{◌≡◌}
use mathlib.Core.Logic.{by_cases}
use native.Mathlib.Decide.{ℕ_discrete}
use native.Mathlib.Omega.{arith}
use lib.Dec.{eqb, ltb}
use borrow.Author.Tests.{eqb-true, eqb-false, ltb-false}
use Rattle.numbers.proofs.Checking.{by_cond}
use Rattle.control_flow.specs.Graph.{Edge, falling, jumping}
use Rattle.control_flow.specs.Routine.{Routine, Start, Decoded, WellFormed, jump_number, jump_check}
use Rattle.control_flow.specs.Outcome.{Passes}

-- a jump's cell that names an offset, where 13 and 10 pass: a start's
pub jump_lands : (starts : ℕ → ℕ) (cell : ℕ) → jump_number starts cell ≡ 0 → 1 ≤ cell → (cell ≤ 4096) × (1 ≤ starts (cell - 1))
unfolding jump_number
jump_lands starts cell e some =
    by_cond (eqb cell 0) (λ t z. absurd (omega (arith, eqb-true cell 0 t)))
    (λ t. by_cond (ltb 4096 cell) (λ u z. absurd (omega (arith, z)))
    (λ u. by_cond (eqb (starts (cell - 1)) 0) (λ w z. absurd (omega (arith, z)))
    (λ w z.
    let some_start : starts (cell - 1) ≡ 0 → ⊥ = eqb-false (starts (cell - 1)) 0 w in
    (ltb-false 4096 cell u, by_cases (ℕ_discrete (starts (cell - 1)) 0) (λ y. absurd (some_start y)) (λ y. omega arith)))))
    e

pub well_formed_lem : {x : Routine} → Decoded x → Passes x (jump_check x) → WellFormed x
well_formed_lem {x} d landed = record { size = d.size; entry = d.entry; edges = edge }
  where
    edge : (o to : ℕ) → Start x o → Edge x.graph o to → Start x to
    edge o to s (falling e) = d.falls o to s e
    edge o to s (jumping e) =
        let l = jump_lands x.starts (x.graph.jumps o) (landed o s) (omega arith) in
        let cell : x.graph.jumps o - 1 ≡ to = omega arith in
        let i = d.jumps o to s e (omega (arith, l.0)) in
        record { low = i.0; high = i.1; is = rw cell at l.1 }
