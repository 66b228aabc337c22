-- Paths and what they reach; and that a disagreement is found exactly where there is one.
use Prim.Native.Nat.{ℕ, ◌+◌}
use mathlib.Core.Path.{◌≡◌, refl}
use mathlib.Core.Bool.{Bool, true, false}
use mathlib.Core.List.{List}
use native.Mathlib.Omega.{arith}
use Rattle.control_flow.specs.Graph.{Graph, Reached, entered, followed, Path, start, onward, Disagree, cells}
use Rattle.control_flow.specs.Routine.{Routine, Start, WellFormed}
use Rattle.control_flow.specs.Exploring.{Explored}

pub path_reached : {g : Graph} {o pushed popped : ℕ} → Path g o pushed popped → Reached g o
path_reached start = entered
path_reached (onward p e) = followed (path_reached p) e

pub reached_path : {g : Graph} {o : ℕ} → Reached g o → (pushed : ℕ) × (popped : ℕ) × Path g o pushed popped
reached_path entered = (0, 0, start)
reached_path (followed r e) = let p = reached_path r in (_, _, onward p.2 e)

-- what is reached is a start
pub reached_start : {x : Routine} → WellFormed x → {o : ℕ} → Reached x.graph o → Start x o
reached_start w entered = w.entry
reached_start w (followed {o} {to} r e) = w.edges o to (reached_start w r) e

-- paths that agree with what is held agree with each other
pub held_none : {g : Graph} (bias : ℕ) (held : ℕ → ℕ) →
    ((o pushed popped : ℕ) → Path g o pushed popped → held o + popped ≡ bias + pushed) → Disagree g → ⊥
held_none bias held agreed z = z.differ (omega (arith, agreed _ _ _ z.path, agreed _ _ _ z.path'))

agreeing : (b : Bool) → (b ≡ false → ⊥) → b ≡ true
agreeing true h = refl
agreeing false h = absurd (h refl)

module _ {bias : ℕ} {g : Graph} {before depths : List ℕ} {agree : Bool} (found : Explored bias g before depths agree) where
  pub agree_none : agree ≡ true → Disagree g → ⊥
  agree_none a = held_none bias (cells depths) (found.depth a)

  pub none_agree : (Disagree g → ⊥) → agree ≡ true
  none_agree h = agreeing agree (λ z. h (found.disagree z))
