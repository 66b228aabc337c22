-- At how many offsets the depth is known, and what a new depth changes.
use Prim.Native.Nat.{ℕ, zero, suc, ◌+◌, ◌<◌, ◌≤◌}
use mathlib.Core.Path.{◌≡◌, ap}
use mathlib.Core.List.{List, [], ◌∷◌}
use native.Mathlib.Omega.{arith}
use lib.ListN.{length, get_or, set, length-set}
use lib.Seq.{get_or-set_other}
use Rattle.control_flow.specs.Exploring.{Known, known}

pub known_most : (depths : List ℕ) → known depths ≤ length depths
unfolding known
known_most [] = omega arith
known_most (zero ∷ depths) = omega (arith, known_most depths)
known_most (suc d ∷ depths) = omega (arith, known_most depths)

pub known_set : (depths : List ℕ) (t d : ℕ) → t < length depths → get_or depths t 0 ≡ 0 → 1 ≤ d → known (set depths t d) ≡ known depths + 1
unfolding known
known_set [] t d inside none some = absurd (omega arith)
known_set (zero ∷ depths) zero zero inside none some = absurd (omega arith)
known_set (zero ∷ depths) zero (suc d) inside none some = omega arith
known_set (suc x ∷ depths) zero d inside none some = absurd (omega arith)
known_set (zero ∷ depths) (suc t) d inside none some = known_set depths t d (omega arith) none some
known_set (suc x ∷ depths) (suc t) d inside none some = omega (arith, known_set depths t d (omega arith) none some)

-- where one is not known, fewer are than there are cells
pub room : (depths : List ℕ) (t : ℕ) → t < length depths → get_or depths t 0 ≡ 0 → known depths < length depths
room depths t inside none = omega (arith, known_set depths t 1 inside none (omega arith), known_most (set depths t 1), length-set depths t 1)

-- a new depth changes none that is known
pub depth_kept : (depths : List ℕ) (t d o : ℕ) → get_or depths t 0 ≡ 0 → Known depths o → get_or (set depths t d) o 0 ≡ get_or depths o 0
depth_kept depths t d o none some = get_or-set_other depths t o d 0 (λ e. omega (arith, ap (λ x. get_or depths x 0) e))
