-- What following one edge keeps, and what it makes sure of.
use Prim.Native.Nat.{ℕ, ◌+◌, ◌≤◌}
use mathlib.Core.Path.{◌≡◌, refl, ◌∙◌}
use mathlib.Core.Bool.{Bool, true, false}
use mathlib.Core.List.{List}
use native.Mathlib.Omega.{arith}
use lib.ListN.{length, get_or, set, length-set}
use lib.Seq.{get_or-set_same}
use Rattle.control_flow.specs.Exploring.{Known, known, Followed, nowhere, fresh, same, other}
use Rattle.control_flow.proofs.Knowing.{known_set, depth_kept}

-- No depth that is known changes, each new one's offset is on the stack, and the target's is known, and that of the edge where all agrees.
pub record Effect (to depth : ℕ) (depths stack : List ℕ) (height : ℕ) (agree : Bool) (depths' stack' : List ℕ) (height' : ℕ) (agree' : Bool) : Type 0 where
  pub cells : length depths' ≡ 4096
  pub slots : length stack' ≡ length stack
  pub count : known depths' + height ≡ known depths + height'
  pub stays : (o : ℕ) → Known depths o → get_or depths' o 0 ≡ get_or depths o 0
  pub agreed : agree' ≡ true → agree ≡ true
  pub target : (t : ℕ) → to ≡ t + 1 → Known depths' t × (agree' ≡ true → get_or depths' t 0 ≡ depth)

pub differ : {A : Type 0} → false ≡ true → A
differ e = let z : ◌≡◌ {A = ℕ} 0 1 = cc in absurd (omega arith)

newly : (depths : List ℕ) (to depth t u : ℕ) → to ≤ 4096 → length depths ≡ 4096 → to ≡ t + 1 → to ≡ u + 1 → get_or (set depths t depth) u 0 ≡ depth
newly depths to depth t u high l e h = let here : u ≡ t = omega arith in rw here (get_or-set_same depths t depth 0 (omega arith))

module _ {to depth : ℕ} {depths stack : List ℕ} {height : ℕ} {agree : Bool} (high : to ≤ 4096) (some : 1 ≤ depth) (l : length depths ≡ 4096) where
  -- no depth is new
  still : (agree' : Bool) → (agree' ≡ true → agree ≡ true) → ((t : ℕ) → to ≡ t + 1 → Known depths t × (agree' ≡ true → get_or depths t 0 ≡ depth)) →
      Effect to depth depths stack height agree depths stack height agree'
  still agree' a there = record { cells = l; slots = refl; count = refl; stays = λ o k. refl; agreed = a; target = there }

  pub effect : {depths' stack' : List ℕ} {height' : ℕ} {agree' : Bool} →
      Followed to depth depths stack height agree depths' stack' height' agree' → Effect to depth depths stack height agree depths' stack' height' agree'
  effect (nowhere e) = still agree (λ a. a) (λ t h. absurd (omega arith))
  effect (fresh t e none) =
      record {
        cells = length-set depths t depth ∙ l;
        slots = length-set stack height t;
        count = omega (arith, known_set depths t depth (omega arith) none some);
        stays = λ o k. depth_kept depths t depth o none k;
        agreed = λ a. a;
        target = λ u h. let is = newly depths to depth t u high l e h in (omega (arith, is), λ a. is);
      }
  effect (same t e is more) = still agree (λ a. a) (λ u h. let here : u ≡ t = omega arith in rw here (omega arith, λ a. is))
  effect (other t e more not) = still false differ (λ u h. let here : u ≡ t = omega arith in rw here (more, differ))
