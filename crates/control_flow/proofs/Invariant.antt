-- The invariant of an exploration, and that it holds where the exploration begins.
use Prim.Native.Nat.{ℕ, ◌+◌, ◌*◌, ◌<◌, ◌≤◌}
use mathlib.Core.Path.{◌≡◌, refl, sym, ◌∙◌}
use mathlib.Core.Logic.{◌⊎◌, inl, inr, by_cases}
use mathlib.Core.Bool.{Bool, true, false}
use mathlib.Core.List.{List}
use native.Mathlib.Decide.{ℕ_discrete}
use native.Mathlib.Omega.{arith}
use lib.ListN.{length, get_or, set, length-set}
use lib.Seq.{get_or-set_same, get_or-set_other}
use Rattle.control_flow.specs.Graph.{Graph, Edge, Reached, entered, Path, start, Disagree}
use Rattle.control_flow.specs.Exploring.{Known, known, Explorable}
use Rattle.control_flow.proofs.Knowing.{known_set}
use Rattle.control_flow.proofs.Following.{differ}

-- an offset is on the stack
pub record Waiting (stack : List ℕ) (height o : ℕ) : Type 0 where
  pub index : ℕ
  pub low : index < height
  pub is : get_or stack index 0 ≡ o

-- what is held at an offset is the depth of some path to it
pub record Deep (bias : ℕ) (g : Graph) (depths : List ℕ) (o : ℕ) : Type 0 where
  pub pushed : ℕ
  pub popped : ℕ
  pub path : Path g o pushed popped
  pub depth : get_or depths o 0 + popped ≡ bias + pushed

-- a depth is at most `most` off for each offset whose depth is known
pub record Near (bias most : ℕ) (depths : List ℕ) (o : ℕ) : Type 0 where
  pub low : bias ≤ get_or depths o 0 + most * known depths
  pub high : get_or depths o 0 ≤ bias + most * known depths

-- both edges of an offset lead to known depths, and to the depth after it where all agrees
abbrev pub Done : Graph → List ℕ → Bool → ℕ → Type 0
Done g depths agree o = (t : ℕ) → Edge g o t → Known depths t × (agree ≡ true → get_or depths t 0 + g.pops o ≡ get_or depths o 0 + g.pushes o)

-- Each reached offset whose depth is known is visited now, waits on the stack, or is done.
pub record Exploring (bias most : ℕ) (g : Graph) (before : List ℕ) (Visiting : ℕ → Type 0)
    (depths stack : List ℕ) (height : ℕ) (agree : Bool) : Type 0 where
  pub some : 1 ≤ bias
  pub cells : length depths ≡ 4096
  pub slots : length stack ≡ 4096
  pub room : height ≤ known depths
  pub entry : get_or depths g.entry 0 ≡ bias
  pub others : (o : ℕ) → Reached g o ⊎ (get_or depths o 0 ≡ get_or before o 0)
  pub deep : (o : ℕ) → Reached g o → Known depths o → Deep bias g depths o
  pub near : (o : ℕ) → Reached g o → Known depths o → Near bias most depths o
  pub waiting : (i : ℕ) → i < height → Reached g (get_or stack i 0) × Known depths (get_or stack i 0)
  pub done : (o : ℕ) → Reached g o → Known depths o → Visiting o ⊎ (Waiting stack height o ⊎ Done g depths agree o)
  pub disagree : agree ≡ false → Disagree g

-- no offset is visited: the state between two visits
abbrev pub Nothing : ℕ → Type 0
Nothing o = ⊥

-- the entry's depth alone is known, and it alone is on the stack
module _ (bias most : ℕ) (some : 1 ≤ bias) (g : Graph) (before stack : List ℕ) (asks : Explorable g before stack) where
  entry_inside : g.entry < length before
  entry_inside = omega (arith, asks.inside g.entry entered, asks.cells)

  first : get_or (set before g.entry bias) g.entry 0 ≡ bias
  first = get_or-set_same before g.entry bias 0 entry_inside

  one : 1 ≤ known (set before g.entry bias)
  one = omega (arith, known_set before g.entry bias entry_inside (asks.clear g.entry entered) some)

  bottom : get_or (set stack 0 g.entry) 0 0 ≡ g.entry
  bottom = get_or-set_same stack 0 g.entry 0 (omega (arith, asks.slots))

  -- every reached offset whose depth is known is the entry
  only : (o : ℕ) → Reached g o → Known (set before g.entry bias) o → o ≡ g.entry
  only o r k =
      by_cases (ℕ_discrete o g.entry) (λ here. here)
      (λ away. absurd (omega (arith, get_or-set_other before g.entry o bias 0 away, asks.clear o r, k)))

  pub begins : Exploring bias most g (set before g.entry bias) Nothing (set before g.entry bias) (set stack 0 g.entry) 1 true
  begins =
      record {
        some = some;
        cells = length-set before g.entry bias ∙ asks.cells;
        slots = length-set stack 0 g.entry ∙ asks.slots;
        room = one;
        entry = first;
        others = λ o. inr refl;
        deep = λ o r k. rw (only o r k) (record { pushed = 0; popped = 0; path = start; depth = omega (arith, first) });
        near = λ o r k. rw (only o r k) (record { low = omega (arith, first); high = omega (arith, first) });
        waiting = λ i low. let z : i ≡ 0 = omega arith in rw (z, bottom) (entered, omega (arith, first));
        done = λ o r k. inr (inl (record { index = 0; low = omega arith; is = bottom ∙ sym (only o r k) }));
        disagree = λ z. differ (sym z);
      }
