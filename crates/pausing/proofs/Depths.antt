-- A good point goes by the depths of starts alone, and these are the same in the marks of every check that accepts.
use Prim.Native.Nat.{ℕ, ◌<◌, ◌≤◌}
use mathlib.Core.Path.{◌≡◌, sym}
use mathlib.Core.List.{List}
use native.Mathlib.Omega.{arith}
use lib.ListN.{length}
use Rattle.image.specs.declared.Limits.{Limits}
use Rattle.image.specs.Image.{count_of, size_of}
use Rattle.code.specs.Code.{Start}
use Rattle.rules.specs.Rules.{Rules}
use Rattle.acceptance.specs.Check.{checked}
use Rattle.acceptance.specs.Passed.{depth_in}
use Rattle.acceptance.proofs.Accepting.{accepted_marks}
use Rattle.gate.specs.History.{Point}
use Rattle.gate.specs.GoodPoint.{Callers, called, main, Held, GoodPoint, finished, running}

module _ (image : List ℕ) (limits : Limits) (depth depth' : ℕ → ℕ)
    (same : (r o : ℕ) → r < count_of image → Start image r o → depth o ≡ depth' o) (memory : List ℕ) where
  frames_same : {r f : ℕ} {book : List ℕ} (c : Callers image limits depth r f book) → Held memory c →
      (c' : Callers image limits depth' r f book) × Held memory c'
  frames_same (main is top) held = (main is top, held)
  frames_same (called {c = c} {o = o} listed start found calls above) held =
      let rest = rw (same c o listed start) at (frames_same above held.1) in
      (called listed start found calls rest.0, (held.0, rest.1))

module _ (image : List ℕ) (limits : Limits) (depth depth' : ℕ → ℕ)
    (same : (r o : ℕ) → r < count_of image → Start image r o → depth o ≡ depth' o) where
  pub good_same : {p : Point} → GoodPoint image limits depth p → GoodPoint image limits depth' p
  good_same (finished y) = finished y
  good_same {p} (running y held) =
      let at = y.at in
      let frames = rw (same at.routine at.offset at.listed at.start) at (frames_same image limits depth depth' same p.state.memory y.callers held) in
      running (record { at = at; callers = frames.0; unreturned = y.unreturned }) frames.1

-- so it may go by the marks, or by the depths of the rules
module _ (image : List ℕ) (limits : Limits) (depth need : ℕ → ℕ) (rules : Rules image limits depth need) (marks : List ℕ) (enough : size_of image ≤ length marks) where
  depth_marked : (r o : ℕ) → r < count_of image → Start image r o → depth o ≡ depth_in (checked image limits marks).1 o
  depth_marked r o listed start = omega (arith, (accepted_marks image limits marks depth need rules enough).starts r o listed start)

  pub good_marked : {p : Point} → GoodPoint image limits depth p → GoodPoint image limits (depth_in (checked image limits marks).1) p
  good_marked = good_same image limits depth (depth_in (checked image limits marks).1) depth_marked

  pub good_unmarked : {p : Point} → GoodPoint image limits (depth_in (checked image limits marks).1) p → GoodPoint image limits depth p
  good_unmarked = good_same image limits (depth_in (checked image limits marks).1) depth (λ r o listed start. sym (depth_marked r o listed start))
