-- The walk, frame by frame: where a call comes before the return address the frames go on with the caller's, at main they end, and there is no other way.
use Prim.Native.Nat.{ℕ, ◌+◌, ◌<◌, ◌≤◌}
use mathlib.Core.Path.{◌≡◌, refl, sym, ◌∙◌}
use mathlib.Core.Bool.{Bool, true, false, not}
use mathlib.Core.List.{List, [], ◌∷◌}
use native.Mathlib.Omega.{arith}
use lib.Dec.{eqb}
use borrow.Author.Tests.{eqb-true, eqb-false}
use Rattle.numbers.specs.Words.{word_at}
use Rattle.image.specs.declared.Limits.{Limits}
use Rattle.image.specs.Image.{base_of, count_of, start_of, main_of}
use Rattle.acceptance.specs.Passed.{depth_in}
use Rattle.gate.specs.GoodPoint.{Callers, called, main, Held}
use Rattle.gate.proofs.Frames.{callers_top}
use Rattle.resuming.specs.Internal.{Accepting, Tells, Framed, CallBefore, CallTold, CallerTold, LastBegun}
use Rattle.resuming.proofs.MarkedCode.{MarkedCode}
use Rattle.resuming.proofs.Callers.{routine_is, one_call, main_uncalled}

-- by the answer of a test
pub told : {P : Type 0} (b : Bool) → (b ≡ true → P) → (b ≡ false → P → ⊥) → Tells b P
told true holds fails = holds refl
told false holds fails = fails refl

-- a test that is turned round
pub fails : (b : Bool) → not b ≡ true → b ≡ false
fails true e = sym e
fails false e = refl

pub holds : (b : Bool) → not b ≡ false → b ≡ true
holds true e = refl
holds false e = sym e

module _ (image : List ℕ) (limits : Limits) (marks : List ℕ) (m : MarkedCode image limits marks) (memory : List ℕ) where
  abbrev Frames : ℕ → ℕ → Type 0
  Frames = Framed image limits marks memory

  -- they end at stack high at most
  pub framed_top : {r f : ℕ} → Frames r f → f + 2 ≤ limits.stack.high
  framed_top h = callers_top image limits (depth_in marks) h.1

  -- at main they are its return bytes, 0000 at the very top
  pub main_framed : {r f : ℕ} → r ≡ main_of image → f + 2 ≡ limits.stack.high → word_at memory (f + 1) ≡ 0 → Frames r f
  main_framed is top zeros = ([], main is top, zeros)

  main_ends : {r f : ℕ} {book : List ℕ} → r ≡ main_of image → (c : Callers image limits (depth_in marks) r f book) → Held memory c →
      (f + 2 ≡ limits.stack.high) × (word_at memory (f + 1) ≡ 0)
  main_ends is (main same top) held = (top, held)
  main_ends is (called listed start found calls above) held =
      absurd (main_uncalled image limits (depth_in marks) m.needs m.code is listed start found calls)

  pub framed_main : {r f : ℕ} → r ≡ main_of image → Frames r f → (f + 2 ≡ limits.stack.high) × (word_at memory (f + 1) ≡ 0)
  framed_main is h = main_ends is h.1 h.2

  -- below it they go on past the caller's depth
  framed_up : {r f o : ℕ} (b : CallBefore image (word_at memory (f + 1)) (base_of image + start_of image r) o) →
      Frames b.routine (f + 2 + depth_in marks o) → Frames r f
  framed_up {o = o} b h =
      ((base_of image + (o + b.size)) ∷ h.0, called b.listed b.start b.found b.calls h.1, (b.after, h.2))

  record Goes (r f : ℕ) : Type 0 where
    at : ℕ
    call : CallBefore image (word_at memory (f + 1)) (base_of image + start_of image r) at
    above : Frames call.routine (f + 2 + depth_in marks at)

  goes : {r f : ℕ} {book : List ℕ} → (r ≡ main_of image → ⊥) → (c : Callers image limits (depth_in marks) r f book) → Held memory c → Goes r f
  goes other (main is top) held = absurd (other is)
  goes other (called {c = c} {o = o} {n = n} {i = i} {book = book} listed start found calls above) held =
      record {
        at = o;
        call = record { routine = c; listed = listed; start = start; instruction = i; size = n; found = found; calls = calls; after = held.0 };
        above = (book, above, held.1);
      }

  module _ (r f : ℕ) (other : r ≡ main_of image → ⊥) where
    pub caller_none : ((o : ℕ) → CallBefore image (word_at memory (f + 1)) (base_of image + start_of image r) o → ⊥) → Frames r f → ⊥
    caller_none none h = let go = goes other h.1 h.2 in none go.at go.call

    pub caller_found : {at c g : ℕ} → CallBefore image (word_at memory (f + 1)) (base_of image + start_of image r) at →
        LastBegun image (count_of image) at c → g ≡ f + 2 + depth_in marks at → CallerTold image limits marks memory r f true c g
    caller_found {at} {c} {g} b last there =
        let who : c ≡ b.routine = routine_is image limits (depth_in marks) m.needs m.code b.listed b.start last in (
          λ h.
              let go = goes other h.1 h.2 in
              let one = one_call image limits (depth_in marks) m.needs m.code go.call b in
              rw (who, there, ← one.0, ← one.1) go.above,
          λ h. framed_up b (rw (who, there) at h),
        )

    pub caller_told : (b : Bool) {word target count at c g : ℕ} → word ≡ word_at memory (f + 1) → target ≡ base_of image + start_of image r →
        CallTold image word target b at → count ≡ count_of image → LastBegun image count at c → g ≡ f + 2 + depth_in marks at →
        CallerTold image limits marks memory r f b c g
    caller_told true word-is target_is told count_is last place = caller_found (rw (word-is, target_is) at told) (rw count_is at last) place
    caller_told false word-is target_is told count_is last place = caller_none (rw (word-is, target_is) at told)

  -- the walk's answers
  pub past_top : {r f : ℕ} → limits.stack.high < f + 2 → Frames r f → ⊥
  past_top over h = omega (arith, framed_top h)

  pub off_top : {r f : ℕ} → r ≡ main_of image → (f + 2 ≡ limits.stack.high → ⊥) → Frames r f → ⊥
  off_top is other h = other (framed_main is h).0

  pub main_told : (r f word : ℕ) → r ≡ main_of image → f + 2 ≡ limits.stack.high → word ≡ word_at memory (f + 1) → Tells (eqb word 0) (Frames r f)
  main_told r f word is top word-is =
      told (eqb word 0)
      (λ e. main_framed is top (sym word-is ∙ eqb-true word 0 e))
      (λ e h. eqb-false word 0 e (word-is ∙ (framed_main is h).1))

-- What the walk knows at a frame: the first frame holds exactly where this one does, under any limits that the image was accepted under.
pub record Reaches (image begins marks memory : List ℕ) (routine place r f : ℕ) : Type 0 where
  pub listed : r < count_of image
  pub low : f ≤ 0x1FFFE
  pub up : (limits : Limits) → Accepting image limits begins marks → Framed image limits marks memory routine place → Framed image limits marks memory r f
  pub down : (limits : Limits) → Accepting image limits begins marks → Framed image limits marks memory r f → Framed image limits marks memory routine place

pub reaches_caller : {image begins marks memory : List ℕ} {routine place r f c g : ℕ} → Reaches image begins marks memory routine place r f →
    (c < count_of image) × (f < g) × (g ≤ 0x1FFFE) →
    ((limits : Limits) → Accepting image limits begins marks → CallerTold image limits marks memory r f true c g) →
    Reaches image begins marks memory routine place c g
reaches_caller w bounds told =
    record {
      listed = bounds.0;
      low = bounds.2;
      up = λ limits a h. (told limits a).0 (w.up limits a h);
      down = λ limits a h. w.down limits a ((told limits a).1 h);
    }

-- and what is told of this one is told of the first
pub reaches_told : {image begins marks memory : List ℕ} {routine place r f : ℕ} → Reaches image begins marks memory routine place r f →
    (limits : Limits) → Accepting image limits begins marks → (b : Bool) → Tells b (Framed image limits marks memory r f) →
    Tells b (Framed image limits marks memory routine place)
reaches_told w limits a true h = w.down limits a h
reaches_told w limits a false h = λ first. h (w.up limits a first)
