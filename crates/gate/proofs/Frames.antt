-- The frames on the stack: what the callers of a routine ask of the stack and of memory.
use Prim.Native.Nat.{ℕ, ◌+◌, ◌≤◌, ◌<◌}
use mathlib.Core.Path.{◌≡◌}
use mathlib.Core.Bool.{false}
use mathlib.Core.List.{List}
use native.Mathlib.Omega.{arith}
use lib.ListN.{get_or}
use Rattle.numbers.specs.Words.{word_at}
use Rattle.image.specs.declared.Limits.{Limits}
use Rattle.image.specs.Image.{base_of, count_of}
use Rattle.rules.specs.Rules.{reported_need}
use Rattle.code.specs.Code.{Start}
use Rattle.gate.specs.History.{Point}
use Rattle.gate.specs.GoodPoint.{Callers, called, main, Held, GoodPoint, finished, running, Agree, with_memory}
use Rattle.gate.proofs.CheckedCode.{CheckedCode, resumes}

word_agrees : (before after : List ℕ) (at : ℕ) → get_or after at 0 ≡ get_or before at 0 → get_or after (at + 1) 0 ≡ get_or before (at + 1) 0 →
    word_at after at ≡ word_at before at
unfolding word_at
word_agrees before after at p q = rw (p, q)

module _ (image : List ℕ) (limits : Limits) (depth : ℕ → ℕ) where
  -- callers, and a memory that holds their addresses
  abbrev pub Frames : List ℕ → ℕ → ℕ → List ℕ → Type 0
  Frames memory r f book = (c : Callers image limits depth r f book) × Held memory c

  pub placed : (memory : List ℕ) {book : List ℕ} {r f f' : ℕ} → f ≡ f' → Frames memory r f book → Frames memory r f' book
  placed memory e h = rw (← e) h

  -- the return addresses end at stack high at most
  pub callers_top : {r f : ℕ} {book : List ℕ} → Callers image limits depth r f book → f + 2 ≤ limits.stack.high
  callers_top (main is top) = omega arith
  callers_top (called listed start found calls above) = omega (arith, callers_top above)

  -- they lie above f
  pub held_agrees : {r f : ℕ} {book : List ℕ} (before after : List ℕ) (c : Callers image limits depth r f book) → Agree limits f before after →
      Held before c → Held after c
  held_agrees before after (main {f = f} is top) e h =
      rw (word_agrees before after (f + 1) (e (f + 1) (omega arith) (omega arith)) (e (f + 1 + 1) (omega arith) (omega arith))) h
  held_agrees before after (called {o = o} {f = f} listed start found calls above) e h =
      let top = callers_top above in (
        rw (word_agrees before after (f + 1) (e (f + 1) (omega arith) (omega arith)) (e (f + 1 + 1) (omega arith) (omega arith))) h.0,
        held_agrees before after above (λ a low high. e a (omega arith) high) h.1,
      )

  -- at a start, below such frames, a point is good
  pub stands_good : (p : Point) (r o : ℕ) → r < count_of image → Start image r o → p.state.registers.pc ≡ base_of image + o →
      p.book.returned ≡ false → Frames p.state.memory r (p.state.registers.sp + depth o) p.book.addresses → GoodPoint image limits depth p
  stands_good p r o listed start here unreturned h =
      running
      (record { at = record { routine = r; listed = listed; offset = o; start = start; here = here }; callers = h.0; unreturned = unreturned }) h.1

  -- A good point outlives writes outside its stack bytes in use.
  pub good_outlives : (p : Point) (memory : List ℕ) → Agree limits p.state.registers.sp p.state.memory memory →
      GoodPoint image limits depth p → GoodPoint image limits depth (with_memory p memory)
  good_outlives p memory same (finished y) = finished y
  good_outlives p memory same (running y h) =
      running y (held_agrees p.state.memory memory y.callers (λ a low high. same a (omega arith) high) h)

  -- what the routine may still use is there
  module _ (need : ℕ → ℕ) (code : CheckedCode image limits depth need) where
    pub callers_room : {r f : ℕ} {book : List ℕ} → r < count_of image → Callers image limits depth r f book →
        limits.stack.high + need r ≤ f + reported_need image need
    callers_room listed (main is top) = rw is (omega arith)
    callers_room listed (called inside start found calls above) =
        omega (arith, callers_room inside above, (resumes image limits depth need code listed inside start found calls).covered)
