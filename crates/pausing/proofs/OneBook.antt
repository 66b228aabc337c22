-- Registers and memory have one book only: the walk up the stack has no choice.
use Prim.Native.Nat.{ℕ, ◌+◌}
use mathlib.Core.Path.{◌≡◌, refl, sym, ap, ap₂, ◌∙◌}
use mathlib.Core.Bool.{Bool}
use mathlib.Core.List.{List, ◌∷◌}
use native.Mathlib.Omega.{arith}
use Rattle.numbers.specs.Words.{word_at}
use Rattle.numbers.specs.Lists.{Bytes}
use Rattle.image.specs.declared.Limits.{Limits}
use Rattle.image.specs.Image.{base_of, start_of}
use Rattle.rules.specs.Verdict.{Accepted}
use Rattle.acceptance.specs.Check.{checked}
use Rattle.acceptance.specs.Passed.{depth_in}
use Rattle.execution.specs.declared.Registers.{Registers}
use Rattle.gate.specs.History.{Book}
use Rattle.gate.specs.GoodPoint.{Callers, called, main, Held, GoodPoint, finished, running}
use Rattle.gate.proofs.CheckedCode.{CheckedCode}
use Rattle.gate.proofs.Guarantee.{accepted_code}
use Rattle.resuming.specs.Good.{point_at}
use Rattle.resuming.specs.Internal.{CallBefore}
use Rattle.resuming.proofs.Callers.{inside, one_place, one_call, main_uncalled}

module _ (image : List ℕ) (limits : Limits) (depth need : ℕ → ℕ) (code : CheckedCode image limits depth need) (memory : List ℕ) where
  one_walk : {r r' f f' : ℕ} {book book' : List ℕ} → r ≡ r' → f ≡ f' → (c : Callers image limits depth r f book) → Held memory c →
      (c' : Callers image limits depth r' f' book') → Held memory c' → book ≡ book'
  one_walk who at (main is top) held (main is' top') held' = refl
  one_walk who at (main is top) held (called listed start found calls above) held' =
      absurd (main_uncalled image limits depth need code (sym who ∙ is) listed start found calls)
  one_walk who at (called listed start found calls above) held (main is top) held' =
      absurd (main_uncalled image limits depth need code (who ∙ is) listed start found calls)
  one_walk {r = r} {f = f} who at (called {c = c} {o = o} {n = n} {i = i} listed start found calls above) held
      (called {c = k} {o = p} {n = m} {i = j} listed' start' found' calls' above') held' =
      let b : CallBefore image (word_at memory (f + 1)) (base_of image + start_of image r) o =
      record { routine = c; listed = listed; start = start; instruction = i; size = n; found = found; calls = calls; after = held.0 } in
      let b' : CallBefore image (word_at memory (f + 1)) (base_of image + start_of image r) p =
      record { routine = k; listed = listed'; start = start'; instruction = j; size = m; found = found'; calls = rw (← who) at calls'; after = rw (← at) at held'.0 } in
      let one = one_call image limits depth need code b b' in
      let deep : depth o ≡ depth p = ap depth one.1 in
      ap₂ ◌∷◌ (sym b.after ∙ b'.after) (one_walk one.0 (omega arith) above held.1 above' held'.1)

  same_book : (a b : Book) → a.addresses ≡ b.addresses → a.returned ≡ b.returned → a ≡ b
  same_book a b addresses returned = ap₂ (λ (l : List ℕ) (t : Bool). let k : Book = record { addresses = l; returned = t } in k) addresses returned

  pub one_book_by_code : {regs : Registers} {book book' : Book} → GoodPoint image limits depth (point_at regs memory book) →
      GoodPoint image limits depth (point_at regs memory book') → book ≡ book'
  one_book_by_code {book = book} {book' = book'} (finished y) (finished z) = same_book book book' (y.empty ∙ sym z.empty) (y.returned ∙ sym z.returned)
  one_book_by_code (finished y) (running z held) = let no_way : ⊥ = omega (arith, y.here, z.at.here, code.layout.base) in absurd no_way
  one_book_by_code (running y held) (finished z) = let no_way : ⊥ = omega (arith, z.here, y.at.here, code.layout.base) in absurd no_way
  one_book_by_code {book = book} {book' = book'} (running y held) (running z held') =
      let same : y.at.offset ≡ z.at.offset = omega (arith, y.at.here, z.at.here) in
      let a = inside image limits depth need code y.at.listed y.at.start in
      let b = inside image limits depth need code z.at.listed z.at.start in
      let who : y.at.routine ≡ z.at.routine =
      one_place image limits depth need code y.at.listed z.at.listed y.at.start z.at.start (omega arith) (omega arith) in
      let deep : depth y.at.offset ≡ depth z.at.offset = ap depth same in
      same_book book book' (one_walk who (omega arith) y.callers held z.callers held') (y.unreturned ∙ sym z.unreturned)

-- of an image that the check accepts
pub one_book : (image : List ℕ) → Bytes image → (limits : Limits) (marks : List ℕ) (need count : ℕ) →
    (checked image limits marks).0 ≡ Accepted need count → (regs : Registers) (memory : List ℕ) (book book' : Book) →
    GoodPoint image limits (depth_in (checked image limits marks).1) (point_at regs memory book) →
    GoodPoint image limits (depth_in (checked image limits marks).1) (point_at regs memory book') → book ≡ book'
one_book image bytes limits marks need count accepted regs memory book book' good good' =
    let h = accepted_code image bytes limits marks need count accepted in
    one_book_by_code image limits (depth_in (checked image limits marks).1) h.needs h.code memory good good'
