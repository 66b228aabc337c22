-- An accepted start: the memory had its size, the check accepted, and what it leaves is a good point.
use Rattle.std.specs.Prelude.{Ok, Err}
use Prim.Native.Nat.{ℕ, suc, ◌+◌, ◌-◌, ◌≤◌, ◌<◌}
use mathlib.Core.Path.{◌≡◌, refl, sym, ap, ◌∙◌}
use mathlib.Core.Bool.{Bool, true, false, cond}
use mathlib.Core.List.{List, [], ◌∷◌}
use native.Mathlib.Numerals.{add-one}
use native.Mathlib.Omega.{arith}
use lib.Dec.{eqb}
use lib.ListN.{length, set}
use lib.Seq.{length-sets}
use borrow.Author.Tests.{eqb-true, eq-eqb, ne_eqb}
use Rattle.numbers.specs.Words.{high, low, word_at}
use Rattle.stm8.specs.declared.Width.TheVariants.{Word}
use Rattle.image.specs.declared.Limits.{Limits}
use Rattle.image.specs.Image.{count_of, start_of, main_of}
use Rattle.image.specs.Rules.{ImageRules}
use Rattle.code.specs.Code.{begins}
use Rattle.acceptance.specs.Check.{checked}
use Rattle.rules.specs.Outcome.{VerdictNumbered}
use Rattle.rules.specs.Verdict.{Verdict}
use Rattle.rules.specs.Verdict.{Accepted, Refused}
use Rattle.storage.specs.Storing.{bytes_from, memory_after}
use Rattle.machine.proofs.Stores.{stored_other, together, word_stored}
use Rattle.acceptance.proofs.Accepting.{accepted_exactly}
use Rattle.gate.specs.Start.{Result, zeros, begun, cleared, by_verdict, started}
use Rattle.gate.specs.History.{empty_book}
use Rattle.gate.specs.GoodPoint.{main}
use Rattle.gate.proofs.CheckedCode.{CheckedCode}
use Rattle.gate.proofs.Frames.{placed, stands_good}
use Rattle.gate.proofs.AnyList.{Tracked}

module _ (image : List ℕ) (limits : Limits) (marks memory : List ℕ) (a x y cc' need count : ℕ) where
  pub record AcceptedStart (s : Result) : Type 0 where
    pub size : length memory ≡ 32768
    pub accepted : (checked image limits marks).0 ≡ Accepted need count
    pub registers : s.started.registers ≡ begun image limits a x y cc'
    pub cleared_memory : s.memory ≡ cleared limits memory

  -- by the size of the memory and the verdict
  abbrev answer : Bool → Verdict → Result
  answer t v =
      cond t (by_verdict v image limits (checked image limits marks).1 memory a x y cc')
      (by_verdict (Refused 17 0) image limits marks memory a x y cc')

  by_verdict_lem : (t : Bool) → eqb (length memory) 32768 ≡ t → (v : Verdict) → (checked image limits marks).0 ≡ v →
      (answer t v).started.verdict ≡ Accepted need count → AcceptedStart (answer t v)
  by_verdict_lem true t (Ok a) v e = record { size = eqb-true _ _ t; accepted = v ∙ e; registers = refl; cleared_memory = refl }
  by_verdict_lem true t (Err r) v e = let z : ◌≡◌ {A = ℕ} 0 1 = cc in absurd (omega arith)
  by_verdict_lem false t v w e = let z : ◌≡◌ {A = ℕ} 0 1 = cc in absurd (omega arith)

  pub accepted_start : (started image limits marks memory a x y cc').started.verdict ≡ Accepted need count →
      AcceptedStart (started image limits marks memory a x y cc')
  unfolding started
  accepted_start e = by_verdict_lem (eqb (length memory) 32768) refl (checked image limits marks).0 refl e

module _ (image : List ℕ) (limits : Limits) (depth need : ℕ → ℕ) (code : CheckedCode image limits depth need)
    (memory : List ℕ) (size : length memory ≡ 32768) where
  two_bytes : 2 ≤ limits.stack.high
  two_bytes = omega (arith, code.room, code.areas.stack_low)

  pub main_listed : main_of image < count_of image
  unfolding main_of
  main_listed = omega (arith, code.layout.count.0)

  -- a word of 0 is stored
  cleared_word : cleared limits memory ≡ memory_after memory (bytes_from (limits.stack.high - 1) Word) 0
  unfolding memory_after high low
  cleared_word = ap (λ top. set (set memory (limits.stack.high - 1) 0) top 0) (sym (add-one (limits.stack.high - 1)))

  zeros_stored : word_at (cleared limits memory) (limits.stack.high - 1) ≡ 0
  zeros_stored = rw cleared_word (word_stored memory (limits.stack.high - 1) 0 (omega (arith, code.areas.stack.high)))

  pub start_tracked : (a x y cc' : ℕ) →
      Tracked image limits depth need code memory size
      (record { state = record { registers = begun image limits a x y cc'; memory = cleared limits memory }; book = empty_book })
  start_tracked a x y cc' =
      let two = two_bytes in
      let entry = code.entries (main_of image) main_listed in
      let top : limits.stack.high - 2 + 2 ≡ limits.stack.high = omega arith in
      let at : limits.stack.high - 2 + 1 ≡ limits.stack.high - 1 = omega arith in
      record {
        good =
            stands_good image limits depth _ (main_of image) (start_of image (main_of image)) main_listed begins refl refl
            (placed image limits depth _ {f = limits.stack.high - 2} (omega arith) (main refl top, rw at zeros_stored));
        kept =
            record {
              size = length-sets memory (limits.stack.high - 1) (0 ∷ 0 ∷ []);
              same = λ address grant outside.
                  rw cleared_word
                  (stored_other memory (bytes_from (limits.stack.high - 1) Word) 0 address
                  (λ here.
                  let span = together (limits.stack.high - 1) Word address here in
                  outside (record { above = omega (arith, span); below = omega (arith, span) })));
            };
      }

-- the ways through a start
module _ (image : List ℕ) (limits : Limits) (marks memory : List ℕ) (a x y cc' : ℕ) where
  pub start_17 : (length memory ≡ 32768 → ⊥) →
      started image limits marks memory a x y cc' ≡
      record { started = record { verdict = Refused 17 0; registers = zeros }; marks = marks; memory = memory }
  unfolding started
  start_17 h = rw (ne_eqb (length memory) 32768 h)

  module _ (size : length memory ≡ 32768) (v : Verdict) (marks' : List ℕ) (check : checked image limits marks ≡ (v, marks')) where
    start_checked : started image limits marks memory a x y cc' ≡ by_verdict v image limits marks' memory a x y cc'
    unfolding started
    start_checked = rw (eq-eqb (length memory) 32768 size, check)

    pub start_refused : (number offset : ℕ) → v ≡ Refused number offset →
        started image limits marks memory a x y cc' ≡ record { started = record { verdict = v; registers = zeros }; marks = marks'; memory = memory }
    start_refused number offset e = start_checked ∙ rw e

    pub start_accepted : (n c : ℕ) → v ≡ Accepted n c →
        started image limits marks memory a x y cc' ≡
        record { started = record { verdict = v; registers = begun image limits a x y cc' }; marks = marks'; memory = cleared limits memory }
    start_accepted n c e = start_checked ∙ rw e

-- what the number of its verdict tells
pub numbered_17 : VerdictNumbered 17 (Refused 17 0)
numbered_17 =
    record {
      accepted = λ e. absurd (omega arith);
      refused = λ _. refl;
      most = omega arith;
      nowhere = λ _. refl;
      nothing = λ _. (refl, refl);
    }

pub numbered_check : {v : Verdict} → VerdictNumbered 16 v → VerdictNumbered 17 v
numbered_check n =
    record { accepted = n.accepted; refused = n.refused; most = omega (arith, n.most); nowhere = n.nowhere; nothing = n.nothing }

-- what is accepted can begin
pub start_ready : (image : List ℕ) (limits : Limits) (marks memory : List ℕ) (v : Verdict) (marks' : List ℕ) (n c : ℕ) → length memory ≡ 32768 →
    checked image limits marks ≡ (v, marks') → v ≡ Accepted n c →
    ImageRules image × ((2 ≤ limits.stack.high) × (limits.stack.high < length memory))
start_ready image limits marks memory v marks' n c size check e =
    let h = (accepted_exactly image limits marks n c).0 (ap (λ (r : Verdict × List ℕ). r.0) check ∙ e) in
    let areas = h.rules.areas in
    (h.rules.layout, (omega (arith, h.rules.room, areas.stack_low), omega (arith, areas.stack.high)))

-- the top two stack bytes, one after the other
pub cleared_bytes : (limits : Limits) (memory : List ℕ) → 2 ≤ limits.stack.high →
    set (set memory (limits.stack.high - 1) 0) limits.stack.high 0 ≡ cleared limits memory
cleared_bytes limits memory two = let top : suc (limits.stack.high - 1) ≡ limits.stack.high = omega arith in rw top
