-- The rules leave no choice: depths at starts, needs and the number of starts are those of the code.
use Prim.Native.Nat.{ℕ, zero, suc, ◌<◌}
use mathlib.Core.Path.{◌≡◌, refl, sym, ap, ◌∙◌}
use mathlib.Core.Logic.{◌↔◌}
use mathlib.Core.Bool.{Bool, true, false}
use mathlib.Core.List.{List}
use native.Mathlib.Omega.{arith}
use Rattle.std.specs.Prelude.{Ok}
use Rattle.stm8.specs.Effects.{effect}
use Rattle.stm8.specs.declared.Instruction.{Instruction}
use Rattle.image.specs.declared.Limits.{Limits}
use Rattle.image.specs.Image.{count_of, size_of}
use Rattle.code.specs.Depth.{after}
use Rattle.code.specs.Code.{instruction_at, Start, begins}
use Rattle.rules.specs.Paths.{Goes, falling, jumping, Reached, entered, followed}
use Rattle.rules.specs.Rules.{InstructionRules, StartAt, RoutineRulesBy, RoutineRules, Greatest, NeedRules, StartCount}
use Rattle.code.proofs.Starts.{same_found}
use Rattle.rules.proofs.Counting.{count_same}
use Rattle.rules.proofs.Mapping.{greatest_map}

module _ {Reach : ℕ → ℕ → Type 0} {image : List ℕ} {limits : Limits} {depth : ℕ → ℕ} {r : ℕ} (rules : RoutineRulesBy Reach image limits depth r) where
  -- the rules hold of what stands at a start
  pub rules_found : {o n : ℕ} {i : Instruction} → Start image r o → instruction_at image r o ≡ Ok (i, n) →
      InstructionRules image limits r (StartAt image depth r) o (depth o) i n
  rules_found s f =
      let g = rules.starts s in
      let same = same_found f g.found in
      rw (same.0, same.1) g.rules

  -- where control goes stands a start, at the depth after the instruction
  pub arrives : {o to n : ℕ} {i : Instruction} → Start image r o → instruction_at image r o ≡ Ok (i, n) → Goes image r o to →
      StartAt image depth r to (after (effect i) (depth o))
  arrives s f (falling g t e) = rw (e, (same_found f g).0) ((rules_found s g).fall t)
  arrives {to = to} s f (jumping g j) =
      let l = (rules_found s g).jump j in
      let there : to ≡ l.to = omega (arith, l.target) in
      rw (there, (same_found f g).0) l.lands

  pub reached_start : {o : ℕ} → Reached image r o → Start image r o
  reached_start entered = begins
  reached_start (followed p g) =
      let s = reached_start p in
      (arrives s (rules.starts s).found g).start

module _ {image : List ℕ} {limits : Limits} {depth depth' : ℕ → ℕ} {r : ℕ}
    (rules : RoutineRules image limits depth r) (rules' : RoutineRules image limits depth' r) where
  reached_depth : {o : ℕ} → Reached image r o → depth o ≡ depth' o
  reached_depth entered = rules.entry ∙ sym rules'.entry
  reached_depth (followed p g) =
      let s = reached_start rules p in
      let h = rules.starts s in
      (arrives rules s h.found g).deep ∙ ap (after (effect h.instruction)) (reached_depth p) ∙ sym (arrives rules' s h.found g).deep

  pub one_depth : (o : ℕ) → Start image r o → depth o ≡ depth' o
  one_depth o s = reached_depth (rules.starts s).reached

pub greatest_one : {P : ℕ → Type 0} {a b : ℕ} → Greatest P a → Greatest P b → a ≡ b
greatest_one g h = omega (arith, g.bounds h.is, h.bounds g.is)

module _ {image : List ℕ} {limits : Limits} {depth depth' need need' : ℕ → ℕ}
    (rules : (r : ℕ) → r < count_of image → RoutineRules image limits depth r)
    (rules' : (r : ℕ) → r < count_of image → RoutineRules image limits depth' r)
    (most : NeedRules image depth need) (most' : NeedRules image depth' need') where
  needs_below : (b r : ℕ) → r < b → r < count_of image → need r ≡ need' r
  needs_below zero r below inside = absurd (omega arith)
  needs_below (suc b) r below inside =
      greatest_one
      (greatest_map (one_depth (rules r inside) (rules' r inside)) (λ j lower. needs_below b j (omega arith) (omega arith)) (most r inside))
      (most' r inside)

  pub one_need : (r : ℕ) → r < count_of image → need r ≡ need' r
  one_need r inside = needs_below (suc r) r (omega arith) inside

same_test : (a b : Bool) → (a ≡ true) ↔ (b ≡ true) → a ≡ b
same_test true b h = sym (h.0 refl)
same_test false true h = h.1 refl
same_test false false h = refl

pub one_count : {image : List ℕ} {c c' : ℕ} → StartCount image c → StartCount image c' → c ≡ c'
one_count {image} s t =
    s.counts ∙
    count_same s.is_start t.is_start (size_of image)
    (λ o below.
    same_test (s.is_start o) (t.is_start o)
    (λ e. (t.exact o below).1 ((s.exact o below).0 e), λ e. (s.exact o below).1 ((t.exact o below).0 e))) ∙
    sym t.counts
