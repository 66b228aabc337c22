-- An image that meets the rules and only jumps ahead finishes within main's turn, from its start.
use Prim.Native.Nat.{ℕ, zero, suc, ◌<◌, ◌≤◌}
use mathlib.Core.Path.{◌≡◌, refl, ◌∙◌}
use mathlib.Core.Bool.{false}
use mathlib.Core.Logic.{inl}
use mathlib.Core.List.{List}
use native.Mathlib.Omega.{arith}
use lib.ListN.{length}
use Rattle.numbers.specs.Lists.{Bytes}
use Rattle.image.specs.declared.Limits.{Limits}
use Rattle.image.specs.Image.{count_of, main_of}
use Rattle.code.specs.Code.{Start, begins}
use Rattle.rules.specs.Rules.{Rules}
use Rattle.machine.specs.Run.{ran}
use Rattle.machine.proofs.RunLaws.{finished_at_once}
use Rattle.gate.specs.Start.{begun, cleared}
use Rattle.gate.specs.History.{Given, Point, empty_book, point_after}
use Rattle.gate.specs.GoodPoint.{GoodPoint}
use Rattle.gate.proofs.CheckedCode.{CheckedCode}
use Rattle.gate.proofs.CheckedByRules.{rules_checked}
use Rattle.gate.proofs.AnyStep.{valid, any_step, makes_step}
use Rattle.gate.proofs.Starting.{main_listed, start_tracked}
use Rattle.turns.specs.Turn.{some_jumps_back, turn_of}
use Rattle.finishing.specs.Finishing.{FinishedWithin}
use Rattle.finishing.proofs.Left.{left_in, left_whole, left_behind}
use Rattle.finishing.proofs.Remaining.{nobody, Remains, finished, running}
use Rattle.finishing.proofs.EachStep.{step_remains}

module _ (image : List ℕ) (bytes : Bytes image) (limits : Limits) (depth need : ℕ → ℕ) (rules : Rules image limits depth need)
    (ahead : some_jumps_back image ≡ false) where
  abbrev accepted : Given
  accepted = record { image = image; limits = limits }

  code : CheckedCode image limits depth need
  code = rules_checked image bytes limits depth need rules

  -- a run from a good point where no more than its budget remains
  abbrev Finishes : ℕ → Type 0
  Finishes budget =
      (most : ℕ) → most ≤ budget → (p : Point) → length p.state.memory ≡ 32768 → GoodPoint image limits depth p →
      Remains image p.state.registers.pc p.book.addresses most →
      FinishedWithin most (ran budget image limits p.state.registers p.state.memory).0

  at_end : (budget most : ℕ) (p : Point) → length p.state.memory ≡ 32768 → p.state.registers.pc ≡ 0 →
      FinishedWithin most (ran budget image limits p.state.registers p.state.memory).0
  at_end budget most p size e =
      rw (finished_at_once budget image limits p.state.registers p.state.memory (valid image limits depth need code p size) e)
      record { answer = refl; steps = omega arith }

  some_left : {r o : ℕ} (listed : r < count_of image) → Start image r o → 1 ≤ left_in image r o
  some_left {r} listed s = omega (arith, left_behind image rules.layout r listed s ((rules.routines r listed).starts s).found)

  one_step : (budget : ℕ) → Finishes budget → Finishes (suc budget)
  unfolding ran
  one_step budget more most few p size good (finished e) = at_end (suc budget) most p size e
  one_step budget more zero few p size good (running listed s is callers left) =
      let z : ⊥ = omega (arith, some_left listed s) in absurd z
  one_step budget more (suc t) few p size good (running listed s is callers left) =
      let step = any_step image limits depth need code p size accepted (inl refl) good in
      let m = makes_step image limits depth need code p size good (λ e. omega (arith, rules.layout.base)) in
      let rest = more t (omega arith) (point_after accepted p) (step.kept.size ∙ size) step.good
      (step_remains image bytes limits depth need rules ahead p m listed s is callers left step.met) in
      rw m.answer record { answer = rest.answer; steps = omega (arith, rest.steps) }

  no_budget : Finishes 0
  no_budget most few p size good (finished e) = at_end 0 most p size e
  no_budget most few p size good (running listed s is callers left) = let z : ⊥ = omega (arith, some_left listed s) in absurd z

  finishes : (budget : ℕ) → Finishes budget
  finishes zero = no_budget
  finishes (suc budget) = one_step budget (finishes budget)

  -- of an image that meets document 01's rules, from its start
  pub from_rules : (memory : List ℕ) → length memory ≡ 32768 → (a x y cc budget : ℕ) → turn_of image (main_of image) ≤ budget →
      FinishedWithin (turn_of image (main_of image)) (ran budget image limits (begun image limits a x y cc) (cleared limits memory)).0
  from_rules memory size a x y cc budget enough =
      let p : Point = record { state = record { registers = begun image limits a x y cc; memory = cleared limits memory }; book = empty_book } in
      let t = start_tracked image limits depth need code memory size a x y cc in
      finishes budget (turn_of image (main_of image)) enough p (t.kept.size ∙ size) t.good
      (running (main_listed image limits depth need code memory size) begins refl nobody (omega (arith, left_whole image (main_of image))))
