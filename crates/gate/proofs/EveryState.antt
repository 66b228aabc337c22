-- No state is left out of a history: each call has as many as it must, and those of a run are what its steps leave, one after the other, to its end.
use Prim.Native.Nat.{ℕ, zero, suc, ◌+◌, ◌<◌}
use mathlib.Core.Path.{◌≡◌, refl, ap}
use mathlib.Core.Bool.{Bool, true, false, cond}
use mathlib.Core.List.{List, [], ◌∷◌}
use mathlib.Core.Option.{none}
use native.Mathlib.Numerals.{add-one}
use native.Mathlib.Omega.{arith}
use lib.Dec.{eqb}
use lib.ListN.{length, get_or, length-append}
use Rattle.machine.specs.Step.{step_refusal, stepped}
use Rattle.machine.specs.Run.{ended, after_step, no_steps_left, ran}
use Rattle.execution.specs.declared.StepAnswer.{StepAnswer}
use Rattle.execution.specs.declared.StepAnswer.TheVariants.{Made, Finished, Trap, Refused}
use Rattle.machine.specs.declared.RunAnswer.{RunAnswer}
use Rattle.machine.specs.declared.Ran.{Ran}
use Rattle.gate.specs.History.{Given, Request, step, run, State, Point, Moment, ran_to, point_after, moment_after, steps_from, after_steps}
use Rattle.gate.specs.History.{ran_point, point_of, moments_of, history_from, history, states_of, states}

steps_length : (g : Given) (n : ℕ) (p : Point) → length (steps_from g n p) ≡ n
steps_length g zero p = refl
steps_length g (suc n) p = ap suc (steps_length g n _)

call_states : (c : Request) (p : Point) → length (moments_of c p) ≡ states_of c p
call_states (step g) p = refl
call_states (run g budget) p =
    let r = ran budget g.image g.limits p.state.registers p.state.memory in
    let end : Moment = record { answer = ran_to r.0.answer; owed = none; point = ran_point g budget p } in
    rw (length-append (steps_from g r.0.steps p) (end ∷ []), steps_length g r.0.steps p)

list_states : (calls : List Request) (p : Point) → length (history_from calls p) ≡ states calls p
list_states [] p = refl
list_states (c ∷ calls) p =
    rw (length-append (moments_of c p) (history_from calls (point_of c p)), call_states c p, list_states calls (point_of c p))

-- the start's own state, and those of every call
pub every_state : (calls : List Request) (p : Point) → length (history calls p) ≡ 1 + states calls p
every_state calls p = omega (arith, list_states calls p)

-- state k of n steps, the first being 0, is what a step leaves of the point that k steps come to
pub every_step : (g : Given) (n k : ℕ) (p : Point) → k < n → (default : Moment) →
    get_or (steps_from g n p) k default ≡ moment_after g (after_steps g k p)
every_step g zero k p h default = let z : ⊥ = omega arith in absurd z
every_step g (suc n) zero p h default = refl
every_step g (suc n) (suc k) p h default = every_step g n k _ (omega arith) default

-- and a run ends at the point that its steps come to
module _ (g : Given) where
  abbrev Came : Point → Ran × List ℕ → Type 0
  Came p r = ◌≡◌ {A = State} (record { registers = r.0.registers; memory = r.1 }) (after_steps g r.0.steps p).state

  no_step : (p : Point) (t : Bool) (a b : RunAnswer) →
      Came p (cond t (ended a p.state.registers p.state.memory) (ended b p.state.registers p.state.memory))
  no_step p true a b = refl
  no_step p false a b = refl

  after_step_lem : (p : Point) (answer : StepAnswer) (rest : Ran × List ℕ) → Came (point_after g p) rest →
      Came p (after_step answer p.state.registers p.state.memory rest)
  after_step_lem p Made rest h = rw add-one h
  after_step_lem p Finished rest h = refl
  after_step_lem p (Trap number) rest h = refl
  after_step_lem p (Refused number) rest h = refl

  run_came : (budget : ℕ) (p : Point) → Came p (ran budget g.image g.limits p.state.registers p.state.memory)
  unfolding ran no_steps_left
  run_came zero p = no_step p (eqb (step_refusal g.image g.limits p.state.memory) 0) _ _
  run_came (suc budget) p =
      let s = stepped g.image g.limits p.state.registers p.state.memory in
      after_step_lem p s.0.answer (ran budget g.image g.limits s.0.registers s.1) (run_came budget (point_after g p))

  pub run_end : (budget : ℕ) (p : Point) →
      ran_point g budget p ≡ after_steps g (ran budget g.image g.limits p.state.registers p.state.memory).0.steps p
  run_end budget p =
      let n = (ran budget g.image g.limits p.state.registers p.state.memory).0.steps in
      ap (λ (s : State). record { state = s; book = (after_steps g n p).book }) (run_came budget p)
