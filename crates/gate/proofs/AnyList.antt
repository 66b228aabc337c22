-- From a step to runs and to lists of calls: from any good point the whole history holds.
use Prim.Native.Nat.{ℕ, zero, suc, ◌<◌}
use mathlib.Core.Path.{◌≡◌, ◌∙◌}
use mathlib.Core.Logic.{◌⊎◌, inl, inr}
use mathlib.Core.Bool.{Bool, true, false, cond}
use mathlib.Core.List.{List, [], ◌∷◌, ◌++◌}
use native.Mathlib.Numerals.{add-one}
use native.Mathlib.Omega.{arith}
use lib.Dec.{eqb}
use lib.ListN.{length}
use Rattle.image.specs.declared.Limits.{Limits}
use Rattle.image.specs.Validation.{refusal}
use Rattle.machine.specs.Step.{stepped, step_refusal}
use Rattle.machine.specs.Run.{ended, after_step, no_steps_left, ran}
use Rattle.execution.specs.declared.StepAnswer.{StepAnswer}
use Rattle.execution.specs.declared.StepAnswer.TheVariants as Step
use Rattle.machine.specs.declared.RunAnswer.TheVariants.{Finished, Spent, Refused}
use Rattle.machine.specs.declared.Ran.{Ran}
use Rattle.rules.specs.Rules.{reported_need}
use Rattle.gate.specs.History.{Given, Request, step, run, Point, stepped_to, ran_to, Moment, point_after, moment_after}
use Rattle.gate.specs.History.{steps_from, after_steps, point_of, moments_of, history_from, history}
use Rattle.gate.specs.Guarantee.{All, Untrapped, MeetsOwed, Unchanged, Holds, Allowed}
use Rattle.gate.specs.GoodPoint.{GoodPoint, finished, running}
use Rattle.gate.proofs.CheckedCode.{CheckedCode}
use Rattle.gate.proofs.AnyStep.{Steps, room_here, on_code, any_step}

pub all_append : {A : Type 0} (P : A → Type 0) (xs ys : List A) → All P xs → All P ys → All P (xs ++ ys)
all_append P [] ys h k = k
all_append P (x ∷ xs) ys h k = (h.0, all_append P xs ys h.1 k)

pub all_map : {A : Type 0} {P Q : A → Type 0} → ((x : A) → P x → Q x) → (xs : List A) → All P xs → All Q xs
all_map f [] h = tt
all_map f (x ∷ xs) h = (f x h.0, all_map f xs h.1)

unchanged_more : {limits : Limits} {n : ℕ} {a b c : List ℕ} → Unchanged limits n a b → Unchanged limits n b c → Unchanged limits n a c
unchanged_more h k = record { size = k.size ∙ h.size; same = λ address grant top. k.same address grant top ∙ h.same address grant top }

module _ (image : List ℕ) (limits : Limits) (depth need : ℕ → ℕ) (code : CheckedCode image limits depth need)
    (before : List ℕ) (size : length before ≡ 32768) where
  -- a good point, with memory as it was before where it must be
  pub record Tracked (p : Point) : Type 0 where
    pub good : GoodPoint image limits depth p
    pub kept : Unchanged limits (reported_need image need) before p.state.memory

  -- a state that leaves one: nothing has trapped, and a return went where it must
  pub record Sound (m : Moment) : Type 0 where
    pub tracked : Tracked m.point
    pub untrapped : Untrapped m.answer
    pub met : MeetsOwed m.owed m.point.state.registers.pc

  module _ (g : Given) (allowed : (g ≡ record { image = image; limits = limits }) ⊎ (0 < refusal g.image g.limits)) where
    stepping : (p : Point) → Tracked p → Steps image limits depth need code g p
    stepping p t = any_step image limits depth need code p (t.kept.size ∙ size) g allowed t.good

    step_tracked : (p : Point) → Tracked p → Tracked (point_after g p)
    step_tracked p t = let s = stepping p t in record { good = s.good; kept = unchanged_more t.kept s.kept }

    step_sound : (p : Point) → Tracked p → Sound (moment_after g p)
    step_sound p t = let s = stepping p t in record { tracked = step_tracked p t; untrapped = s.untrapped; met = s.met }

    -- what is to be shown of a run from p
    abbrev pub RunSound : Point → Ran × List ℕ → Type 0
    RunSound p x =
        All Sound (steps_from g x.0.steps p)
        × Untrapped (ran_to x.0.answer)
        × Tracked (record { state = record { registers = x.0.registers; memory = x.1 }; book = (after_steps g x.0.steps p).book })

    stopped : (p : Point) → Tracked p → (number : ℕ) (valid zero-pc : Bool) →
        RunSound p
        (cond valid (ended (cond zero-pc Finished Spent) p.state.registers p.state.memory)
        (ended (Refused number) p.state.registers p.state.memory))
    stopped p t number true true = (tt, tt, t)
    stopped p t number true false = (tt, tt, t)
    stopped p t number false zero-pc = (tt, tt, t)

    -- a step more
    more : (p : Point) → Tracked p → (answer : StepAnswer) → Untrapped (stepped_to answer) → (rest : Ran × List ℕ) → RunSound (point_after g p) rest →
        RunSound p (after_step answer p.state.registers p.state.memory rest)
    more p t Step.Made u rest h = rw add-one ((step_sound p t, h.0), h.1, h.2)
    more p t Step.Finished u rest h = (tt, tt, t)
    more p t (Step.Trap number) u rest h = absurd u
    more p t (Step.Refused number) u rest h = (tt, tt, t)

    pub run_sound : (budget : ℕ) (p : Point) → Tracked p → RunSound p (ran budget g.image g.limits p.state.registers p.state.memory)
    unfolding ran no_steps_left
    run_sound zero p t =
        let number = step_refusal g.image g.limits p.state.memory in
        stopped p t number (eqb number 0) (eqb p.state.registers.pc 0)
    run_sound (suc budget) p t =
        let s = stepped g.image g.limits p.state.registers p.state.memory in
        more p t s.0.answer (stepping p t).untrapped (ran budget g.image g.limits s.0.registers s.1)
        (run_sound budget (point_after g p) (step_tracked p t))

  call_sound : (c : Request) → Allowed (record { image = image; limits = limits }) c → (p : Point) → Tracked p →
      All Sound (moments_of c p) × Tracked (point_of c p)
  call_sound (step g) allowed p t = ((step_sound g allowed p t, tt), step_tracked g allowed p t)
  call_sound (run g budget) allowed p t =
      let h = run_sound g allowed budget p t in
      let steps = (ran budget g.image g.limits p.state.registers p.state.memory).0.steps in
      (all_append Sound (steps_from g steps p) _ h.0 (record { tracked = h.2; untrapped = h.1; met = tt }, tt), h.2)

  list_sound : (calls : List Request) → All (Allowed (record { image = image; limits = limits })) calls → (p : Point) → Tracked p →
      All Sound (history_from calls p)
  list_sound [] allowed p t = tt
  list_sound (c ∷ calls) allowed p t =
      let h = call_sound c allowed.0 p t in
      all_append Sound (moments_of c p) _ h.0 (list_sound calls allowed.1 (point_of c p) h.1)

  -- so every state of a history from a good point is sound
  history_sound : (p : Point) → Tracked p → (calls : List Request) → All (Allowed (record { image = image; limits = limits })) calls →
      All Sound (history calls p)
  history_sound p t calls allowed = (record { tracked = t; untrapped = tt; met = tt }, list_sound calls allowed p t)

  -- there the claim holds
  holds : (m : Moment) → Sound m → Holds image limits (reported_need image need) before m
  holds m s = go s.tracked.good
    where
      go : GoodPoint image limits depth m.point → Holds image limits (reported_need image need) before m
      go (running y h) =
          let room = room_here image limits depth need code y in
          let unreturned = y.unreturned in
          record {
            untrapped = s.untrapped;
            stands = inl y.at;
            finished = λ e. absurd (on_code image limits depth need code y e);
            only_then = λ e. let z : ◌≡◌ {A = ℕ} 0 1 = cc in absurd (omega arith);
            returned = s.met;
            unchanged = s.tracked.kept;
            in_stack = omega arith;
            in_use = omega arith;
          }
      go (finished y) =
          record {
            untrapped = s.untrapped;
            stands = inr y.here;
            finished = λ e. y.returned;
            only_then = λ e. y.here;
            returned = s.met;
            unchanged = s.tracked.kept;
            in_stack = omega (arith, y.top);
            in_use = omega (arith, y.top);
          }

  -- every state of it is a good point, and the guarantee holds
  pub good_history : (p : Point) → Tracked p → (calls : List Request) → All (Allowed (record { image = image; limits = limits })) calls →
      All (λ (m : Moment). GoodPoint image limits depth m.point) (history calls p)
  good_history p t calls allowed = all_map (λ m s. s.tracked.good) (history calls p) (history_sound p t calls allowed)

  pub from_good : (p : Point) → Tracked p → (calls : List Request) → All (Allowed (record { image = image; limits = limits })) calls →
      All (Holds image limits (reported_need image need) before) (history calls p)
  from_good p t calls allowed = all_map holds (history calls p) (history_sound p t calls allowed)
