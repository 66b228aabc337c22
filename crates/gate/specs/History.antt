-- A list of steps and runs, the book of calls that says which call a return belongs to, and the history of a list.
use Rattle.std.specs.Prelude.{ℕ, zero, suc, ◌+◌, ◌-◌, Bool, true, false, cond, List, [], ◌∷◌, ◌++◌, eqb, Ok, Err}
use Rattle.std.proofs.Math.Option.{Option, none, some}
use Rattle.stm8.specs.Decoding.{Decoded}
use Rattle.stm8.specs.Effects.{effect}
use Rattle.stm8.specs.declared.Flow.{Flow}
use Rattle.stm8.specs.declared.Flow.TheVariants.{Next, Branch, Jump, Call, CallRelative, Return}
use Rattle.image.specs.declared.Limits.{Limits}
use Rattle.image.specs.Image.{base_of}
use Rattle.code.specs.Code.{instruction_in}
use Rattle.machine.specs.Step.{pc_trap, step_refusal, stepped}
use Rattle.machine.specs.Run.{ran}
use Rattle.execution.specs.declared.Registers.{Registers}
use Rattle.execution.specs.declared.StepAnswer.{StepAnswer}
use Rattle.machine.specs.declared.RunAnswer.{RunAnswer}
use Rattle.gate.specs.Start.{Result}

-- the registers and the memory between two calls
pub record State : Type 0 where
  pub registers : Registers
  pub memory : List ℕ

-- an image and limits, as a call is given them
pub record Given : Type 0 where
  pub image : List ℕ
  pub limits : Limits

-- each call is a step or a run with its budget
pub data Request : Type 0 where
  step : Given → Request
  run : Given → ℕ → Request

abbrev pub given_to : Request → Given
given_to (step g) = g
given_to (run g budget) = g

-- The book of calls: the addresses, the last one first, and whether main has returned.
pub record Book : Type 0 where
  pub addresses : List ℕ
  pub returned : Bool

abbrev pub empty_book : Book
empty_book = record { addresses = []; returned = false }

-- CALL or CALLR: put the address after it at the end of the book. RET: take the last address off; with the book empty, main has returned.
abbrev pub taken_off : List ℕ → Bool → Book
taken_off [] returned = record { addresses = []; returned = true }
taken_off (address ∷ rest) returned = record { addresses = rest; returned = returned }

abbrev pub fed_flow : Flow → ℕ → Book → Book
fed_flow Next next book = book
fed_flow (Branch n) next book = book
fed_flow (Jump n) next book = book
fed_flow (Call a) next book = record { addresses = next ∷ book.addresses; returned = book.returned }
fed_flow (CallRelative n) next book = record { addresses = next ∷ book.addresses; returned = book.returned }
fed_flow Return next book = taken_off book.addresses book.returned

-- After RET, PC must be the address taken off; with the book empty, 000000.
abbrev pub last_of : List ℕ → ℕ
last_of [] = 0
last_of (address ∷ rest) = address

abbrev pub owed_flow : Flow → Book → Option ℕ
owed_flow Next book = none
owed_flow (Branch n) book = none
owed_flow (Jump n) book = none
owed_flow (Call a) book = none
owed_flow (CallRelative n) book = none
owed_flow Return book = some (last_of book.addresses)

-- Where the step is not refused and PC is not 0, take the instruction in the code at PC: its flow, and the address after it.
pub data Fed : Type 0 where
  nothing : Fed
  flow : Flow → ℕ → Fed

abbrev pub flow_in : ℕ → Decoded → Fed
flow_in pc (Ok (i, n)) = flow (effect i).flow (pc + n)
flow_in pc (Err e) = nothing

unfoldable pub fed_to : Given → State → Fed
fed_to g s =
    let pc = s.registers.pc in
    cond (eqb (step_refusal g.image g.limits s.memory) 0)
    (cond (eqb pc 0) nothing
    (cond (eqb (pc_trap g.image pc) 0) (flow_in pc (instruction_in g.image (pc - base_of g.image))) nothing))
    nothing

abbrev pub fed : Fed → Book → Book
fed nothing book = book
fed (flow f next) book = fed_flow f next book

abbrev pub owed_by : Fed → Book → Option ℕ
owed_by nothing book = none
owed_by (flow f next) book = owed_flow f book

-- how far a list has come
pub record Point : Type 0 where
  pub state : State
  pub book : Book

-- a list begins with the registers and memory that an accepted start left, and an empty book
abbrev pub point_started : Result → Point
point_started s = record { state = record { registers = s.started.registers; memory = s.memory }; book = empty_book }

-- what a step or a run answered; at the point that a list begins with there is no answer yet
pub data Answer : Type 0 where
  initial : Answer
  stepped_to : StepAnswer → Answer
  ran_to : RunAnswer → Answer

-- a state of the history: the answer, where PC must be if it was a RET, and the point that was left
pub record Moment : Type 0 where
  pub answer : Answer
  pub owed : Option ℕ
  pub point : Point

abbrev pub state_after : Given → State → State
state_after g s =
    let r = stepped g.image g.limits s.registers s.memory in
    record { registers = r.0.registers; memory = r.1 }

abbrev pub point_after : Given → Point → Point
point_after g p = record { state = state_after g p.state; book = fed (fed_to g p.state) p.book }

abbrev pub moment_after : Given → Point → Moment
moment_after g p =
    record {
      answer = stepped_to (stepped g.image g.limits p.state.registers p.state.memory).0.answer;
      owed = owed_by (fed_to g p.state) p.book;
      point = point_after g p;
    }

-- n single steps, one by one: their states, and how far they come
abbrev pub steps_from : Given → ℕ → Point → List Moment
steps_from g zero p = []
steps_from g (suc n) p = moment_after g p ∷ steps_from g n (point_after g p)

abbrev pub after_steps : Given → ℕ → Point → Point
after_steps g zero p = p
after_steps g (suc n) p = after_steps g n (point_after g p)

-- a run leaves what its definition says, and its book is that of the steps it makes
abbrev pub ran_point : Given → ℕ → Point → Point
ran_point g budget p =
    let r = ran budget g.image g.limits p.state.registers p.state.memory in
    record { state = record { registers = r.0.registers; memory = r.1 }; book = (after_steps g r.0.steps p).book }

abbrev pub point_of : Request → Point → Point
point_of (step g) p = point_after g p
point_of (run g budget) p = ran_point g budget p

-- the states inside a call and after it: of a run, after each single step that it makes, and its own end
abbrev pub moments_of : Request → Point → List Moment
moments_of (step g) p = moment_after g p ∷ []
moments_of (run g budget) p =
    let r = ran budget g.image g.limits p.state.registers p.state.memory in
    steps_from g r.0.steps p ++ record { answer = ran_to r.0.answer; owed = none; point = ran_point g budget p } ∷ []

-- the history of a list, from a point
abbrev pub history_from : List Request → Point → List Moment
history_from [] p = []
history_from (c ∷ calls) p = moments_of c p ++ history_from calls (point_of c p)

-- with the point itself as its first state
abbrev pub history : List Request → Point → List Moment
history calls p = record { answer = initial; owed = none; point = p } ∷ history_from calls p

-- how many states a call has: a step one, a run one for each step that it makes and one for its end; and a list of calls, all that they have
abbrev pub states_of : Request → Point → ℕ
states_of (step g) p = 1
states_of (run g budget) p = (ran budget g.image g.limits p.state.registers p.state.memory).0.steps + 1

abbrev pub states : List Request → Point → ℕ
states [] p = 0
states (c ∷ calls) p = states_of c p + states calls (point_of c p)
