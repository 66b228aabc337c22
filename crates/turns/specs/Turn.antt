-- What W-210 works out for an accepted image: none, over, or main's turn.
use Rattle.std.specs.Prelude.{Ok, Err, ℕ, zero, suc, ◌+◌, Bool, true, false, cond, List, [], ◌∷◌, ◌++◌, map, leb, ltb, get_or}
use Rattle.std.proofs.Math.Option.{Option, none, some}
use Rattle.numbers.specs.Computed.{counting}
use Rattle.numbers.specs.Folds.{total}
use Rattle.stm8.specs.Effects.{jump_target, call_target, effect}
use Rattle.image.specs.Image.{base_of, count_of, main_of}
use Rattle.image.specs.declared.Limits.{Limits}
use Rattle.code.specs.Instructions.{Located, instructions_of}
use Rattle.rules.specs.Paths.{callee}
use Rattle.rules.specs.Verdict.{Verdict}
use Rattle.acceptance.specs.Check.{checked}
use Rattle.turns.specs.declared.TurnAnswer.{TurnAnswer}
use Rattle.turns.specs.declared.TurnAnswer.TheVariants.{Refused, NoTurn, Over, Within}

-- a jump goes to its own or a lower address
abbrev pub goes_back : ℕ → Option ℕ → Bool
goes_back at none = false
goes_back at (some address) = leb address at

-- an instruction is such a jump, JRF as well as others; calls are no jumps
abbrev pub jumps_back : List ℕ → Located → Bool
jumps_back image e = goes_back (base_of image + e.offset) (jump_target (base_of image + (e.offset + e.size)) (effect e.instruction).flow)

-- some element of a list passes a test
abbrev pub some_in : {A : Type 0} → (A → Bool) → List A → Bool
some_in test [] = false
some_in test (x ∷ rest) = cond (test x) true (some_in test rest)

-- some jump of a routine does so, and some jump of any routine
abbrev pub routine_jumps_back : List ℕ → ℕ → Bool
routine_jumps_back image r = some_in (jumps_back image) (instructions_of image r)

unfoldable pub some_jumps_back : List ℕ → Bool
some_jumps_back image = some_in (routine_jumps_back image) (counting (count_of image) 0)

-- A routine's turn is the sum over its instructions of 1, plus the callee's turn at calls. Callees are earlier in the table: the turns of the routines
-- before routine r are given, in table order.
abbrev pub callee_turn : List ℕ → List ℕ → ℕ → Option ℕ → ℕ
callee_turn image turns r none = 0
callee_turn image turns r (some address) = get_or turns (callee image r address) 0

abbrev pub instruction_turn : List ℕ → List ℕ → ℕ → Located → ℕ
instruction_turn image turns r e =
    1 + callee_turn image turns r (call_target (base_of image + (e.offset + e.size)) (effect e.instruction).flow)

unfoldable pub turn_after : List ℕ → List ℕ → ℕ → ℕ
turn_after image turns r = total (map (instruction_turn image turns r) (instructions_of image r))

-- the turns of the first routines, so many of them
unfoldable pub turns_of : List ℕ → ℕ → List ℕ
turns_of image zero = []
turns_of image (suc r) = let before = turns_of image r in before ++ (turn_after image before r ∷ [])

-- the turn of a routine: a natural number, cut off nowhere
abbrev pub turn_of : List ℕ → ℕ → ℕ
turn_of image r = turn_after image (turns_of image r) r

-- None, if some jump goes to its own or a lower address; else main's turn; or over, if that is above 4,294,967,295.
abbrev pub over_or_within : ℕ → TurnAnswer
over_or_within turn = cond (ltb 4294967295 turn) Over (Within turn)

unfoldable pub answer_of : List ℕ → TurnAnswer
answer_of image = cond (some_jumps_back image) NoTurn (over_or_within (turn_of image (main_of image)))

-- It refuses as checking does, and leaves the marks as checking does.
abbrev pub by_verdict : List ℕ → Verdict → TurnAnswer
by_verdict image (Err refused) = Refused refused.number refused.offset
by_verdict image (Ok accepted) = answer_of image

unfoldable pub turned : List ℕ → Limits → List ℕ → TurnAnswer × List ℕ
turned image limits marks = let c = checked image limits marks in (by_verdict image c.0, c.1)
