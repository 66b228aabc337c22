-- The cases that document 01 marks with ●, in its order, as W-202 has them, and W-202's, W-205's, W-212's and W-206's own: one table. What it expects is held
-- against the definitions that the contracts of `check` and `step` cite.
use Rattle.std.specs.Prelude.{ℕ, List, [], ◌∷◌, ◌++◌, length, replicate}
use Rattle.numbers.specs.Ascii.{ascii}
use Rattle.numbers.specs.Words.{high, low}
use Rattle.image.specs.Image.{size_of}
use Rattle.image.specs.declared.Area.{Area}
use Rattle.image.specs.declared.Limits.{Limits}
use Rattle.acceptance.specs.Check.{checked}
use Rattle.rules.specs.Verdict.{Verdict}
use Rattle.rules.specs.Verdict.{Accepted, Refused}
use Rattle.execution.specs.Performing.{Result, result}
use Rattle.machine.specs.Step.{stepped}
use Rattle.machine.specs.Cycles.{step_cycles}
use Rattle.execution.specs.declared.Registers.{Registers}
use Rattle.execution.specs.declared.StepAnswer.TheVariants.{Made, Trap}

-- Examples use grant 0000-00FF, stack 0300-03FF, no second grant,
abbrev pub limits_with : (stack_low : ℕ) (second : Area) → Limits
limits_with stack_low second = record { grant = record { low = 0x0000; high = 0x00FF }; stack = record { low = stack_low; high = 0x03FF }; second = second }

abbrev pub stack_from : ℕ → Limits
stack_from low = limits_with low (record { low = 0xFFFF; high = 0x0000 })

abbrev pub usual : Limits
usual = stack_from 0x0300

abbrev pub second_grant : ℕ → ℕ → Limits
second_grant low high = limits_with 0x0300 (record { low = low; high = high })

-- 16 bits each, high byte first
abbrev pub words : List ℕ → List ℕ
words [] = []
words (w ∷ rest) = high w ∷ low w ∷ words rest

-- base 8000
abbrev pub image_in : (version : ℕ) → List ℕ → List ℕ → List ℕ
image_in version lengths code = ascii "SLU" ++ words (version ∷ 0x8000 ∷ []) ++ length lengths ∷ (words lengths ++ code)

-- and one routine;
abbrev pub routine_in : (version : ℕ) → List ℕ → List ℕ
routine_in version code = image_in version (length code ∷ []) code

-- version 0001 where none is said.
abbrev pub image_of : List ℕ → List ℕ → List ℕ
image_of = image_in 0x0001

abbrev pub routine : List ℕ → List ℕ
routine = routine_in 0x0001

-- Marks hold FFFF before, one for each code byte. Memory is FE throughout: bit 0 of 0010 is clear, and a read past FFFF that was cut to 16 bits shows.
abbrev pub marks : List ℕ → List ℕ
marks image = replicate (size_of image) 0xFFFF

abbrev pub memory : List ℕ
memory = replicate 32768 0xFE

-- A, X, CC and PC; Y is 0000 and SP where starting puts it
abbrev pub registers : ℕ → ℕ → ℕ → ℕ → Registers
registers a x cc pc = record { a = a; x = x; y = 0x0000; cc = cc; sp = 0x03FD; pc = pc }

-- a case of the check: an image, limits and the verdict; or of the step: a routine's code, and the registers before and after it, or an image, the
-- registers and the trap; or of its cycles: a routine's code, the registers, and what the step costs
pub data Case : Type 0 where
  checks : List ℕ → Limits → Verdict → Case
  steps : List ℕ → Registers → Registers → Case
  traps : List ℕ → Registers → ℕ → Case
  costs : List ℕ → Registers → ℕ → Case

pub data Outcome : Type 0 where
  verdict : Verdict → Outcome
  step : Result → Outcome
  cost : ℕ → Outcome

abbrev pub outcome : Case → Outcome
outcome (checks image limits v) = verdict (checked image limits (marks image)).0
outcome (steps code before after) = step (stepped (routine code) usual before memory)
outcome (traps image before number) = step (stepped image usual before memory)
outcome (costs code before n) = cost (step_cycles (routine code) usual before memory)

abbrev pub expected : Case → Outcome
expected (checks image limits v) = verdict v
expected (steps code before after) = step (result Made after memory)
expected (traps image before number) = step (result (Trap number) before memory)
expected (costs code before n) = cost n

-- lengths 3 and 4
abbrev pub two_routines : List ℕ
two_routines = image_of (3 ∷ 4 ∷ []) (0x88 ∷ 0x84 ∷ 0x81 ∷ 0xCD ∷ 0x80 ∷ 0x00 ∷ 0x81 ∷ [])

-- lengths 1 and 3, main with a CALLR of the routine before it
abbrev pub relative_call : List ℕ
relative_call = 0x81 ∷ 0xAD ∷ 0xFD ∷ 0x81 ∷ []

-- CC reads V, the unused bit 6, I1, H, I0, N, Z, C. Each step is made from CC all 0 and all 1: what it does not set shows in the one, what it does
-- not clear in the other.
abbrev pub cases : List Case
cases =
    -- the example of 6, start not reached: W-202 tests 15 first
    checks (routine (0x81 ∷ 0x9D ∷ [])) usual (Refused 15 1) ∷
    -- 7, depths disagree, at the routine's first byte
    checks (routine (0x27 ∷ 0x01 ∷ 0x88 ∷ 0x81 ∷ [])) usual (Refused 7 0) ∷
    -- 10, jump into an instruction, at the jump
    checks (routine (0x27 ∷ 0x01 ∷ 0xA6 ∷ 0x00 ∷ 0x81 ∷ [])) usual (Refused 10 0) ∷
    -- W-202: a loop tested at the bottom is accepted with need 2 and count 4
    checks (routine (0x20 ∷ 0x01 ∷ 0x4A ∷ 0x26 ∷ 0xFD ∷ 0x81 ∷ [])) usual (Accepted 2 4) ∷
    -- 11, depth leaves 0 to 255, or RET above 0
    checks (routine (0x84 ∷ 0x81 ∷ [])) usual (Refused 11 0) ∷
    -- 12, store not allowed
    checks (routine (0xC7 ∷ 0x01 ∷ 0x00 ∷ 0x81 ∷ [])) usual (Refused 12 0) ∷
    -- 14, call not to an earlier routine
    checks (routine (0xCD ∷ 0x80 ∷ 0x00 ∷ 0x81 ∷ [])) usual (Refused 14 0) ∷
    -- 16, stack area below reported need
    checks (routine (0x81 ∷ [])) (stack_from 0x03FF) (Refused 16 0) ∷
    -- lengths 3 and 4: need 5, count 5; stack 03FB-03FF accepts, 03FC-03FF gives 16
    checks two_routines usual (Accepted 5 5) ∷
    checks two_routines (stack_from 0x03FB) (Accepted 5 5) ∷
    checks two_routines (stack_from 0x03FC) (Refused 16 0) ∷
    -- W-205: a word over the seam of two grants, and its two bytes one by one
    checks (routine (0xCF ∷ 0x00 ∷ 0xFF ∷ 0x81 ∷ [])) (second_grant 0x0100 0x01FF) (Refused 12 0) ∷
    checks (routine (0xC7 ∷ 0x00 ∷ 0xFF ∷ 0xC7 ∷ 0x01 ∷ 0x00 ∷ 0x81 ∷ [])) (second_grant 0x0100 0x01FF) (Accepted 2 3) ∷
    -- low above high means none
    checks (routine (0xC7 ∷ 0x02 ∷ 0x05 ∷ 0x81 ∷ [])) (second_grant 0x0205 0x0204) (Refused 12 0) ∷
    -- a second grant that meets the stack, and one above 7FFF
    checks (routine (0x81 ∷ [])) (second_grant 0x0100 0x0300) (Refused 1 0) ∷
    checks (routine (0x81 ∷ [])) (second_grant 0x4000 0x8000) (Refused 1 0) ∷
    -- W-212: 3, version neither 0001 nor 0002
    checks (routine_in 0x0003 (0x81 ∷ [])) usual (Refused 3 0) ∷
    checks (routine_in 0x0002 (0x81 ∷ [])) usual (Accepted 2 1) ∷
    -- the same code with CALLR in both versions; a step at it in 0002, and in both where its last byte is missing
    checks (image_in 0x0001 (1 ∷ 3 ∷ []) relative_call) usual (Accepted 4 3) ∷
    checks (image_in 0x0002 (1 ∷ 3 ∷ []) relative_call) usual (Refused 8 1) ∷
    traps (image_in 0x0002 (1 ∷ 3 ∷ []) relative_call) (registers 0x00 0x0000 0b0000_0000 0x8001) 23 ∷
    traps (routine_in 0x0001 (0xAD ∷ [])) (registers 0x00 0x0000 0b0000_0000 0x8000) 22 ∷
    traps (routine_in 0x0002 (0xAD ∷ [])) (registers 0x00 0x0000 0b0000_0000 0x8000) 23 ∷
    -- AD as a routine's last byte: 9, and 8
    checks (routine_in 0x0001 (0xAD ∷ [])) usual (Refused 9 0) ∷
    checks (routine_in 0x0002 (0xAD ∷ [])) usual (Refused 8 0) ∷
    -- ADD A,#$94 with A B5: A 49, V 1, H 0, N 0, Z 0, C 1
    steps (0xAB ∷ 0x94 ∷ []) (registers 0xB5 0x0000 0b0000_0000 0x8000) (registers 0x49 0x0000 0b1000_0001 0x8002) ∷
    steps (0xAB ∷ 0x94 ∷ []) (registers 0xB5 0x0000 0b1111_1111 0x8000) (registers 0x49 0x0000 0b1110_1001 0x8002) ∷
    -- NEG A with 80: 80, V 1, N 1, C 1
    steps (0x40 ∷ []) (registers 0x80 0x0000 0b0000_0000 0x8000) (registers 0x80 0x0000 0b1000_0101 0x8001) ∷
    steps (0x40 ∷ []) (registers 0x80 0x0000 0b1111_1111 0x8000) (registers 0x80 0x0000 0b1111_1101 0x8001) ∷
    -- MUL X,A with X 12FF, A FF: X FE01, H 0, C 0
    steps (0x42 ∷ []) (registers 0xFF 0x12FF 0b0000_0000 0x8000) (registers 0xFF 0xFE01 0b0000_0000 0x8001) ∷
    steps (0x42 ∷ []) (registers 0xFF 0x12FF 0b1111_1111 0x8000) (registers 0xFF 0xFE01 0b1110_1110 0x8001) ∷
    -- 72 01 00 10 FB at 8000, bit 0 of 0010 clear: PC 8000, C 0
    steps (0x72 ∷ 0x01 ∷ 0x00 ∷ 0x10 ∷ 0xFB ∷ []) (registers 0x00 0x0000 0b0000_0000 0x8000) (registers 0x00 0x0000 0b0000_0000 0x8000) ∷
    steps (0x72 ∷ 0x01 ∷ 0x00 ∷ 0x10 ∷ 0xFB ∷ []) (registers 0x00 0x0000 0b1111_1111 0x8000) (registers 0x00 0x0000 0b1111_1110 0x8000) ∷
    -- E6 20 with X FFF0: A 00, Z 1
    steps (0xE6 ∷ 0x20 ∷ []) (registers 0xAA 0xFFF0 0b0000_0000 0x8000) (registers 0x00 0xFFF0 0b0000_0010 0x8002) ∷
    steps (0xE6 ∷ 0x20 ∷ []) (registers 0xAA 0xFFF0 0b1111_1111 0x8000) (registers 0x00 0xFFF0 0b1111_1011 0x8002) ∷
    -- W-206: JREQ not taken, and taken to the next address; JRF and JRA
    costs (0x27 ∷ 0x00 ∷ []) (registers 0x00 0x0000 0b0000_0000 0x8000) 1 ∷
    costs (0x27 ∷ 0x00 ∷ []) (registers 0x00 0x0000 0b0000_0010 0x8000) 2 ∷
    costs (0x21 ∷ 0x10 ∷ []) (registers 0x00 0x0000 0b1111_1111 0x8000) 1 ∷
    costs (0x20 ∷ 0x10 ∷ []) (registers 0x00 0x0000 0b0000_0000 0x8000) 2 ∷
    -- BTJT and BTJF with bit 0 of 0010 clear
    costs (0x72 ∷ 0x00 ∷ 0x00 ∷ 0x10 ∷ 0x00 ∷ []) (registers 0x00 0x0000 0b0000_0000 0x8000) 2 ∷
    costs (0x72 ∷ 0x01 ∷ 0x00 ∷ 0x10 ∷ 0x00 ∷ []) (registers 0x00 0x0000 0b0000_0000 0x8000) 3 ∷
    -- INCW X and SUB SP, where the summary has 2; ADDW SP, here with SP at 03FD
    costs (0x5C ∷ []) (registers 0x00 0x0000 0b0000_0000 0x8000) 1 ∷
    costs (0x52 ∷ 0x01 ∷ []) (registers 0x00 0x0000 0b0000_0000 0x8000) 1 ∷
    costs (0x5B ∷ 0x02 ∷ []) (registers 0x00 0x0000 0b0000_0000 0x8000) 2 ∷
    -- a trap, 24, and a finished step
    costs (0x5B ∷ 0x03 ∷ []) (registers 0x00 0x0000 0b0000_0000 0x8000) 0 ∷
    costs (0x81 ∷ []) (registers 0x00 0x0000 0b0000_0000 0x0000) 0 ∷
    []
