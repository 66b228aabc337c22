-- The one outcome of a check, as a function. Nobody has to believe it: rules/specs/Outcome.antt says what the outcome is, and proofs/ that it is this.
use Rattle.std.specs.Prelude.{ℕ, zero, suc, ◌+◌, ◌-◌, max, cond, eqb, ltb, length, get_or, set, drop, replicate}
use mathlib.Core.List.{List, [], ◌∷◌, ◌++◌, foldr, map}
use Rattle.image.specs.declared.Limits.{Limits}
use Rattle.image.specs.Validated.{Validated}
use Rattle.image.specs.Validated as Validated
use Rattle.image.specs.Validation.{validated}
use Rattle.image.specs.Image.{count_of, size_of, start_of, end_of}
use Rattle.rules.specs.Rules.{reported_need}
use Rattle.code.specs.Code.{instruction_at}
use Rattle.code.specs.Instructions.{starts_of}
use Rattle.rules.specs.Verdict.{Verdict}
use Rattle.rules.specs.Verdict.{Accepted, Refused}
use Rattle.control_flow.specs.Graph.{cells}
use Rattle.control_flow.specs.Routine.{jump_check, depth_check, count_from}
use Rattle.control_flow.specs.Measuring.{use_at}
use Rattle.acceptance.specs.Passed.{need_in}
use Rattle.acceptance.specs.Starts.{code_number, cells_of}
use Rattle.acceptance.specs.Exploration.{Exploration, bias_for, explored}

-- the number and the offset of a refusal; number 0: none
pub record Refusing : Type 0 where
  pub number : ℕ
  pub at : ℕ

abbrev pub nowhere : Refusing
nowhere = record { number = 0; at = 0 }

-- the first of these offsets at which a check fails
unfoldable pub first_at : (ℕ → ℕ) → List ℕ → Refusing
first_at check [] = nowhere
first_at check (o ∷ rest) = cond (eqb (check o) 0) (first_at check rest) (record { number = check o; at = o })

abbrev pub or_else : Refusing → Refusing → Refusing
or_else a b = cond (eqb a.number 0) b a

-- the depths of a routine
unfoldable pub bias_of : List ℕ → Limits → ℕ → ℕ
bias_of image limits r = bias_for (cells_of image limits r).graph (starts_of image r)

unfoldable pub explored_in : List ℕ → Limits → ℕ → Exploration
explored_in image limits r = explored (cells_of image limits r).graph (bias_of image limits r)

-- 6
abbrev pub reach_number : List ℕ → ℕ → ℕ
reach_number depths o = cond (eqb (get_or depths o 0) 0) 6 0

-- 13, 10; 6; 7; 11, 12, 14
unfoldable pub flow_refusing : List ℕ → Limits → ℕ → Refusing
flow_refusing image limits r =
    let x = cells_of image limits r in
    let starts = starts_of image r in
    let e = explored_in image limits r in
    or_else (first_at (jump_check x) starts)
    (or_else (first_at (reach_number e.depths) starts)
    (or_else (cond e.agree nowhere (record { number = 7; at = start_of image r }))
    (first_at (depth_check x (bias_of image limits r) (cells e.depths)) starts)))

-- 8, 9, 15, and then the others
unfoldable pub routine_refusing : List ℕ → Limits → ℕ → Refusing
routine_refusing image limits r =
    or_else (first_at (λ o. code_number (end_of image r) o (instruction_at image r o)) (starts_of image r)) (flow_refusing image limits r)

-- the greatest number of stack bytes that an instruction has the routine use
abbrev pub routine_need : List ℕ → Limits → ℕ → List ℕ → ℕ
routine_need image limits r needs =
    foldr max 0 (map (use_at (cells_of image limits r) needs (bias_of image limits r) (cells (explored_in image limits r).depths)) (starts_of image r))

-- the state between routines: the first refusal, the needs of the routines that are done, their marks, and how many starts they have
pub record Sweeping : Type 0 where
  pub refusal : Refusing
  pub needs : List ℕ
  pub marks : List ℕ
  pub count : ℕ

-- each start's mark holds depth + 1
abbrev pub mark_all : ℕ → List ℕ → List ℕ → List ℕ → List ℕ
mark_all bias depths marks starts = foldr (λ o so_far. set so_far o (get_or depths o 0 - bias + 1)) marks starts

-- after a routine that passes
abbrev pub passed_by : List ℕ → Limits → ℕ → Sweeping → Sweeping
passed_by image limits r s =
    record {
      refusal = nowhere;
      needs = set s.needs r (routine_need image limits r s.needs);
      marks = mark_all (bias_of image limits r) (explored_in image limits r).depths s.marks (starts_of image r);
      count = s.count + count_from (cells_of image limits r).starts (start_of image r) (end_of image r - start_of image r);
    }

-- n routines from r on, to the first that is refused
unfoldable pub routines_from : ℕ → List ℕ → Limits → ℕ → Sweeping → Sweeping
routines_from zero image limits r s = s
routines_from (suc n) image limits r s =
    let refusing = routine_refusing image limits r in
    cond (eqb refusing.number 0)
    (routines_from n image limits (r + 1) (passed_by image limits r s))
    (record { refusal = refusing; needs = s.needs; marks = s.marks; count = s.count })

-- all routines, over marks that are all 0
unfoldable pub swept : List ℕ → Limits → Sweeping
swept image limits =
    routines_from (count_of image) image limits 0
    (record { refusal = nowhere; needs = replicate 32 0; marks = replicate (size_of image) 0; count = 0 })

-- 16 comes last; after refusals 6 to 16 all code marks are 0
abbrev pub refused_code : List ℕ → ℕ → ℕ → Verdict × List ℕ
refused_code image number at = (Refused number at, replicate (size_of image) 0)

unfoldable pub code_checked : List ℕ → Limits → Verdict × List ℕ
code_checked image limits =
    let s = swept image limits in
    let need = reported_need image (need_in s.needs) in
    cond (eqb s.refusal.number 0)
    (cond (ltb (limits.stack.high + 1) (limits.stack.low + need)) (refused_code image 16 0) (Accepted need s.count, s.marks))
    (refused_code image s.refusal.number s.refusal.at)

-- after 1 to 5 no mark changes; cells past the code never change
abbrev pub validated_checked : List ℕ → Limits → List ℕ → Validated → Verdict × List ℕ
validated_checked image limits marks (Validated.Refused number) = (Refused number 0, marks)
validated_checked image limits marks (Validated.Valid layout) =
    cond (ltb (length marks) layout.size) (Refused 5 0, marks)
    ((code_checked image limits).0, (code_checked image limits).1 ++ drop layout.size marks)

-- the verdict, and the marks as the check leaves them
unfoldable pub checked : List ℕ → Limits → List ℕ → Verdict × List ℕ
checked image limits marks = validated_checked image limits marks (validated image limits)
