-- Starting: 17, then the whole check; accepted, 00 in the top two stack bytes, SP two below stack high and PC at main.
use Rattle.std.specs.Prelude.{Ok, Err, ℕ, ◌+◌, ◌-◌, cond, List, [], ◌∷◌, eqb, length}
use Rattle.std.proofs.lemmas.List.Edits.{sets}
use Rattle.image.specs.declared.Limits.{Limits}
use Rattle.image.specs.Image.{base_of, start_of, main_of}
use Rattle.acceptance.specs.Check.{checked}
use Rattle.rules.specs.Verdict.{Verdict}
use Rattle.rules.specs.Verdict.{Accepted, Refused}
use Rattle.execution.specs.declared.Registers.{Registers}
use Rattle.gate.specs.declared.Started.{Started}

-- all registers 0
abbrev pub zeros : Registers
zeros = record { a = 0; x = 0; y = 0; cc = 0; sp = 0; pc = 0 }

-- the registers that an accepted start leaves, with the caller's A, X, Y and CC
abbrev pub begun : List ℕ → Limits → ℕ → ℕ → ℕ → ℕ → Registers
begun image limits a x y cc =
    record { a = a; x = x; y = y; cc = cc; sp = limits.stack.high - 2; pc = base_of image + start_of image (main_of image) }

abbrev pub cleared : Limits → List ℕ → List ℕ
cleared limits memory = sets memory (limits.stack.high - 1) (0 ∷ 0 ∷ [])

-- what starting answers, with the marks and the memory after it
pub record Result : Type 0 where
  pub started : Started
  pub marks : List ℕ
  pub memory : List ℕ

abbrev pub by_verdict : Verdict → List ℕ → Limits → List ℕ → List ℕ → ℕ → ℕ → ℕ → ℕ → Result
by_verdict (Err refused) image limits marks memory a x y cc =
    record { started = record { verdict = Err refused; registers = zeros }; marks = marks; memory = memory }
by_verdict (Ok accepted) image limits marks memory a x y cc =
    record {
      started = record { verdict = Ok accepted; registers = begun image limits a x y cc };
      marks = marks;
      memory = cleared limits memory;
    }

unfoldable pub started : List ℕ → Limits → List ℕ → List ℕ → ℕ → ℕ → ℕ → ℕ → Result
started image limits marks memory a x y cc =
    let c = checked image limits marks in
    cond (eqb (length memory) 32768)
    (by_verdict c.0 image limits c.1 memory a x y cc)
    (by_verdict (Refused 17 0) image limits marks memory a x y cc)
