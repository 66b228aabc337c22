-- Document 01's rules give the local facts that the guarantee rests on.
use Prim.Native.Nat.{ℕ, ◌<◌}
use mathlib.Core.List.{List}
use native.Mathlib.Omega.{arith}
use Rattle.numbers.specs.Lists.{Bytes}
use Rattle.numbers.proofs.Bytes.{bytes_dropped}
use Rattle.image.specs.declared.Limits.{Limits}
use Rattle.image.specs.Image.{count_of, code_of, code_at}
use Rattle.image.proofs.Layouts.{begins_before_end}
use Rattle.image.proofs.Measuring.{end_inside}
use Rattle.code.specs.Code.{Start}
use Rattle.rules.specs.Rules.{Rules}
use Rattle.code.proofs.Starts.{found_in_code, start_high}
use Rattle.gate.proofs.CheckedCode.{CheckedAt, CheckedCode}

module _ (image : List ℕ) (bytes : Bytes image) (limits : Limits) (depth need : ℕ → ℕ) (rules : Rules image limits depth need) where
  at_start : {r o : ℕ} → r < count_of image → Start image r o → CheckedAt image limits depth need r o
  unfolding code_of
  at_start {r} {o} listed start =
      let here = (rules.routines r listed).starts start in
      record {
        inside = omega (arith, start_high image r (begins_before_end image rules.layout r listed) start, end_inside image r listed);
        instruction = here.instruction;
        size = here.size;
        stands = here.found;
        found = found_in_code image r (bytes_dropped (code_at image) image bytes) (end_inside image r listed) o here.found;
        rules = here.rules;
        covered = λ u.
            (rules.needs r listed).bounds
            (record { offset = o; instruction = here.instruction; size = here.size; start = start; found = here.found; used = u });
      }

  pub rules_checked : CheckedCode image limits depth need
  rules_checked =
      record {
        areas = rules.areas;
        layout = rules.layout;
        entries = λ r listed. (rules.routines r listed).entry;
        at = at_start;
        room = rules.room;
      }
