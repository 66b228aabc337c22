-- The rules of an instruction hold of any relation of starts and depths that holds wherever another does for which they hold.
use Prim.Native.Nat.{ℕ, ◌<◌}
use mathlib.Core.Path.{◌≡◌, sym, ◌∙◌}
use mathlib.Core.List.{List}
use native.Mathlib.Omega.{arith}
use Rattle.stm8.specs.declared.Instruction.{Instruction}
use Rattle.stm8.specs.declared.Effect.{Effect}
use Rattle.image.specs.declared.Limits.{Limits}
use Rattle.code.specs.Code.{Start, begins}
use Rattle.rules.specs.Rules.{JumpRules, InstructionRules, StartAt, RoutineRulesBy, InstructionUse, before, behind, calling, Use, Greatest}

module _ {image : List ℕ} {r : ℕ} {At At' : ℕ → ℕ → Type 0} (f : (to d : ℕ) → At to d → At' to d) where
  jump_map : {address depth : ℕ} → JumpRules image r At address depth → JumpRules image r At' address depth
  jump_map j = record { to = j.to; target = j.target; low = j.low; high = j.high; lands = f _ _ j.lands }

  pub rules_map : {limits : Limits} {o depth n : ℕ} {i : Instruction} →
      InstructionRules image limits r At o depth i n → InstructionRules image limits r At' o depth i n
  rules_map h =
      record {
        pops_enough = h.pops_enough;
        depth_before = h.depth_before;
        depth_after = h.depth_after;
        return_empty = h.return_empty;
        store = h.store;
        jump = λ j. jump_map (h.jump j);
        call = λ c. h.call c;
        fall = λ t. f _ _ (h.fall t);
      }

-- what an instruction has a routine use goes by the needs of earlier routines alone
use_map : {image : List ℕ} {need need' : ℕ → ℕ} {r next depth : ℕ} {e : Effect} {v : ℕ} → ((j : ℕ) → j < r → need j ≡ need' j) →
    InstructionUse image need r next depth e v → InstructionUse image need' r next depth e v
use_map h before = before
use_map h behind = behind
use_map h (calling {callee = j} c to) = rw (h j (omega (arith, to.earlier))) (calling c to)

-- the rules of a routine go by the depths at its own starts, and its need by the needs of earlier ones too
module _ {image : List ℕ} {depth depth' : ℕ → ℕ} {r : ℕ} (deep : (o : ℕ) → Start image r o → depth o ≡ depth' o) where
  at_map : (to d : ℕ) → StartAt image depth r to d → StartAt image depth' r to d
  at_map to d a = record { start = a.start; deep = sym (deep to a.start) ∙ a.deep }

  -- by any other reach too that all its starts have
  pub routine_by : {Reach Reach' : ℕ → ℕ → Type 0} {limits : Limits} → ((o : ℕ) → Start image r o → Reach' r o) →
      RoutineRulesBy Reach image limits depth r → RoutineRulesBy Reach' image limits depth' r
  routine_by reach h =
      record {
        entry = sym (deep _ begins) ∙ h.entry;
        starts = λ {o} s.
            let g = h.starts s in
            let rules = rw (deep o s) at (rules_map at_map g.rules) in
            record { instruction = g.instruction; size = g.size; found = g.found; reached = reach o s; rules = rules };
      }

  pub routine_map : {Reach : ℕ → ℕ → Type 0} {limits : Limits} → RoutineRulesBy Reach image limits depth r → RoutineRulesBy Reach image limits depth' r
  routine_map h = routine_by (λ o s. (h.starts s).reached) h

  use_of : {need need' : ℕ → ℕ} {v : ℕ} → ((j : ℕ) → j < r → need j ≡ need' j) → Use image depth need r v → Use image depth' need' r v
  use_of same u =
      record {
        offset = u.offset;
        instruction = u.instruction;
        size = u.size;
        start = u.start;
        found = u.found;
        used = rw (deep u.offset u.start) at (use_map same u.used);
      }

pub greatest_map : {image : List ℕ} {depth depth' need need' : ℕ → ℕ} {r v : ℕ} →
    ((o : ℕ) → Start image r o → depth o ≡ depth' o) → ((j : ℕ) → j < r → need j ≡ need' j) →
    Greatest (Use image depth need r) v → Greatest (Use image depth' need' r) v
greatest_map deep same g =
    record {
      is = use_of deep same g.is;
      bounds = λ u. g.bounds (use_of (λ o s. sym (deep o s)) (λ j h. sym (same j h)) u);
    }
