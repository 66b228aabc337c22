-- `machine::running::run_valid` meets its contract. The loop's invariant: the steps made and then a run with the steps left are the whole run, and so are
-- the cycles counted, at most four a step.
use Prim.Native.Nat.{◌+◌, ◌-◌, ◌*◌, ◌≤◌}
use mathlib.Core.Path.{◌≡◌}
use lib.ListN.{length}
use Rattle.machine.specs.Run.{more_steps, ran}
use Rattle.machine.specs.Cycles.{run_cycles}
use Rattle.machine.proofs.running.run_valid.Given as goal

abbrev pub invariant-loop-steps : goal.invariant-loop-steps
invariant-loop-steps l =
    record {
      size : length l.memory ≡ length l.initial.memory;
      run : more_steps l.steps (ran (l.budget - l.steps) l.image l.limits l.registers l.memory) ≡ ran l.budget l.image l.limits l.initial.registers l.initial.memory;
      counted : l.cycles + run_cycles (l.budget - l.steps) l.image l.limits l.registers l.memory ≡ run_cycles l.budget l.image l.limits l.initial.registers l.initial.memory;
      few : l.cycles ≤ 4 * l.steps;
    }
