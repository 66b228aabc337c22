-- Exploring the control flow of a routine: each reached offset once, with the depth of a path to it.
use Rattle.std.specs.Prelude.{ℕ, zero, suc, ◌+◌, ◌-◌, ◌*◌, Bool, true, false, cond, List, map, eqb, get_or, set, replicate}
use Rattle.numbers.specs.Folds.{total}
use Rattle.control_flow.specs.Graph.{Graph}

-- the depths so far, each above or below the bias that stands for depth 0, and 0 where none is known; what is still to be visited; and whether every
-- edge so far agrees with the depths
pub record Exploration : Type 0 where
  pub depths : List ℕ
  pub stack : List ℕ
  pub height : ℕ
  pub agree : Bool

-- one edge is followed to a target at a depth: a target that has none yet gets it and is to be visited
abbrev pub arrived : ℕ → ℕ → Exploration → Exploration
arrived t depth s =
    cond (eqb (get_or s.depths t 0) 0)
    (record { depths = set s.depths t depth; stack = set s.stack s.height t; height = s.height + 1; agree = s.agree })
    (cond (eqb (get_or s.depths t 0) depth) s
    (record { depths = s.depths; stack = s.stack; height = s.height; agree = false }))

abbrev pub follow : ℕ → ℕ → Exploration → Exploration
follow zero depth s = s
follow (suc t) depth s = arrived t depth s

abbrev pub visit : Graph → ℕ → Exploration → Exploration
visit g o s =
    let depth = get_or s.depths o 0 + g.pushes o - g.pops o in
    follow (g.jumps o) depth (follow (g.falls o) depth s)

-- the last offset that is to be visited, and the rest of them
abbrev pub top : Exploration → ℕ
top s = get_or s.stack (s.height - 1) 0

abbrev pub pop_top : Exploration → Exploration
pop_top s = record { depths = s.depths; stack = s.stack; height = s.height - 1; agree = s.agree }

unfoldable pub explore_from : ℕ → Graph → Exploration → Exploration
explore_from zero g s = s
explore_from (suc fuel) g s = cond (eqb s.height 0) s (explore_from fuel g (visit g (top s) (pop_top s)))

-- no instruction at these starts moves the depth by more; and more than 4,097 of them do together
unfoldable pub most_moved : Graph → List ℕ → ℕ
most_moved g starts = total (map (λ o. g.pops o + g.pushes o) starts)

unfoldable pub bias_for : Graph → List ℕ → ℕ
bias_for g starts = most_moved g starts * 4097 + 1

-- from the entry, at depth 0
unfoldable pub explored : Graph → ℕ → Exploration
explored g bias =
    explore_from 4096 g
    (record {
      depths = set (replicate 4096 0) g.entry bias;
      stack = set (replicate 4096 0) 0 g.entry;
      height = 1;
      agree = true;
    })
