-- Depth, the number of stack bytes a routine has in use beyond its return address.
use Rattle.std.specs.Prelude.{ℕ, ◌+◌, ◌-◌, Bool, true, false, cond}
use Rattle.stm8.specs.declared.Effect.{Effect}
use Rattle.stm8.specs.declared.Flow.{Flow}
use Rattle.stm8.specs.declared.Flow.TheVariants.{Next, Branch, Jump, Call, CallRelative, Return}

-- A call leaves depth unchanged: what it pushes is the callee's return address, which the callee's RET pops.
abbrev pub moves_depth : Flow → Bool
moves_depth Next = true
moves_depth (Branch n) = true
moves_depth (Jump n) = true
moves_depth (Call a) = false
moves_depth (CallRelative n) = false
moves_depth Return = false

-- the bytes of the routine's own that an instruction pops and pushes
unfoldable pub popped : Effect → ℕ
popped e = cond (moves_depth e.flow) e.pops 0

unfoldable pub pushed : Effect → ℕ
pushed e = cond (moves_depth e.flow) e.pushes 0

-- depth after an instruction
unfoldable pub after : Effect → ℕ → ℕ
after e depth = depth - popped e + pushed e

-- only JRA and RET do not fall through
abbrev pub falls : Flow → Bool
falls Next = true
falls (Branch n) = true
falls (Jump n) = false
falls (Call a) = true
falls (CallRelative n) = true
falls Return = false
