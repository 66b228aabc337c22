-- `turns::summing::count_at` meets its contract.
use mathlib.Core.Path.{sym, ◌∙◌}
use native.Mathlib.Omega.{arith}
use Rattle.decode_pass.proofs.DecodePass.{decoded_there}
use Rattle.turns.proofs.RoutineSums.{count_none, count_back, count_one}
use Rattle.turns.proofs.summing.count_at.Goals as goal

pub returns-in_default : goal.returns-in_default
returns-in_default c = record {
  ahead = (c.requires.0, omega arith, omega arith);
  counted = λ image before given cells.
      let is = decoded_there _ given (c.decode_at.ensures.of_image image given.routine.version_is given.own) in
      count_none (sym is ∙ c.in_default.is) given.routine.end_is;
}

pub callee_turn-requires : goal.callee_turn-requires
callee_turn-requires c = (c.requires.2, c.requires.3)

pub returns-then-goes_back-clause-counted : goal.returns-then-goes_back-clause-counted
returns-then-goes_back-clause-counted c image before given cells =
    let is = decoded_there _ given (c.decode_at.ensures.of_image image given.routine.version_is given.own) in
    count_back (sym is ∙ c.in-Ok.is) c.effect_of-flow.ensures (c.from.ensures ∙ given.routine.base_is) c.goes_back.ensures c.if-goes_back.true

-- an instruction ends at the routine's end or before
pub returns : goal.returns
returns c =
    let bytes = c.decode_at.ensures.ends_within _ _ c.in-Ok.is in record {
      ahead = (omega (arith, bytes.0), bytes.1, omega (arith, c.callee_turn.ensures.upper_bound));
      counted = λ image before given cells.
          let is = decoded_there _ given (c.decode_at.ensures.of_image image given.routine.version_is given.own) in
          count_one (sym is ∙ c.in-Ok.is) c.effect_of-flow.ensures (c.from.ensures ∙ given.routine.base_is) c.goes_back.ensures c.if-goes_back.false
          (c.callee_turn.ensures.turn image before given.routine given.earlier cells);
    }
