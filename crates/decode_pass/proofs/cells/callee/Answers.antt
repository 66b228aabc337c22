-- `decode_pass::cells::callee` meets its contract.
use Rattle.std.proofs.Common.{rules, arith, tests, nat_eq, ◌-◌, take, sym, ◌∙◌}
use Rattle.std.proofs.lemmas.Iterator.{YieldsList-from_slice}
use Rattle.std.proofs.lemmas.Iterator.Search.{position_from_yields_List}
use Rattle.decode_pass.proofs.Callees.{callee_below, callee_above, callee_found}
use Rattle.decode_pass.proofs.cells.callee.Goals as goal
use Rattle.decode_pass.proofs.cells.callee.Goals.{then-r-gt32-via-then-r-gt32, then-r-gt32-via-else-r-gt32+then-address-base}

pub returns-then-r-gt32-clause-found : goal.returns-then-r-gt32-clause-found
returns-then-r-gt32-clause-found c image few e begins =
    elim c.then-r-gt32.branch [
      | then-r-gt32-via-then-r-gt32 w ↦ absurd (omega arith)
      | then-r-gt32-via-else-r-gt32+then-address-base w ↦ sym (callee_below image _ _ _ e (omega arith))
    ]

pub returns-clause-found : goal.returns-clause-found
returns-clause-found c image few e begins =
    let begins_taken = take c.args.r c.args.begins.now in
    let ran = position_from_yields_List (λ begin. nat_eq begin (c.args.address - c.from-base.result)) _ _ c.position.result c.position.ensures.ran
    (YieldsList-from_slice begins_taken c.iter.ensures.rest) (λ x b q k. search (rules, tests)) in
    rw (ran, c.from-base.ensures) (callee_found image c.args.begins.now (c.args.address - c.args.base) c.args.r begins (omega arith) ∙
    sym (callee_above image _ _ _ e (omega arith)))
