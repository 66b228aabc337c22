-- `checker::sweep::check_routine` meets its contract.
use Rattle.std.proofs.Common.{refl, Result, Ok, Err, OnOk}
use Rattle.std.proofs.lemmas.Result.{err_from_is_err_and}
use Rattle.acceptance.proofs.OneRoutine.{filled_checked}
use Rattle.checker.proofs.Routines.{code_given, decode_refused, decode_filled, checkable, clean_after, enough_marks, few_starts}
use Rattle.checker.proofs.sweep.check_routine.Goals as goal

on_ok : {T E P : Type 0} (r : Result T E) → P → OnOk r P
on_ok (Ok x) p = p
on_ok (Err e) p = tt

-- the decode pass is given the routine, with the code as it was cut out
pub returns-in_err-decode_routine : goal.returns-in_err-decode_routine
returns-in_err-decode_routine c =
    let given = code_given c.code_at-code.ensures.value c.requires.0 c.requires.1 in
    let refusal = err_from_is_err_and c.from_residual.result c.from_residual.ensures.1 in
    rw (refusal.1, refusal.2)
    (record {
      routine_checked = decode_refused c.in_err-decode_routine.field-0.0.some (c.in_err-decode_routine.ensures _ given c.requires.2.no_starts);
      clean = tt;
    })

pub returns : goal.returns
returns c =
    let given = code_given c.code_at-code.ensures.value c.requires.0 c.requires.1 in
    let f = decode_filled (c.in_ok-decode_routine.ensures _ given c.requires.2.no_starts) refl in
    let o = c.check_flow.ensures (checkable c.requires.0 c.requires.2 f.0) (enough_marks c.requires.0 c.requires.3) (few_starts c.requires.0 c.requires.3) in record {
      routine_checked = filled_checked c.requires.0.layout c.requires.0.inside f.0 c.requires.3.clear c.requires.3.counted o.0;
      clean = on_ok c.check_flow.result (clean_after c.requires.0 c.requires.2 f.0 f.1 o.1);
    }
