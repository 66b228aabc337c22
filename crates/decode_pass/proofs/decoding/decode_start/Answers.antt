-- `decode_pass::decoding::decode_start` meets its contract.
use Rattle.std.proofs.Common.{refl, sym, ◌∙◌, arith}
use Rattle.decode_pass.proofs.DecodePass.{number_some, decoded_there, start_undecoded, start_off, start_stored}
use Rattle.decode_pass.proofs.decoding.decode_start.Goals as goal

pub returns-in_default : goal.returns-in_default
returns-in_default c = record {
  ahead = tt;
  decoded = λ image given start.
      let is = decoded_there _ given (c.decode_at-d.ensures.of_image image given.routine.version_is given.own) in
      (refl, start_undecoded start is c.in_default.is c.decoding_number.ensures);
}

pub returns-then-off_end-clause-decoded : goal.returns-then-off_end-clause-decoded
returns-then-off_end-clause-decoded c image given start =
    let is = decoded_there _ given (c.decode_at-d.ensures.of_image image given.routine.version_is given.own) in
    (refl, start_off start given.routine (sym is ∙ c.in-Ok.is) c.effect_of-e.ensures c.off_end.ensures c.if-off_end.true refl)

pub returns-clause-decoded : goal.returns-clause-decoded
returns-clause-decoded c image given start =
    let is = decoded_there _ given (c.decode_at-d.ensures.of_image image given.routine.version_is given.own) in
    start_stored start given.routine (sym is ∙ c.in-Ok.is) c.effect_of-e.ensures c.off_end.ensures c.if-off_end.false
    (c.row_of-row.ensures image given.routine given.earlier)
