-- `gate_c::gate_decode` meets its contract.
use mathlib.Core.Path.{◌≡◌, ap, ◌∙◌}
use mathlib.Core.List.{[], ◌∷◌}
use native.Mathlib.Omega.{arith}
use Rattle.stm8.specs.Decoding.{decoded}
use Rattle.cycles.specs.Timed.{with_cycles}
use Rattle.cycles.specs.declared.Timed.{Timed}
use Rattle.code.proofs.Sets.{whole_map}
use Rattle.gate_c.proofs.gate_decode.Goals as goal

pub returns : goal.returns
returns c =
    let bytes = c.args.bytes.now in
    let e = c.decode_timed_for-timed.ensures ∙ ap with_cycles (whole_map 0x0001 (λ second. omega (arith, second)) bytes) in
    let is : c.decode_timed_for-timed.result.decoded ≡ decoded bytes = ap (λ (t : Timed). t.decoded) e in record {
      value = rw (← is) c.decoding_number-number.ensures;
      text_after = rw (← is) c.put_text.ensures;
      length_after = rw (← is) (ap (λ n. n ∷ []) c.decoded_length-size.ensures);
      cycles_after = ap (λ (t : Timed). t.cycles.untaken ∷ t.cycles.taken ∷ []) e;
    }
