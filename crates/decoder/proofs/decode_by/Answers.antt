-- `decoder::decode_by` meets its contract.
use mathlib.Core.Path.{sym, ◌∙◌}
use Rattle.std.proofs.lemmas.Result.{err_from_is_err_and}
use Rattle.decoder.proofs.Known.{not_found, in_map, not_in_map}
use Rattle.decoder.proofs.decode_by.Goals as goal

pub returns-in_err-found : goal.returns-in_err-found
returns-in_err-found c =
    let p = err_from_is_err_and c.from_residual.result c.from_residual.ensures.1 in
    let same = sym c.decode_any.ensures.1 ∙ c.in_err-found.was in
    rw (p.1, p.2) (sym same ∙ not_found c.args.lengths.now c.args.bytes.now c.decode_any.ensures.0 same)

pub returns-in-Err-Outside : goal.returns-in-Err-Outside
returns-in-Err-Outside c =
    sym (not_in_map c.args.lengths.now c.args.bytes.now c.decode_any.ensures.0 (λ k. (c.shared_slice_known-1.given k).fits)
    (sym c.decode_any.ensures.1 ∙ c.in_ok-found.was) cc)

pub returns-in_default : goal.returns-in_default
returns-in_default c = sym c.in_ok-found.was ∙ c.decode_any.ensures.1 ∙ in_map c.args.lengths.now c.args.bytes.now c.decode_any.ensures.0 (λ z. cc)

pub returns-in_default-2 : goal.returns-in_default-2
returns-in_default-2 c = sym c.in_ok-found.was ∙ c.decode_any.ensures.1 ∙ in_map c.args.lengths.now c.args.bytes.now c.decode_any.ensures.0 (λ z. cc)
