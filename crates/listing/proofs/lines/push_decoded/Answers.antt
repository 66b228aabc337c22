-- `listing::lines::push_decoded` meets its contract.
use mathlib.Core.Path.{◌≡◌, ap, sym, ◌∙◌}
use native.Mathlib.Omega.{arith}
use Rattle.code.specs.Code.{decoded_at, instruction_in}
use Rattle.code.proofs.Parts.{code_cut}
use Rattle.listing.proofs.Appending.{wrote_none}
use Rattle.listing.proofs.lines.push_decoded.Goals as goal
use Rattle.listing.proofs.lines.push_decoded.Goals.{After-decode_at}

-- what is decoded stands at the offset
here : (d : After-decode_at) → instruction_in d.args.image.now d.args.offset ≡ d.decode_at.result
here d =
    ap (λ n. decoded_at d.args.image.now n d.args.offset) (sym d.requires.1) ∙
    sym (d.decode_at.ensures.of_image _ d.version_of-version.ensures (code_cut _ _ d.code_at-code.ensures.value))

pub returns-in-Ok : goal.returns-in-Ok
returns-in-Ok c =
    let found = here (goal.at.returns-in-Ok c).After-decode_at ∙ c.in-Ok.is in
    rw found c.push_text.ensures

pub returns-in-Err : goal.returns-in-Err
returns-in-Err c =
    let found = here (goal.at.returns-in-Err c).After-decode_at ∙ c.in-Err.is in
    rw found (wrote_none _ _ (omega (arith, c.requires.2)))

pub slice_bounds-decode_at-count : goal.slice_bounds-decode_at-count
slice_bounds-decode_at-count c = omega (arith, c.requires.0.end, c.code_at-code.ensures.value)
