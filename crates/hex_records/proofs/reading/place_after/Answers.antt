-- `hex_records::reading::place_after` meets its contract.
use mathlib.Core.Path.{sym, ◌∙◌}
use borrow.Author.Tests.{eq-eqb, ne_eqb}
use Rattle.hex_records.specs.Judging.{type_in, after}
use Rattle.hex_records.proofs.reading.place_after.Goals as goal

pub returns-then-byte_in-eq0 : goal.returns-then-byte_in-eq0
unfolding after type_in
returns-then-byte_in-eq0 c =
    let data' = sym c.byte_in.ensures ∙ c.if-byte_in-eq0.true in
    rw (eq-eqb _ 0 data', c.data_length.ensures, c.address_in.ensures)

pub returns : goal.returns
unfolding after type_in
returns c = rw (ne_eqb _ 0 (λ e. c.if-byte_in-eq0.false (c.byte_in.ensures ∙ e)))
