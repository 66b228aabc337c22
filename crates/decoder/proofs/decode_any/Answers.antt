-- `decoder::decode_any` meets its contract: the first byte selects the page.
use mathlib.Core.Path.{ap, ◌∙◌}
use lib.ListN.{get_or}
use Rattle.stm8.specs.OpcodeMap.{Plain, After72, After90}
use Rattle.stm8.specs.Decoding.{table_of}
use Rattle.decoder.proofs.Selected.{page_72, page_90, page_plain, on_table}
use Rattle.decoder.proofs.decode_any.Goals as goal

pub returns-then-first-eq114 : goal.returns-then-first-eq114
returns-then-first-eq114 c = let s = c.args.bytes.now in
    let tables = c.args.lengths.now in
    on_table s (page_72 c.byte_at-first.ensures c.if-first-eq114.true) tables
    (c.opcode_length.ensures ∙ ap (λ op. get_or (table_of tables After72) op 0) c.byte_at.ensures) c.after_72.ensures

pub returns-then-first : goal.returns-then-first
returns-then-first c = let s = c.args.bytes.now in
    let tables = c.args.lengths.now in
    on_table s (page_90 c.byte_at-first.ensures c.if-first-eq114.false c.if-first.true) tables
    (c.opcode_length-then-first.ensures ∙ ap (λ op. get_or (table_of tables After90) op 0) c.byte_at-then-first.ensures) c.after_90.ensures

pub returns : goal.returns
returns c = let s = c.args.bytes.now in
    let tables = c.args.lengths.now in
    on_table s (page_plain c.byte_at-first.ensures c.if-first-eq114.false c.if-first.false) tables
    (c.opcode_length-2.ensures ∙ ap (λ op. get_or (table_of tables Plain) op 0) c.byte_at-first.ensures) c.plain.ensures
