-- `decoder::decode` meets its contract: the first byte selects the page.
use mathlib.Core.Path.{ap, ◌∙◌}
use lib.ListN.{get_or}
use Rattle.stm8.specs.OpcodeMap.{Plain, After72, After90}
use Rattle.stm8.specs.Decoding.{lengths}
use Rattle.decoder.proofs.Selected.{page_72, page_90, page_plain, on_page_lem}
use Rattle.decoder.proofs.Known.{by_own}
use Rattle.decoder.proofs.decode.Goals as goal

pub returns-then-first-eq114 : goal.returns-then-first-eq114
returns-then-first-eq114 c = let s = c.args.bytes.now in
    by_own s (λ k. (c.shared_slice_known-1.given k).fits) After72
    (c.after_72_length.ensures ∙ ap (λ op. get_or (lengths After72) op 0) c.byte_at.ensures) c.after_72.ensures ∙
    on_page_lem s (page_72 c.byte_at-first.ensures c.if-first-eq114.true)

pub returns-then-first : goal.returns-then-first
returns-then-first c = let s = c.args.bytes.now in
    by_own s (λ k. (c.shared_slice_known-1.given k).fits) After90
    (c.after_90_length.ensures ∙ ap (λ op. get_or (lengths After90) op 0) c.byte_at-then-first.ensures) c.after_90.ensures ∙
    on_page_lem s (page_90 c.byte_at-first.ensures c.if-first-eq114.false c.if-first.true)

pub returns : goal.returns
returns c = let s = c.args.bytes.now in
    by_own s (λ k. (c.shared_slice_known-1.given k).fits) Plain
    (c.plain_length.ensures ∙ ap (λ op. get_or (lengths Plain) op 0) c.byte_at-first.ensures) c.plain.ensures ∙
    on_page_lem s (page_plain c.byte_at-first.ensures c.if-first-eq114.false c.if-first.false)
