-- `records::recording::fetch` meets its contract: an image that follows the rules ends with its code.
use mathlib.Core.Path.{◌∙◌}
use borrow.Author.Rules.{rules}
use Rattle.code.proofs.Parts.{code_cut}
use Rattle.records.proofs.StoredBytes.{long_enough, rest_is_code}
use Rattle.records.proofs.recording.fetch.Goals as goal

pub returns-then-image-code : goal.returns-then-image-code
returns-then-image-code c rules = absurd (long_enough _ rules _ c.code_at-code.ensures.value c.if-image-code.true)

pub returns : goal.returns
returns c rules =
    let image = c.args.image.now in
    c.decode_at.ensures.of_image image c.version_of.ensures (code_cut image _ c.code_at-code.ensures.value) ∙
    rw (c.offset_from.ensures, c.base_of.ensures, rest_is_code image rules _ c.code_at-code.ensures.value)
