-- `storage::reading::byte_from` meets its contract, by the three ways of a read.
use mathlib.Core.Path.{sym, ◌∙◌}
use Rattle.storage.proofs.ReadLaws.{from_memory, below_code, from_code}
use Rattle.storage.proofs.reading.byte_from.Goals as goal

pub returns-then-address-lt32768 : goal.returns-then-address-lt32768
returns-then-address-lt32768 c =
    c.byte_at.ensures ∙ sym (from_memory c.args.image.now c.args.memory.now c.args.address c.if-address-lt32768.true)

pub returns-then-address-base : goal.returns-then-address-base
returns-then-address-base c =
    sym (below_code c.args.image.now c.args.memory.now c.args.address c.if-address-lt32768.false _ c.base_of-base.ensures c.if-address-base.true)

pub returns : goal.returns
returns c =
    c.byte_at-2.ensures ∙
    sym
    (from_code c.args.image.now c.args.memory.now c.args.address c.if-address-lt32768.false _ _ c.base_of-base.ensures
    c.code_at.ensures.value
    c.if-address-base.false)
