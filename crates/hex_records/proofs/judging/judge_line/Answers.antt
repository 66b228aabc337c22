-- `hex_records::judging::judge_line` meets its contract.
use borrow.Author.Rules.{part_to_end}
use mathlib.Core.Path.{sym, ◌∙◌}
use Rattle.hex_records.proofs.Judged.{colon_first, no_colon, colon_check}
use borrow.Author.Rules.{rules}
use Rattle.hex_records.proofs.judging.judge_line.Goals as goal

pub byte_at-requires : goal.byte_at-requires
byte_at-requires c = search rules

pub returns-then-byte_at-ne58 : goal.returns-then-byte_at-ne58
returns-then-byte_at-ne58 c = no_colon _ _ _ c.byte_at.ensures c.if-byte_at-ne58.true

pub slice_bounds-judge_digits-count : goal.slice_bounds-judge_digits-count
slice_bounds-judge_digits-count c = colon_first c.args.body.now (sym c.byte_at.ensures ∙ c.if-byte_at-ne58.false)

pub slice_bounds-judge_digits-start : goal.slice_bounds-judge_digits-start
slice_bounds-judge_digits-start c = colon_first c.args.body.now (sym c.byte_at.ensures ∙ c.if-byte_at-ne58.false)

pub slice_bounds-judge_digits-end : goal.slice_bounds-judge_digits-end
slice_bounds-judge_digits-end c = search rules

pub judge_digits-requires : goal.judge_digits-requires
judge_digits-requires c = search rules

pub returns : goal.returns
returns c = let body = c.args.body.now in
    (rw (part_to_end body 1) at c.judge_digits.ensures) ∙ colon_check _ body (sym c.byte_at.ensures ∙ c.if-byte_at-ne58.false)
