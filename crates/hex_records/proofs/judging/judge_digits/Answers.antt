-- `hex_records::judging::judge_digits` meets its contract.
use mathlib.Core.Path.{◌∙◌}
use Rattle.hex_records.proofs.Judged.{rest_check}
use borrow.Author.Rules.{rules}
use Rattle.hex_records.proofs.judging.judge_digits.Goals as goal

pub value_at-n-requires : goal.value_at-n-requires
value_at-n-requires c = search rules

pub overflow_cast-n : goal.overflow_cast-n
overflow_cast-n c = search rules

pub value_at-requires : goal.value_at-requires
value_at-requires c = search rules

pub overflow_cast-address : goal.overflow_cast-address
overflow_cast-address c = search rules

pub overflow_mul-address : goal.overflow_mul-address
overflow_mul-address c = search rules

pub value_at-requires-2 : goal.value_at-requires-2
value_at-requires-2 c = search rules

pub overflow_cast-address-2 : goal.overflow_cast-address-2
overflow_cast-address-2 c = search rules

pub overflow_add-address : goal.overflow_add-address
overflow_add-address c = search rules

pub value_at-kind-requires : goal.value_at-kind-requires
value_at-kind-requires c = search rules

pub overflow_cast-kind : goal.overflow_cast-kind
overflow_cast-kind c = search rules

pub summed-all-requires : goal.summed-all-requires
summed-all-requires c = search rules

pub unless-requires : goal.unless-requires
unless-requires c = search rules

pub count_of-requires : goal.count_of-requires
count_of-requires c = search rules

pub overflow_add-n : goal.overflow_add-n
overflow_add-n c = search rules

pub differ-requires : goal.differ-requires
differ-requires c = search rules

pub overflow_cast-all : goal.overflow_cast-all
overflow_cast-all c = search rules

pub differ-requires-2 : goal.differ-requires-2
differ-requires-2 c = search rules

pub shape_check-requires : goal.shape_check-requires
shape_check-requires c = search rules

pub first-requires : goal.first-requires
first-requires c = search rules

pub first-requires-2 : goal.first-requires-2
first-requires-2 c = search rules

pub first-form-requires : goal.first-form-requires
first-form-requires c = search rules

pub open_check-requires : goal.open_check-requires
open_check-requires c = search rules

pub under-requires : goal.under-requires
under-requires c = search rules

pub follow_data-requires : goal.follow_data-requires
follow_data-requires c = search rules

pub first-requires-3 : goal.first-requires-3
first-requires-3 c = search rules

pub first-requires-4 : goal.first-requires-4
first-requires-4 c = search rules

pub first-requires-5 : goal.first-requires-5
first-requires-5 c = search rules

pub returns : goal.returns
returns c = c.first-5.ensures ∙
    rw (c.first-4.ensures, c.first-3.ensures, c.follow_data.ensures, c.under.ensures, c.open_check.ensures, c.first-form.ensures, c.first-2.ensures, c.first.ensures, c.shape_check.ensures, c.differ-2.ensures, c.differ.ensures, c.count_of.ensures, c.unless.ensures)
    (rest_check _ _ _ _ _ _ _ c.summed-all.ensures c.value_at-n.ensures c.value_at.ensures c.value_at-2.ensures c.value_at-kind.ensures)
