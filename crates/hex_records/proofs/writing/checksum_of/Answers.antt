-- `hex_records::writing::checksum_of` meets its contract.
use Rattle.hex_records.proofs.Puts.{check_is}
use borrow.Author.Rules.{rules}
use Rattle.hex_records.proofs.writing.checksum_of.Goals as goal

pub overflow_cast-front : goal.overflow_cast-front
overflow_cast-front c = search rules

pub high-requires : goal.high-requires
high-requires c = search rules

pub overflow_cast-front-2 : goal.overflow_cast-front-2
overflow_cast-front-2 c = search rules

pub overflow_add-front : goal.overflow_add-front
overflow_add-front c = search rules

pub low-requires : goal.low-requires
low-requires c = search rules

pub overflow_cast-front-3 : goal.overflow_cast-front-3
overflow_cast-front-3 c = search rules

pub overflow_add-front-2 : goal.overflow_add-front-2
overflow_add-front-2 c = search rules

pub overflow_add-front-3 : goal.overflow_add-front-3
overflow_add-front-3 c = search rules

pub sum_of-requires : goal.sum_of-requires
sum_of-requires c = search rules

pub overflow_add-result : goal.overflow_add-result
overflow_add-result c = search rules

pub overflow_sub-result : goal.overflow_sub-result
overflow_sub-result c = search rules

pub overflow_cast-result : goal.overflow_cast-result
overflow_cast-result c = search rules

pub returns : goal.returns
returns c = check_is _ _ _ _ _ _ c.high.ensures c.low.ensures c.sum_of.ensures
