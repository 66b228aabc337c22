-- `byte_operations::unary::modify` meets its contract: NEG is the difference 00 - dst.
use mathlib.Core.Path.{sym}
use native.Mathlib.Omega.{arith}
use Rattle.byte_operations.specs.Accumulator.{alu_result}
use Rattle.byte_operations.proofs.Negation.{neg_difference}
use Rattle.byte_operations.proofs.unary.modify.Goals as goal

pub returns-in-Neg : goal.returns-in-Neg
unfolding alu_result
returns-in-Neg c =
    rw (c.subtracted.ensures, c.in-Neg.is) (sym (neg_difference c.args.m c.args.cc (omega arith)))
