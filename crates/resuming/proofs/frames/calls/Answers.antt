-- `resuming::frames::calls` meets its contract.
use Rattle.stm8.specs.Effects.{call_target, falls_through}
use Rattle.resuming.proofs.Calling.{jump_calls_nobody}
use borrow.Author.Rules.{rules}
use Rattle.resuming.proofs.frames.calls.Goals as goal

pub enum_told-1 : goal.enum_told-1
enum_told-1 c = search rules

pub returns-in-Alu : goal.returns-in-Alu
unfolding call_target
returns-in-Alu c = rw c.in-Alu.is

pub returns-in-Store : goal.returns-in-Store
unfolding call_target
returns-in-Store c = rw c.in-Store.is

pub returns-in-LoadHalf : goal.returns-in-LoadHalf
unfolding call_target
returns-in-LoadHalf c = rw c.in-LoadHalf.is

pub returns-in-StoreHalf : goal.returns-in-StoreHalf
unfolding call_target
returns-in-StoreHalf c = rw c.in-StoreHalf.is

pub returns-in-Modify : goal.returns-in-Modify
unfolding call_target
returns-in-Modify c = rw c.in-Modify.is

pub returns-in-LoadWord : goal.returns-in-LoadWord
unfolding call_target
returns-in-LoadWord c = rw c.in-LoadWord.is

pub returns-in-StoreWord : goal.returns-in-StoreWord
unfolding call_target
returns-in-StoreWord c = rw c.in-StoreWord.is

pub returns-in-CopyWord : goal.returns-in-CopyWord
unfolding call_target
returns-in-CopyWord c = rw c.in-CopyWord.is

pub returns-in-WordAlu : goal.returns-in-WordAlu
unfolding call_target
returns-in-WordAlu c = rw c.in-WordAlu.is

pub returns-in-WordModify : goal.returns-in-WordModify
unfolding call_target
returns-in-WordModify c = rw c.in-WordModify.is

pub returns-in-Pushw : goal.returns-in-Pushw
unfolding call_target
returns-in-Pushw c = rw c.in-Pushw.is

pub returns-in-Popw : goal.returns-in-Popw
unfolding call_target
returns-in-Popw c = rw c.in-Popw.is

pub returns-in-Exgw : goal.returns-in-Exgw
unfolding call_target
returns-in-Exgw c = rw c.in-Exgw.is

pub returns-in-Mul : goal.returns-in-Mul
unfolding call_target
returns-in-Mul c = rw c.in-Mul.is

pub returns-in-Bit : goal.returns-in-Bit
unfolding call_target
returns-in-Bit c = rw c.in-Bit.is

pub returns-in-BitJump : goal.returns-in-BitJump
unfolding call_target
returns-in-BitJump c = rw c.in-BitJump.is

pub returns-in-Mov : goal.returns-in-Mov
unfolding call_target
returns-in-Mov c = rw c.in-Mov.is

pub returns-in-Push : goal.returns-in-Push
unfolding call_target
returns-in-Push c = rw c.in-Push.is

pub returns-in-Pop : goal.returns-in-Pop
unfolding call_target
returns-in-Pop c = rw c.in-Pop.is

pub returns-in-SubSp : goal.returns-in-SubSp
unfolding call_target
returns-in-SubSp c = rw c.in-SubSp.is

pub returns-in-AddSp : goal.returns-in-AddSp
unfolding call_target
returns-in-AddSp c = rw c.in-AddSp.is

pub returns-in-Jump : goal.returns-in-Jump
returns-in-Jump c = rw c.in-Jump.is (jump_calls_nobody (falls_through c.in-Jump.field-0) _ _ _)

pub returns-in-Call : goal.returns-in-Call
unfolding call_target
returns-in-Call c = rw c.in-Call.is

pub returns-in-Callr : goal.returns-in-Callr
unfolding call_target
returns-in-Callr c = rw (c.in-Callr.is, c.relative.ensures)

pub returns-in-Ret : goal.returns-in-Ret
unfolding call_target
returns-in-Ret c = rw c.in-Ret.is

pub returns-in-Nop : goal.returns-in-Nop
unfolding call_target
returns-in-Nop c = rw c.in-Nop.is

pub returns-in-Flag : goal.returns-in-Flag
unfolding call_target
returns-in-Flag c = rw c.in-Flag.is
