-- `execution::Registers::perform` meets its contract: each arm by what it computes and the shape of its effect.
use mathlib.Core.Path.{refl, ap}
use Rattle.stm8.specs.Effects.{jump_flow}
use Rattle.stm8.specs.Cycles.{cycles}
use Rattle.stm8.specs.declared.Flow.TheVariants.{Next}
use Rattle.execution.specs.Computing.{computed}
use Rattle.storage.specs.Storing.{call_trap}
use Rattle.execution.specs.Performing.{pc_after}
use Rattle.execution.specs.Cycles.{instruction_cycles}
use Rattle.execution.specs.Internal.{performed_by, performed_as}
use Rattle.execution.proofs.Shapes.{costs_one, costs_either, costs_jump, jump_flow_lem, no_call}
use Rattle.execution.proofs.Registers.perform.Goals as goal

pub returns-in-Alu : goal.returns-in-Alu
unfolding computed call_trap pc_after instruction_cycles performed_as performed_by
returns-in-Alu c inside = rw c.in-Alu.is
    (c.perform_alu.ensures inside)

pub returns-in-Store : goal.returns-in-Store
unfolding computed call_trap pc_after instruction_cycles performed_as performed_by
returns-in-Store c inside = rw c.in-Store.is
    (c.perform_store.ensures c.args.image.now inside)

pub returns-in-LoadHalf : goal.returns-in-LoadHalf
unfolding computed call_trap pc_after instruction_cycles performed_as performed_by
returns-in-LoadHalf c inside = rw c.in-LoadHalf.is
    (rw c.load_half.ensures at
    (c.goes.ensures c.args.image.now c.args.memory.now c.args.limits c.args.next Next inside refl refl))

pub returns-in-StoreHalf : goal.returns-in-StoreHalf
unfolding computed call_trap pc_after instruction_cycles performed_as performed_by
returns-in-StoreHalf c inside = costs_one c.args.image.now c.args.limits c.args.self c.args.memory.now c.args.next c.args.i 1 (ap cycles c.in-StoreHalf.is)
    (rw c.in-StoreHalf.is
    (rw c.store_half.ensures at
    (c.goes-in-StoreHalf.ensures c.args.image.now c.args.memory.now c.args.limits c.args.next Next inside refl refl)))

pub returns-in-Modify : goal.returns-in-Modify
unfolding computed call_trap pc_after instruction_cycles performed_as performed_by
returns-in-Modify c inside = costs_one c.args.image.now c.args.limits c.args.self c.args.memory.now c.args.next c.args.i 1 (ap cycles c.in-Modify.is)
    (rw c.in-Modify.is
    (c.perform_modify.ensures inside))

pub returns-in-LoadWord : goal.returns-in-LoadWord
unfolding computed call_trap pc_after instruction_cycles performed_as performed_by
returns-in-LoadWord c inside = costs_one c.args.image.now c.args.limits c.args.self c.args.memory.now c.args.next c.args.i 2 (ap cycles c.in-LoadWord.is)
    (rw c.in-LoadWord.is
    (c.perform_load_word.ensures inside))

pub returns-in-StoreWord : goal.returns-in-StoreWord
unfolding computed call_trap pc_after instruction_cycles performed_as performed_by
returns-in-StoreWord c inside = rw c.in-StoreWord.is
    (c.perform_store_word.ensures c.args.image.now inside)

pub returns-in-CopyWord : goal.returns-in-CopyWord
unfolding computed call_trap pc_after instruction_cycles performed_as performed_by
returns-in-CopyWord c inside = costs_one c.args.image.now c.args.limits c.args.self c.args.memory.now c.args.next c.args.i 1 (ap cycles c.in-CopyWord.is)
    (rw c.in-CopyWord.is
    (rw c.copy_word.ensures at
    (c.goes-in-CopyWord.ensures c.args.image.now c.args.memory.now c.args.limits c.args.next Next inside refl refl)))

pub returns-in-WordAlu : goal.returns-in-WordAlu
unfolding computed call_trap pc_after instruction_cycles performed_as performed_by
returns-in-WordAlu c inside = costs_one c.args.image.now c.args.limits c.args.self c.args.memory.now c.args.next c.args.i 2 (ap cycles c.in-WordAlu.is)
    (rw c.in-WordAlu.is
    (rw c.word_alu.ensures at
    (c.goes-in-WordAlu.ensures c.args.image.now c.args.memory.now c.args.limits c.args.next Next inside refl refl)))

pub returns-in-WordModify : goal.returns-in-WordModify
unfolding computed call_trap pc_after instruction_cycles performed_as performed_by
returns-in-WordModify c inside = costs_one c.args.image.now c.args.limits c.args.self c.args.memory.now c.args.next c.args.i 1 (ap cycles c.in-WordModify.is)
    (rw c.in-WordModify.is
    (rw c.word_modify.ensures at
    (c.goes-in-WordModify.ensures c.args.image.now c.args.memory.now c.args.limits c.args.next Next inside refl refl)))

pub returns-in-Pushw : goal.returns-in-Pushw
unfolding computed call_trap pc_after instruction_cycles performed_as performed_by
returns-in-Pushw c inside = rw c.in-Pushw.is
    (rw c.pushw.ensures at
    (c.pushes.ensures c.args.image.now c.args.next Next refl refl))

pub returns-in-Popw : goal.returns-in-Popw
unfolding computed call_trap pc_after instruction_cycles performed_as performed_by
returns-in-Popw c inside = costs_one c.args.image.now c.args.limits c.args.self c.args.memory.now c.args.next c.args.i 2 (ap cycles c.in-Popw.is)
    (rw c.in-Popw.is
    c.perform_popw.ensures)

pub returns-in-Exgw : goal.returns-in-Exgw
unfolding computed call_trap pc_after instruction_cycles performed_as performed_by
returns-in-Exgw c inside = rw c.in-Exgw.is
    (rw c.exchanged.ensures at
    (c.goes-in-Exgw.ensures c.args.image.now c.args.memory.now c.args.limits c.args.next Next inside refl refl))

pub returns-in-Mul : goal.returns-in-Mul
unfolding computed call_trap pc_after instruction_cycles performed_as performed_by
returns-in-Mul c inside = costs_one c.args.image.now c.args.limits c.args.self c.args.memory.now c.args.next c.args.i 4 (ap cycles c.in-Mul.is)
    (rw c.in-Mul.is
    (rw c.mul.ensures at
    (c.goes-in-Mul.ensures c.args.image.now c.args.memory.now c.args.limits c.args.next Next inside refl refl)))

pub returns-in-Bit : goal.returns-in-Bit
unfolding computed call_trap pc_after instruction_cycles performed_as performed_by
returns-in-Bit c inside = rw c.in-Bit.is
    (c.perform_bit.ensures inside)

pub returns-in-BitJump : goal.returns-in-BitJump
unfolding computed call_trap pc_after instruction_cycles performed_as performed_by
returns-in-BitJump c inside = costs_either c.args.image.now c.args.limits c.args.self c.args.memory.now c.args.next c.args.i 2 3 (ap cycles c.in-BitJump.is)
    (rw c.in-BitJump.is
    (c.perform_bit_jump.ensures inside))

pub returns-in-Mov : goal.returns-in-Mov
unfolding computed call_trap pc_after instruction_cycles performed_as performed_by
returns-in-Mov c inside = rw c.in-Mov.is
    (c.perform_mov.ensures inside)

pub returns-in-Push : goal.returns-in-Push
unfolding computed call_trap pc_after instruction_cycles performed_as performed_by
returns-in-Push c inside = rw c.in-Push.is
    c.perform_push.ensures

pub returns-in-Pop : goal.returns-in-Pop
unfolding computed call_trap pc_after instruction_cycles performed_as performed_by
returns-in-Pop c inside = costs_one c.args.image.now c.args.limits c.args.self c.args.memory.now c.args.next c.args.i 1 (ap cycles c.in-Pop.is)
    (rw c.in-Pop.is
    c.perform_pop.ensures)

pub returns-in-SubSp : goal.returns-in-SubSp
unfolding computed call_trap pc_after instruction_cycles performed_as performed_by
returns-in-SubSp c inside = rw c.in-SubSp.is
    (rw c.unchanged.ensures at
    (c.moves.ensures c.args.image.now c.args.memory.now c.args.next Next refl refl))

pub returns-in-AddSp : goal.returns-in-AddSp
unfolding computed call_trap pc_after instruction_cycles performed_as performed_by
returns-in-AddSp c inside = rw c.in-AddSp.is
    (rw c.unchanged-in-AddSp.ensures at
    (c.moves-in-AddSp.ensures c.args.image.now c.args.memory.now c.args.next Next refl refl))

pub returns-in-Jump : goal.returns-in-Jump
unfolding computed call_trap pc_after instruction_cycles performed_as performed_by
returns-in-Jump c inside = rw c.in-Jump.is
    (costs_jump c.args.image.now c.args.limits c.args.self c.args.memory.now c.args.next c.in-Jump.o c.in-Jump.offset
    ((rw c.jump.ensures at
    (c.jumps.ensures c.args.image.now c.args.memory.now c.args.limits (jump_flow c.in-Jump.o c.in-Jump.offset))) inside (no_call c.in-Jump.o c.in-Jump.offset)
    (jump_flow_lem c.args.image.now c.args.memory.now c.args.self.sp c.args.next c.args.self.cc c.in-Jump.offset c.in-Jump.o)))

pub returns-in-Call : goal.returns-in-Call
unfolding computed call_trap pc_after instruction_cycles performed_as performed_by
returns-in-Call c inside = rw c.in-Call.is
    (c.perform_call.ensures c.args.image.now)

pub returns-in-Callr : goal.returns-in-Callr
unfolding computed call_trap pc_after instruction_cycles performed_as performed_by
returns-in-Callr c inside = rw c.in-Callr.is
    (c.perform_callr.ensures c.args.image.now)

pub returns-in-Ret : goal.returns-in-Ret
unfolding computed call_trap pc_after instruction_cycles performed_as performed_by
returns-in-Ret c inside = rw c.in-Ret.is
    c.perform_ret.ensures

pub returns-in-Nop : goal.returns-in-Nop
unfolding computed call_trap pc_after instruction_cycles performed_as performed_by
returns-in-Nop c inside = rw c.in-Nop.is
    (rw c.unchanged-in-Nop.ensures at
    (c.goes-in-Nop.ensures c.args.image.now c.args.memory.now c.args.limits c.args.next Next inside refl refl))

pub returns-in-Flag : goal.returns-in-Flag
unfolding computed call_trap pc_after instruction_cycles performed_as performed_by
returns-in-Flag c inside = rw c.in-Flag.is
    (rw c.flag.ensures at
    (c.goes-in-Flag.ensures c.args.image.now c.args.memory.now c.args.limits c.args.next Next inside refl refl))
