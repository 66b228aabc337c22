-- `storage::storing::put_operand` meets its contract.
use Rattle.storage.proofs.NothingStored.{nothing_stored}
use Rattle.storage.proofs.storing.put_operand.Goals as goal

pub returns-in-Short : goal.returns-in-Short
returns-in-Short c = rw c.in-Short.is (c.put_direct.ensures c.args.sp)

pub returns-in-Long : goal.returns-in-Long
returns-in-Long c = rw c.in-Long.is (c.put_direct-in-Long.ensures c.args.sp)

pub returns-in_default : goal.returns-in_default
returns-in_default c = nothing_stored c.args.limits c.args.sp c.args.value c.args.memory.now c.args.x c.args.w
    c.in_default.not-Short c.in_default.not-Long c.in_default.not-Sp
