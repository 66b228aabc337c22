-- `encoder::encode` meets its contract. In each arm the variant is known: a line for what the arm's calls ask, then one for what it returns.
use Prim.Native.Nat.{◌+◌, ◌*◌}
use lib.Dec.{leb}
use Rattle.stm8.specs.Encoding.{test_code}
use Rattle.encoder.proofs.Forms.{bit_jump, load_word, modify, pop, push, store, store_word}
use Rattle.encoder.proofs.encode.Goals as goal

pub returns-in-Alu : goal.returns-in-Alu
returns-in-Alu c = rw (c.alu.ensures, c.in-Alu.is)

pub returns-in-Store : goal.returns-in-Store
returns-in-Store c = rw (c.on_operand.ensures, c.in-Store.is, store)

pub returns-in-LoadHalf : goal.returns-in-LoadHalf
returns-in-LoadHalf c = rw (c.on_register.ensures, c.load_half_code.ensures, c.in-LoadHalf.is)

pub returns-in-StoreHalf : goal.returns-in-StoreHalf
returns-in-StoreHalf c = rw (c.on_register-in-StoreHalf.ensures, c.store_half_code.ensures, c.in-StoreHalf.is)

pub returns-in-Modify : goal.returns-in-Modify
returns-in-Modify c = rw (c.on_operand-in-Modify.ensures, c.modify_column-column.ensures.0, c.in-Modify.is, modify c.in-Modify.o c.in-Modify.x)

pub returns-in-LoadWord : goal.returns-in-LoadWord
returns-in-LoadWord c = rw (c.on_operand-in-LoadWord.ensures, c.load_word_sp.ensures, c.precode.ensures, c.in-LoadWord.is, load_word c.in-LoadWord.r c.in-LoadWord.x)

pub returns-in-StoreWord : goal.returns-in-StoreWord
returns-in-StoreWord c = rw (c.on_operand-in-StoreWord.ensures, c.store_word_sp.ensures, c.precode-in-StoreWord.ensures, c.in-StoreWord.is, store_word c.in-StoreWord.r c.in-StoreWord.x)

pub returns-in-CopyWord : goal.returns-in-CopyWord
returns-in-CopyWord c = rw (c.on_register-in-CopyWord.ensures, c.in-CopyWord.is)

pub returns-in-WordAlu : goal.returns-in-WordAlu
returns-in-WordAlu c = rw (c.word_alu.ensures, c.in-WordAlu.is)

pub returns-in-WordModify : goal.returns-in-WordModify
returns-in-WordModify c = rw (c.on_register-in-WordModify.ensures, c.word_modify_code.ensures, c.in-WordModify.is)

pub returns-in-Pushw : goal.returns-in-Pushw
returns-in-Pushw c = rw (c.on_register-in-Pushw.ensures, c.in-Pushw.is)

pub returns-in-Popw : goal.returns-in-Popw
returns-in-Popw c = rw (c.on_register-in-Popw.ensures, c.in-Popw.is)

pub returns-in-Exgw : goal.returns-in-Exgw
returns-in-Exgw c = rw (c.one_byte.ensures, c.in-Exgw.is)

pub returns-in-Mul : goal.returns-in-Mul
returns-in-Mul c = rw (c.on_register-in-Mul.ensures, c.in-Mul.is)

pub returns-in-Bit : goal.returns-in-Bit
returns-in-Bit c = rw (c.at_bit.ensures, c.bit_code.ensures.0, c.bit_precode.ensures, c.in-Bit.is)

pub returns-in-BitJump : goal.returns-in-BitJump
returns-in-BitJump c = rw (c.append.ensures, c.at_bit-in-BitJump.ensures, c.test_code.ensures.0)
    (rw (c.in-BitJump.is, bit_jump (leb c.in-BitJump.n 7) (test_code c.in-BitJump.o + 2 * c.in-BitJump.n) c.in-BitJump.w c.in-BitJump.j))

pub returns-in-Mov : goal.returns-in-Mov
returns-in-Mov c = rw (c.mov.ensures, c.in-Mov.is)

pub returns-in-Push : goal.returns-in-Push
returns-in-Push c = rw (c.on_operand-in-Push.ensures, c.in-Push.is, push)

pub returns-in-Pop : goal.returns-in-Pop
returns-in-Pop c = rw (c.on_operand-in-Pop.ensures, c.in-Pop.is, pop)

pub returns-in-SubSp : goal.returns-in-SubSp
returns-in-SubSp c = rw (c.two_bytes.ensures, c.in-SubSp.is)

pub returns-in-AddSp : goal.returns-in-AddSp
returns-in-AddSp c = rw (c.two_bytes-in-AddSp.ensures, c.in-AddSp.is)

pub returns-in-Jump : goal.returns-in-Jump
returns-in-Jump c = rw (c.two_bytes-in-Jump.ensures, c.condition_column.ensures.0, c.in-Jump.is)

pub returns-in-Call : goal.returns-in-Call
returns-in-Call c = rw (c.append_word.ensures, c.one_byte-in-Call.ensures, c.in-Call.is)

pub returns-in-Callr : goal.returns-in-Callr
returns-in-Callr c = rw (c.two_bytes-in-Callr.ensures, c.in-Callr.is)

pub returns-in-Ret : goal.returns-in-Ret
returns-in-Ret c = rw (c.one_byte-in-Ret.ensures, c.in-Ret.is)

pub returns-in-Nop : goal.returns-in-Nop
returns-in-Nop c = rw (c.one_byte-in-Nop.ensures, c.in-Nop.is)

pub returns-in-Flag : goal.returns-in-Flag
returns-in-Flag c = rw (c.one_byte-in-Flag.ensures, c.flag_code.ensures, c.in-Flag.is)
