-- `decoder::pages::after_90` meets its contract.
use native.Mathlib.Omega.{arith}
use Rattle.numbers.specs.Lists.{Bytes}
use Rattle.stm8.specs.OpcodeMap.{After90}
use Rattle.opcodes.specs.Entries.{on_page}
use Rattle.decoder.proofs.Operands.{high_at, low_at}
use Rattle.decoder.proofs.Sizes.{no_opcode, outside, cut_short, whole}
use Rattle.decoder.proofs.pages.after_90.Goals as goal

pub returns-then-bytes-le1 : goal.returns-then-bytes-le1
unfolding on_page
returns-then-bytes-le1 c = no_opcode After90 c.args.bytes.now c.args.length (omega (arith, c.if-bytes-le1.true))

pub returns-then-length-eq0 : goal.returns-then-length-eq0
unfolding on_page
returns-then-length-eq0 c = outside After90 c.args.bytes.now c.args.length (omega (arith, c.if-bytes-le1.false)) c.if-length-eq0.true

pub returns-then-bytes-length : goal.returns-then-bytes-length
unfolding on_page
returns-then-bytes-length c = cut_short After90 c.args.bytes.now c.args.length (omega (arith, c.if-bytes-le1.false)) c.if-length-eq0.false c.if-bytes-length.true

pub returns : goal.returns
unfolding on_page
returns c = let s = c.args.bytes.now in
    let bytes : Bytes s = λ k. (c.shared_slice_known-1.given k).fits in
    whole After90 s c.args.length (omega (arith, c.if-bytes-le1.false)) c.if-length-eq0.false c.if-bytes-length.false c.after_90_instruction.result
    (rw (c.byte_at.ensures, high_at s bytes 2 c.word_at.ensures, low_at s bytes 2 c.word_at.ensures) at
    c.after_90_instruction.ensures)
