-- `decoder::pages::after_72` meets its contract.
use native.Mathlib.Omega.{arith}
use Rattle.numbers.specs.Lists.{Bytes}
use Rattle.stm8.specs.OpcodeMap.{After72}
use Rattle.opcodes.specs.Entries.{on_page}
use Rattle.decoder.proofs.Operands.{high_at, low_at, first_at_lem, second_at}
use Rattle.decoder.proofs.Sizes.{no_opcode, outside, cut_short, whole}
use Rattle.decoder.proofs.pages.after_72.Goals as goal

pub returns-then-bytes-le1 : goal.returns-then-bytes-le1
unfolding on_page
returns-then-bytes-le1 c = no_opcode After72 c.args.bytes.now c.args.length (omega (arith, c.if-bytes-le1.true))

pub returns-then-length-eq0 : goal.returns-then-length-eq0
unfolding on_page
returns-then-length-eq0 c = outside After72 c.args.bytes.now c.args.length (omega (arith, c.if-bytes-le1.false)) c.if-length-eq0.true

pub returns-then-bytes-length : goal.returns-then-bytes-length
unfolding on_page
returns-then-bytes-length c = cut_short After72 c.args.bytes.now c.args.length (omega (arith, c.if-bytes-le1.false)) c.if-length-eq0.false c.if-bytes-length.true

pub returns : goal.returns
unfolding on_page
returns c = let s = c.args.bytes.now in
    let bytes : Bytes s = λ k. (c.shared_slice_known-1.given k).fits in
    let ab = first_at_lem s bytes 2 c.two_words-rest.ensures c.first_word.ensures in
    let cd = second_at s bytes 2 c.two_words-rest.ensures c.second_word.ensures in
    whole After72 s c.args.length (omega (arith, c.if-bytes-le1.false)) c.if-length-eq0.false c.if-bytes-length.false
    c.after_72_instruction.result
    (rw (c.byte_at.ensures, high_at s bytes 2 ab, low_at s bytes 2 ab, c.high.ensures, high_at s bytes 4 cd) at
    c.after_72_instruction.ensures)
