-- `arithmetic::bits::with_bit` meets its contract: the old bit is taken away and the new one added.
use Rattle.std.proofs.Common.{le-ltb}
use Rattle.arithmetic.specs.Bits.{with_bit}
use Rattle.arithmetic.proofs.BitLaws.{old_bit_le, exchanged, exchanged_fits}
use Rattle.arithmetic.proofs.bits.with_bit.Goals as goal

pub overflow_sub-result : goal.overflow_sub-result
overflow_sub-result c =
    rw c.bit.ensures (old_bit_le c.args.position c.args.value c.args.holds c.if-position-lt8.true c.ranges.value.fits)

pub overflow_add-result : goal.overflow_add-result
overflow_add-result c =
    let fits = exchanged_fits c.args.position c.args.value c.args.holds c.if-position-lt8.true c.ranges.value.fits in
    record { fits = rw (c.flag.ensures, c.bit.ensures) fits }

pub returns-then-position-lt8 : goal.returns-then-position-lt8
returns-then-position-lt8 c =
    rw (c.flag.ensures, c.bit.ensures)
    (exchanged c.args.position c.args.value c.args.holds c.if-position-lt8.true c.ranges.value.fits)

pub returns-else-position-lt8 : goal.returns-else-position-lt8
unfolding with_bit
returns-else-position-lt8 c = rw (le-ltb c.args.position 8 c.if-position-lt8.false)
