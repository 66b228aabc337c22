-- `hex_records::writing::put_digits` meets its contract.
use Rattle.hex_records.specs.Records.{record_bytes}
use Rattle.hex_records.proofs.RecordLaws.{record_length}
use Rattle.hex_records.proofs.Puts.{put_begun, put_turn, spelled_more, spelled_length}
use mathlib.Core.Path.{◌≡◌, ap, ◌∙◌}
use Prim.Native.Nat.{ℕ, ◌-◌, ◌+◌, ◌*◌}
use lib.ListN.{length, take}
use lib.Seq.{take_all, length-take-le}
use mathlib.Core.List.{List}
use Rattle.hex_records.specs.Digits.{spelled}
use Rattle.hex_records.specs.Internal.{put_at}
use borrow.Author.Rules.{rules}
use native.Mathlib.Omega.{arith}
use Rattle.hex_records.proofs.writing.put_digits.Goals as goal

pub overflow_add-count : goal.overflow_add-count
overflow_add-count c = search rules

pub loop-k-init : goal.loop-k-init
unfolding spelled
loop-k-init c = (omega arith, put_begun _ _)

pub record_byte-byte-requires : goal.record_byte-byte-requires
record_byte-byte-requires c = record {
  row_len_bound = c.requires.row_len_bound;
  k_in_bounds = c.loop-k-test.true;
}

pub overflow_mul-k : goal.overflow_mul-k
overflow_mul-k c = omega (arith, c.requires.row_in_bounds, c.loop-k-test.true)

pub overflow_add-n : goal.overflow_add-n
overflow_add-n c = omega (arith, c.requires.row_in_bounds, c.loop-k-test.true)

pub put_byte-requires : goal.put_byte-requires
put_byte-requires c = omega (arith, c.requires.row_in_bounds, c.loop-k-test.true, c.loop-k.invariant.1.size)

pub overflow_add-k : goal.overflow_add-k
overflow_add-k c = search rules

pub loop-k-smaller : goal.loop-k-smaller
loop-k-smaller c = omega arith

pub loop-k-preserved : goal.loop-k-preserved
loop-k-preserved c =
    let bytes = record_bytes c.args.address c.args.kind c.args.row.now in
    let size = record_length c.args.address c.args.kind c.args.row.now in
    let taken : length (spelled (take c.loop-k.k bytes)) ≡ 2 * c.loop-k.k =
    spelled_length (take c.loop-k.k bytes) ∙ ap (λ (n : ℕ). 2 * n) (length-take-le c.loop-k.k bytes (omega (arith, size, c.loop-k-test.true))) in (
      omega (arith, c.loop-k-test.true),
      put_turn spelled spelled_more bytes c.loop-k.k (omega (arith, size, c.loop-k-test.true)) c.args.out.now c.loop-k.out _ c.args.n (c.args.n + 2 * c.loop-k.k)
          (omega (arith, spelled_length bytes, size, c.requires.row_in_bounds)) (omega (arith, taken))
          (rw (← c.record_byte-byte.ensures) c.put_byte.ensures) c.loop-k.invariant.1,
    )

pub shape_of-out : goal.shape_of-out
shape_of-out c = c.loop-k.invariant.1.size

pub returns : goal.returns
returns c =
    let bytes = record_bytes c.args.address c.args.kind c.args.row.now in
    let size = record_length c.args.address c.args.kind c.args.row.now in
    let whole = take_all c.loop-k.k bytes (omega (arith, size, c.loop-k-test.false)) in
    c.loop-k.invariant.1.is ∙ ap (λ (s : List ℕ). put_at c.args.out.now c.args.n (spelled s)) whole
