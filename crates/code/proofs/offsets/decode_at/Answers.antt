-- `code::offsets::decode_at` meets its contract: the part that is decoded is the code from the offset to the bound.
use Prim.Native.Nat.{◌-◌}
use mathlib.Core.Path.{sym, ap, ◌∙◌}
use native.Mathlib.Omega.{arith}
use lib.ListN.{take, drop, length-take}
use Rattle.stm8.proofs.Longer.{found_within}
use Rattle.image.specs.Image.{version_of}
use Rattle.code.specs.Set.{decoded_for}
use Rattle.code.specs.Code.{decoded_at}
use Rattle.code.proofs.Parts.{within}
use Rattle.code.proofs.Sets.{found_in_set}
use Rattle.code.proofs.offsets.decode_at.Goals as goal

pub returns : goal.returns
unfolding decoded_at
returns c =
    let code = c.args.code.now in record {
      of_image = λ image version own.
          c.decode_for.ensures ∙
          ap (decoded_for c.args.version) (rw (c.min.ensures, c.min-to.ensures) (within code c.args.at c.args.end)) ∙
          ap (λ v. decoded_for v (take (c.args.end - c.args.at) (drop c.args.at code))) version ∙
          ap (λ s. decoded_for (version_of image) (take (c.args.end - c.args.at) (drop c.args.at s))) own;
      ends_within = λ i n found.
          let part = take (c.min-to.result - c.min.result) (drop c.min.result code) in
          let here = found_within part i n (found_in_set c.args.version i n part (sym c.decode_for.ensures ∙ found)).0 in (
            here.0,
            omega (arith, here, length-take (c.min-to.result - c.min.result) (drop c.min.result code), c.min.ensures, c.min-to.ensures),
          );
    }
