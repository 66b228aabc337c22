-- `resuming::frames::call_before` meets its contract.
use Prim.Native.Nat.{ℕ, ◌+◌, ◌-◌, ◌<◌, ◌≤◌}
use mathlib.Core.List.{List}
use mathlib.Core.Path.{◌≡◌, ap, ◌∙◌}
use native.Mathlib.Omega.{arith}
use lib.ListN.{length}
use Rattle.image.specs.Image.{base_of, code_at, size_of}
use Rattle.image.specs.Rules.{ImageRules}
use Rattle.image.proofs.Measuring.{size_some}
use Rattle.code.specs.Code.{instruction_in}
use Rattle.resuming.specs.Internal.{is_call_to}
use Rattle.resuming.proofs.MarkedCode.{marked_code}
use Rattle.resuming.proofs.NearestCall.{call_low, call_high, call_told}
use Rattle.resuming.proofs.frames.call_before.Goals as goal

-- the code has bytes, and the image ends with it
some_code : (image : List ℕ) → ImageRules image → 0 < size_of image
some_code image layout = size_some image layout.count.0 (layout.lengths 0 layout.count.0)

size_is : (image : List ℕ) {code : ℕ} → ImageRules image → code ≡ code_at image → length image - code ≡ size_of image
size_is image layout is = omega (arith, layout.end)

pub returns-then-address-base : goal.returns-then-address-base
returns-then-address-base c = record {
  at_bound = some_code _ c.requires.0;
  call_told = λ limits begins a. call_low c.args.image.now limits c.args.marks.now (marked_code a) _ _ (omega (arith, c.if-address-base.true, c.base_of-base.ensures));
}

pub returns-then-size-next : goal.returns-then-size-next
returns-then-size-next c = record {
  at_bound = some_code _ c.requires.0;
  call_told = λ limits begins a.
      call_high c.args.image.now limits c.args.marks.now (marked_code a) _ _
      (omega (arith, c.if-size-next.true, size_is c.args.image.now c.requires.0 c.code_at.ensures.value, c.base_of-base.ensures));
}

pub returns : goal.returns
returns c =
    let image = c.args.image.now in
    let fits : c.args.word - c.base_of-base.result ≤ size_of image = omega (arith, c.if-size-next.false, size_is c.args.image.now c.requires.0 c.code_at.ensures.value) in record {
      at_bound = omega (arith, c.nearest_below-at.ensures.below);
      call_told = λ limits begins a.
          call_told image limits c.args.marks.now (marked_code a) _ _ (omega (arith, c.base_of-base.ensures, c.if-address-base.false)) fits c.nearest_below-at.ensures (c.is_call.ensures ∙ ap (λ b. is_call_to (base_of image) c.nearest_below-at.result (c.args.word - c.base_of-base.result) (b + c.args.begin) (instruction_in image c.nearest_below-at.result)) c.base_of-base.ensures);
    }
