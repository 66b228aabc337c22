-- `resuming::frames::is_call` meets its contract.
use Prim.Native.Nat.{ℕ, ◌-◌}
use mathlib.Core.Path.{◌≡◌, sym, ap, ◌∙◌}
use native.Mathlib.Omega.{arith}
use mathlib.Core.List.{List}
use borrow.Author.Tests.{ne_eqb}
use lib.ListN.{length, take, drop}
use Rattle.stm8.specs.Decoding.{Decoded}
use Rattle.image.specs.Image.{code_at, code_of, size_of, version_of}
use Rattle.image.specs.Rules.{ImageRules}
use Rattle.code.proofs.Parts.{code_cut}
use Rattle.code.specs.Code.{decoded_at, instruction_in}
use Rattle.resuming.proofs.Calling.{call_none, call_elsewhere, call_here}
use Rattle.resuming.proofs.frames.is_call.Goals as goal

-- the image ends with its code
size_is : (image : List ℕ) {code : ℕ} → ImageRules image → code ≡ code_at image → length image - code ≡ size_of image
size_is image layout is = omega (arith, layout.end)

-- the decoder's answer is what stands at the offset
answer : (image : List ℕ) (at : ℕ) {code version : ℕ} {d : Decoded} → ImageRules image → code ≡ code_at image → version ≡ version_of image →
    ((whole : List ℕ) → version ≡ version_of whole → take (length image - code) (drop code image) ≡ code_of whole → d ≡ decoded_at whole (length image - code) at) →
    d ≡ instruction_in image at
answer image at layout is version_is told =
    told image version_is (code_cut image _ is) ∙ ap (λ n. decoded_at image n at) (size_is image layout is)

pub returns-in_default : goal.returns-in_default
returns-in_default c =
    call_none _ _ _ _ _
    (sym (answer c.args.image.now c.args.at c.requires.0 c.code_at-code.ensures.value c.version_of.ensures c.decode_at.ensures.of_image) ∙ c.in_default.is)

pub returns-else-at-n : goal.returns-else-at-n
returns-else-at-n c =
    ne_eqb _ _ c.if-at-n.false ∙ call_elsewhere _ _ _ _ _
    (sym (answer c.args.image.now c.args.at c.requires.0 c.code_at-code.ensures.value c.version_of.ensures c.decode_at.ensures.of_image) ∙ c.in-Ok.is)
    c.if-at-n.false

pub returns-then-at-n : goal.returns-then-at-n
returns-then-at-n c =
    call_here _ _ _ _ _
    (sym (answer c.args.image.now c.args.at c.requires.0 c.code_at-code.ensures.value c.version_of.ensures c.decode_at.ensures.of_image) ∙ c.in-Ok.is)
    c.if-at-n.true c.base_of.ensures c.calls.ensures
