-- `machine::stepping::fetch` meets its contract: the layout tells where the image's code begins.
use Prim.Native.Nat.{◌-◌}
use mathlib.Core.Path.{◌∙◌, ap}
use Rattle.image.specs.declared.Layout.{Layout}
use Rattle.image.specs.Image.{layout_of}
use Rattle.code.specs.Code.{decoded_at}
use Rattle.code.proofs.Parts.{code_cut}
use Rattle.machine.proofs.StepLaws.{pc_inside}
use Rattle.machine.proofs.stepping.fetch.Goals as goal

pub returns : goal.returns
unfolding layout_of
returns c =
    let image = c.args.image.now in
    c.decode_at.ensures.of_image image (ap (λ (l : Layout). l.version) c.requires.valid.is) (code_cut image c.args.layout.code (ap (λ (l : Layout). l.code) c.requires.valid.is)) ∙
    ap (λ (l : Layout). decoded_at image l.size (c.args.pc - l.base)) c.requires.valid.is

pub overflow_sub-pc : goal.overflow_sub-pc
overflow_sub-pc c = (pc_inside c.args.image.now c.args.layout c.requires.valid.is c.args.pc c.requires.inside).0
