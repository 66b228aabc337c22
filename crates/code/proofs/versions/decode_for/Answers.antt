-- `code::versions::decode_for` meets its contract: the map's answer, then the version's.
use mathlib.Core.Path.{◌≡◌, sym, ap, ◌∙◌}
use mathlib.Core.Bool.{Bool, true, false, cond}
use Rattle.std.specs.Prelude.{Err}
use Rattle.numbers.specs.Lists.{Bytes}
use Rattle.stm8.specs.Decoding.{Decoded, decoded}
use Rattle.std.proofs.Common.{ℕ, List, get_or}
use Rattle.stm8.specs.declared.DecodeError.TheVariants.{Outside}
use Rattle.code.specs.Set.{decoded_for}
use Rattle.code.specs.Internal.{left_out}
use Rattle.code.proofs.Sets.{set_has, decoded_for_lem, not_allowed}
use Rattle.code.proofs.versions.decode_for.Goals as goal

-- the first byte tells, whatever the map has
by_first : (version : ℕ) (s : List ℕ) {d : Decoded} {out : Bool} {byte : ℕ} → Bytes s → d ≡ decoded s → byte ≡ get_or s 0 0 →
    out ≡ left_out version byte → (t : Bool) → out ≡ t → decoded_for version s ≡ cond t (Err Outside) d
by_first version s bytes is first left t told =
    let out = ap (left_out version) (sym first) ∙ sym left ∙ told in
    decoded_for_lem version s bytes ∙ ap (λ u. cond u (Err Outside) (decoded s)) out ∙ ap (cond t (Err Outside)) (sym is)

pub returns-in-Ok : goal.returns-in-Ok
returns-in-Ok c =
    c.in-Ok.is ∙ sym (set_has c.args.version c.in-Ok.i c.in-Ok.field-0-1 c.args.bytes.now (sym c.decode-found.ensures ∙ c.in-Ok.is)
    (sym c.allowed.ensures ∙ c.if-allowed.true))

pub returns-in_default : goal.returns-in_default
returns-in_default c =
    sym (not_allowed c.args.version c.args.bytes.now (λ k. (c.type_inv.bytes k).fits) c.in-Ok.i c.in-Ok.field-0-1
    (sym c.decode-found.ensures ∙ c.in-Ok.is) (sym c.allowed.ensures ∙ c.if-allowed.false))

pub returns-in-Err : goal.returns-in-Err
returns-in-Err c =
    sym (by_first c.args.version c.args.bytes.now (λ k. (c.type_inv.bytes k).fits) c.decode-found.ensures c.byte_at.ensures
    c.left_out.ensures false c.if-not-left_out.true)

pub returns-in_default-2 : goal.returns-in_default-2
returns-in_default-2 c =
    sym (by_first c.args.version c.args.bytes.now (λ k. (c.type_inv.bytes k).fits) c.decode-found.ensures c.byte_at.ensures
    c.left_out.ensures true c.if-not-left_out.false)
