-- Each phase names at most one number at an offset, the last one where the phase before it, that of the paths, has no fault.
use Prim.Native.Nat.{ℕ, ◌+◌, ◌<◌, ◌≤◌}
use mathlib.Core.Path.{◌≡◌, refl, sym, ◌∙◌}
use mathlib.Core.Option.{some}
use mathlib.Core.Logic.{◌⊎◌, ⊎_elim}
use mathlib.Core.List.{List}
use native.Mathlib.Omega.{arith}
use Rattle.std.specs.Prelude.{Ok, Err}
use Rattle.stm8.specs.Decoding.{Decoded}
use Rattle.stm8.specs.Effects.{jump_target, effect}
use Rattle.stm8.proofs.EffectLaws.{one_target}
use Rattle.stm8.specs.declared.Instruction.{Instruction}
use Rattle.stm8.specs.declared.DecodeError.TheVariants.{Outside, Truncated}
use Rattle.image.specs.declared.Limits.{Limits}
use Rattle.image.specs.Image.{base_of, start_of, end_of}
use Rattle.code.specs.Code.{instruction_at}
use Rattle.rules.specs.Refusal.{CodeFault, outside, cut, off, JumpFault, leaves, inside, ReachFault, unreached, PathFault, disagree}
use Rattle.rules.specs.Refusal.{order, Fault}
use Rattle.code.proofs.Starts.{same_found}
use Rattle.rules.proofs.Phases.{OneNumber, OneNumbers}
use Rattle.rules.proofs.AgreedDepths.{one_depth_fault}

-- 8, 9 and 15 go by what the bytes are
code_number : Decoded → ℕ
code_number (Err Outside) = 8
code_number (Err Truncated) = 9
code_number (Ok (i, n)) = 15

code_number_lem : {image : List ℕ} {r o n : ℕ} → CodeFault image r o n → n ≡ code_number (instruction_at image r o)
unfolding code_number
code_number_lem (outside s f) = rw f
code_number_lem (cut s f) = rw f
code_number_lem (off s f t past) = rw f

-- a jump does not both leave its routine and stay in it
not_both : (image : List ℕ) (r o : ℕ) {n n' to address : ℕ} {i i' : Instruction} →
    instruction_at image r o ≡ Ok (i, n) → jump_target (base_of image + (o + n)) (effect i).flow ≡ some address →
    (address < base_of image + start_of image r) ⊎ (base_of image + end_of image r ≤ address) →
    instruction_at image r o ≡ Ok (i', n') → jump_target (base_of image + (o + n')) (effect i').flow ≡ some (base_of image + to) →
    start_of image r ≤ to → to < end_of image r → ⊥
not_both image r o f j out f' j' low high =
    let same = same_found f f' in
    let there = one_target (rw (same.0, same.1) at j) j' in
    ⊎_elim (λ h. omega (arith, there)) (λ h. omega (arith, there)) out

reach_number_lem : {image : List ℕ} {r o n : ℕ} → ReachFault image r o n → n ≡ 6
reach_number_lem (unreached s none) = refl

path_number : {image : List ℕ} {r o n : ℕ} → PathFault image r o n → n ≡ 7
path_number (disagree d) = refl

module _ {image : List ℕ} {r : ℕ} where
  one_code : OneNumber (CodeFault image r)
  one_code o n n' a b = code_number_lem a ∙ sym (code_number_lem b)

  one_jump : OneNumber (JumpFault image r)
  one_jump o n n' (leaves s f j out) (leaves t g k past) = refl
  one_jump o n n' (leaves s f j out) (inside t g k low high none) = absurd (not_both image r o f j out g k low high)
  one_jump o n n' (inside s f j low high none) (leaves t g k out) = absurd (not_both image r o g k out f j low high)
  one_jump o n n' (inside s f j low high none) (inside t g k low' high' none') = refl

  one_reach : OneNumber (ReachFault image r)
  one_reach o n n' a b = reach_number_lem a ∙ sym (reach_number_lem b)

  one_path : OneNumber (PathFault image r)
  one_path o n n' a b = path_number a ∙ sym (path_number b)

pub one_numbers : (image : List ℕ) (limits : Limits) (r : ℕ) → OneNumbers (Fault image limits r) order
one_numbers image limits r =
    (one_code, λ _. (one_jump, λ _. (one_reach, λ _. (one_path, λ none. (one_depth_fault (λ d. none _ _ (disagree d)) limits, λ _. tt)))))
