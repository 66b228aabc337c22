-- What an instruction does to depth: it pops or pushes bytes of the routine's own but never both, and a call does neither.
use Prim.Native.Nat.{ℕ}
use mathlib.Core.Path.{◌≡◌, refl}
use mathlib.Core.Option.{some}
use mathlib.Core.Logic.{◌⊎◌, inl, inr, ⊎_map}
use mathlib.Core.Bool.{Bool, true, false, cond}
use native.Mathlib.Omega.{arith}
use Rattle.stm8.specs.Effects.{call_target, effect}
use Rattle.stm8.proofs.EffectLaws.{by_call}
use Rattle.stm8.specs.declared.Instruction.{Instruction}
use Rattle.stm8.specs.declared.Instruction.TheVariants as I
use Rattle.stm8.specs.declared.Effect.{Effect}
use Rattle.code.specs.Depth.{moves_depth, popped, pushed, after}

-- a call leaves depth unchanged
pub call_depth : (next : ℕ) {address : ℕ} (e : Effect) (d : ℕ) → call_target next e.flow ≡ some address → after e d ≡ d
unfolding after popped pushed
call_depth next e d c = rw (by_call next e.flow c (λ f. moves_depth f ≡ false) (λ a. refl) (λ n. refl)) (omega arith)

-- the instructions that pop anything, RET too, push nothing
one_way : (i : Instruction) → ((effect i).pops ≡ 0) ⊎ ((effect i).pushes ≡ 0)
one_way (I.Alu o x) = inl refl
one_way (I.Store x) = inl refl
one_way (I.LoadHalf r h) = inl refl
one_way (I.StoreHalf r h) = inl refl
one_way (I.Modify o x) = inl refl
one_way (I.LoadWord r x) = inl refl
one_way (I.StoreWord r x) = inl refl
one_way (I.CopyWord r) = inl refl
one_way (I.WordAlu o r w) = inl refl
one_way (I.WordModify o r) = inl refl
one_way (I.Pushw r) = inl refl
one_way (I.Popw r) = inr refl
one_way I.Exgw = inl refl
one_way (I.Mul r) = inl refl
one_way (I.Bit o n a) = inl refl
one_way (I.BitJump o n a j) = inl refl
one_way (I.Mov to from) = inl refl
one_way (I.Push x) = inl refl
one_way (I.Pop x) = inr refl
one_way (I.SubSp n) = inl refl
one_way (I.AddSp n) = inr refl
one_way (I.Jump o n) = inl refl
one_way (I.Call a) = inl refl
one_way (I.Callr n) = inl refl
one_way I.Ret = inr refl
one_way I.Nop = inl refl
one_way (I.Flag o) = inl refl

still : (moves : Bool) (n : ℕ) → n ≡ 0 → cond moves n 0 ≡ 0
still true n e = e
still false n e = refl

pub moves_one_way : (i : Instruction) → (popped (effect i) ≡ 0) ⊎ (pushed (effect i) ≡ 0)
unfolding popped pushed
moves_one_way i =
    let moves = moves_depth (effect i).flow in
    ⊎_map (still moves (effect i).pops) (still moves (effect i).pushes) (one_way i)
