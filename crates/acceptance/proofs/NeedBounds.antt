-- A routine adds at most 257 to the need of those before it: 255 for its depth and 2 at a call.
use Prim.Native.Nat.{ℕ, zero, suc, ◌+◌, ◌*◌, ◌<◌, ◌≤◌}
use mathlib.Core.List.{List, [], ◌∷◌}
use native.Mathlib.Omega.{arith}
use lib.ListN.{get_or, set, replicate}
use Rattle.stm8.specs.Effects.{effect}
use Rattle.stm8.specs.declared.Instruction.{Instruction}
use Rattle.image.specs.declared.Limits.{Limits}
use Rattle.image.specs.Image.{base_of}
use Rattle.rules.specs.Rules.{InstructionRules, StartAt, InstructionUse, before, behind, calling}
use Rattle.rules.proofs.Unique.{rules_found}
use Rattle.acceptance.specs.Passed.{need_in, RoutinePassed}
use Rattle.acceptance.proofs.AllRoutines.{zeros_at}

use_bound : {image : List ℕ} {limits : Limits} {depth : ℕ → ℕ} {need : ℕ → ℕ} {r o n : ℕ} {i : Instruction} {v : ℕ} →
    InstructionRules image limits r (StartAt image depth r) o (depth o) i n → ((k : ℕ) → k < r → need k ≤ 257 * r) →
    InstructionUse image need r (base_of image + (o + n)) (depth o) (effect i) v → v ≤ 257 * (r + 1)
use_bound rules earlier before = omega (arith, rules.depth_before)
use_bound rules earlier behind = omega (arith, rules.depth_after)
use_bound rules earlier (calling {callee = k} d to) = omega (arith, rules.depth_before, earlier k to.earlier)

pub need_bound : {image : List ℕ} {limits : Limits} {needs given marks : List ℕ} {r need count : ℕ} →
    RoutinePassed image limits needs r given marks need count → ((k : ℕ) → k < r → need_in needs k ≤ 257 * r) → need ≤ 257 * (r + 1)
need_bound p earlier = let u = p.most.is in use_bound (rules_found p.rules u.start u.found) earlier u.used

-- the same of all needs that are held
pub no_needs : (k : ℕ) → need_in (replicate 32 0) k ≤ 257 * 0
no_needs k = omega (arith, zeros_at 32 k)

set_bound : (l : List ℕ) (i v bound : ℕ) → ((k : ℕ) → get_or l k 0 ≤ bound) → v ≤ bound → (k : ℕ) → get_or (set l i v) k 0 ≤ bound
set_bound [] i v bound all h k = all k
set_bound (n ∷ l) zero v bound all h zero = h
set_bound (n ∷ l) zero v bound all h (suc k) = all (suc k)
set_bound (n ∷ l) (suc i) v bound all h zero = all zero
set_bound (n ∷ l) (suc i) v bound all h (suc k) = set_bound l i v bound (λ j. all (suc j)) h k

pub needs_bound : {image : List ℕ} {limits : Limits} {needs given marks : List ℕ} {r need count : ℕ} →
    RoutinePassed image limits needs r given marks need count → ((k : ℕ) → need_in needs k ≤ 257 * r) →
    (k : ℕ) → need_in (set needs r need) k ≤ 257 * (r + 1)
needs_bound {needs = needs} {r = r} {need = need} p all =
    set_bound needs r need (257 * (r + 1)) (λ k. omega (arith, all k)) (need_bound p (λ k l. all k))
