-- A routine that meets the rules has no fault: every path comes to a start with its depth, and no phase refuses.
use Prim.Native.Nat.{ℕ, ◌+◌, ◌<◌}
use mathlib.Core.Path.{◌≡◌}
use mathlib.Core.Logic.{⊎_elim}
use mathlib.Core.List.{List}
use native.Mathlib.Omega.{arith}
use Rattle.stm8.specs.Effects.{effect}
use Rattle.stm8.specs.declared.Instruction.{Instruction}
use Rattle.image.specs.declared.Limits.{Limits}
use Rattle.image.specs.Image.{start_of, end_of}
use Rattle.code.specs.Depth.{after}
use Rattle.code.specs.Code.{Start, begins}
use Rattle.rules.specs.Paths.{Path, entry, onward, Disagree}
use Rattle.rules.specs.Rules.{RoutineRules}
use Rattle.rules.specs.Refusal.{CodeFault, outside, cut, off, JumpFault, leaves, inside, ReachFault, unreached, PathFault, disagree}
use Rattle.rules.specs.Refusal.{InRange, Arrival, DepthFault, range, store, call, Phase, codes, jumps, reach, paths, depths, Fault, RoutineRefusal}
use Rattle.code.proofs.Starts.{start_high}
use Rattle.rules.proofs.Unique.{rules_found, arrives}
use Rattle.rules.proofs.Ranges.{rules_range}
use Rattle.rules.proofs.Phases.{first_fault}

module _ {image : List ℕ} {limits : Limits} {depth : ℕ → ℕ} {r : ℕ} (rules : RoutineRules image limits depth r) where
  pub path_depth : {o pushes pops : ℕ} → Path image r o pushes pops → Start image r o × (depth o + pops ≡ pushes)
  unfolding after
  path_depth entry = (begins, omega (arith, rules.entry))
  path_depth (onward p f g) =
      let before = path_depth p in
      let there = arrives rules before.0 f g in
      (there.start, omega (arith, before.1, there.deep, (rules_found rules before.0 f).pops_enough))

  pub paths_agree : Disagree image r → ⊥
  paths_agree d = d.differ (omega (arith, (path_depth d.path).1, (path_depth d.path').1))

  in_range : {o n pushes pops : ℕ} {i : Instruction} → Arrival image r o n i pushes pops → InRange (effect i) pushes pops
  in_range a =
      let h = rules_found rules a.start a.found in
      rules_range (path_depth a.path).1
      (record { pops_enough = h.pops_enough; depth_before = h.depth_before; depth_after = h.depth_after; return_empty = h.return_empty })

  code_passes : start_of image r < end_of image r → {o n : ℕ} → CodeFault image r o n → ⊥
  code_passes some (outside s f) = let g = (rules.starts s).found in let z : ◌≡◌ {A = ℕ} 0 1 = cc in omega arith
  code_passes some (cut s f) = let g = (rules.starts s).found in let z : ◌≡◌ {A = ℕ} 0 1 = cc in omega arith
  code_passes some (off s f t past) = omega (arith, start_high image r some ((rules_found rules s f).fall t).start)

  jump_passes : {o n : ℕ} → JumpFault image r o n → ⊥
  jump_passes (leaves s f j out) =
      let l = (rules_found rules s f).jump j in
      ⊎_elim (λ h. omega (arith, l.target, l.low)) (λ h. omega (arith, l.target, l.high)) out
  jump_passes (inside {to = to} s f j low high none) =
      let l = (rules_found rules s f).jump j in
      let there : to ≡ l.to = omega (arith, l.target) in
      none (rw there l.lands.start)

  reach_passes : {o n : ℕ} → ReachFault image r o n → ⊥
  reach_passes (unreached s none) = none (rules.starts s).reached

  path_passes : {o n : ℕ} → PathFault image r o n → ⊥
  path_passes (disagree d) = paths_agree d

  depth_passes : {o n : ℕ} → DepthFault image limits r o n → ⊥
  depth_passes (range a out) = out (in_range a)
  depth_passes (store {o} {i = i} a h deep e out) =
      let same : depth o ≡ deep = omega (arith, (path_depth a.path).1) in
      out (rw same at (rules_found rules a.start a.found).store)
  depth_passes (call a h deep e stores c out) = let to = (rules_found rules a.start a.found).call c in out to.0 to.1

  pub no_fault : start_of image r < end_of image r → (phase : Phase) (o n : ℕ) → Fault image limits r phase o n → ⊥
  no_fault some codes o n f = code_passes some f
  no_fault some jumps o n f = jump_passes f
  no_fault some reach o n f = reach_passes f
  no_fault some paths o n f = path_passes f
  no_fault some depths o n f = depth_passes f

  pub rules_pass : start_of image r < end_of image r → (n o : ℕ) → RoutineRefusal image limits r n o → ⊥
  rules_pass some n o refusal = let f = first_fault refusal in no_fault some f.0 o n f.1
