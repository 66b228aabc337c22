-- The walk has no choice: an address comes after one call, an offset lies in one routine, and nobody calls main.
use Prim.Native.Nat.{ℕ, ◌+◌, ◌<◌, ◌≤◌}
use mathlib.Core.Path.{◌≡◌}
use mathlib.Core.Option.{some}
use mathlib.Core.Logic.{by_cases}
use mathlib.Core.List.{List}
use native.Mathlib.Decide.{ℕ_discrete, dec_lt}
use native.Mathlib.Omega.{arith}
use Rattle.std.specs.Prelude.{Ok}
use Rattle.stm8.specs.Effects.{call_target, effect}
use Rattle.stm8.specs.declared.Instruction.{Instruction}
use Rattle.image.specs.declared.Limits.{Limits}
use Rattle.image.specs.Image.{base_of, count_of, start_of, end_of, main_of}
use Rattle.image.proofs.Layouts.{begins_before_end}
use Rattle.image.proofs.Measuring.{end_before}
use Rattle.code.specs.Code.{instruction_at, Start}
use Rattle.code.proofs.Starts.{same_found, found_inside, start_low, start_high, next_start}
use Rattle.rules.proofs.Callees.{one_routine}
use Rattle.gate.proofs.CheckedCode.{CheckedCode}
use Rattle.resuming.specs.Internal.{CallBefore, LastBegun}

module _ (image : List ℕ) (limits : Limits) (depth need : ℕ → ℕ) (code : CheckedCode image limits depth need) where
  pub inside : {r o : ℕ} → r < count_of image → Start image r o → (start_of image r ≤ o) × (o < end_of image r)
  inside {r} listed s = (start_low image r s, start_high image r (begins_before_end image code.layout r listed) s)

  -- starts of two routines do not lie in both
  pub one_place : {j k o p : ℕ} → j < count_of image → k < count_of image → Start image j o → Start image k p → p < end_of image j → o < end_of image k → j ≡ k
  one_place {j} {k} lj lk s t below above =
      let a = inside lj s in
      let b = inside lk t in
      by_cases (ℕ_discrete j k) (λ e. e)
      (λ ne. by_cases (dec_lt j k)
      (λ l. absurd (omega (arith, end_before image j k l lj)))
      (λ l. absurd (omega (arith, end_before image k j (omega arith) lk))))

  -- the routine of a start is the last that begins there or before
  pub routine_is : {r k o : ℕ} → r < count_of image → Start image r o → LastBegun image (count_of image) o k → k ≡ r
  routine_is {r} {k} listed s l =
      let a = inside listed s in
      by_cases (ℕ_discrete k r) (λ e. e)
      (λ ne. by_cases (dec_lt k r)
      (λ lower. absurd (omega (arith, l.later r lower listed)))
      (λ higher. absurd (omega (arith, end_before image r k (omega arith) listed, l.begun))))

  -- one instruction of a routine ends at an offset
  one_start : {r o p n m : ℕ} {i i' : Instruction} → Start image r o → instruction_at image r o ≡ Ok (i, n) →
      Start image r p → instruction_at image r p ≡ Ok (i', m) → o + n ≡ p + m → o ≡ p
  one_start {r} {o} {p} s f t g e =
      by_cases (ℕ_discrete o p) (λ e. e)
      (λ ne. by_cases (dec_lt o p)
      (λ l. absurd (omega (arith, next_start image r s f t l, found_inside image r p g)))
      (λ l. absurd (omega (arith, next_start image r t g s (omega arith), found_inside image r o f))))

  -- and one call comes before an address
  pub one_call : {word target o p : ℕ} (b : CallBefore image word target o) (c : CallBefore image word target p) → (b.routine ≡ c.routine) × (o ≡ p)
  one_call {o = o} {p = p} b c =
      let fb = found_inside image b.routine o b.found in
      let fc = found_inside image c.routine p c.found in
      let eb = b.after in
      let ec = c.after in
      let who : b.routine ≡ c.routine = one_place b.listed c.listed b.start c.start (omega arith) (omega arith) in
      (who, one_start (rw who at b.start) (rw who at b.found) c.start c.found (omega arith))

  -- a call goes to an earlier routine, so nobody calls main
  calls_earlier : {r c o n : ℕ} {i : Instruction} → r < count_of image → c < count_of image → Start image c o → instruction_at image c o ≡ Ok (i, n) →
      call_target (base_of image + (o + n)) (effect i).flow ≡ some (base_of image + start_of image r) → r < c
  calls_earlier {r} {c} {o} listed lc s f calls =
      let here = code.at lc s in
      let same = same_found f here.stands in
      let callee = here.rules.call (rw (same.0, same.1) at calls) in
      let earlier = callee.1.earlier in
      let who = one_routine image code.layout callee.0 r (omega arith) (omega arith) (omega (arith, callee.1.target)) in
      omega arith

  pub main_uncalled : {r c o n : ℕ} {i : Instruction} → r ≡ main_of image → c < count_of image → Start image c o → instruction_at image c o ≡ Ok (i, n) →
      call_target (base_of image + (o + n)) (effect i).flow ≡ some (base_of image + start_of image r) → ⊥
  unfolding main_of
  main_uncalled is lc s f calls = omega (arith, calls_earlier (omega (arith, code.layout.count.0)) lc s f calls)
