-- The routines, one after the other: what is known before the first, and with one more that passes.
use Prim.Native.Nat.{ℕ, zero, suc, ◌+◌, ◌<◌, ◌≤◌}
use mathlib.Core.Path.{◌≡◌, refl, sym, ◌∙◌}
use mathlib.Core.Logic.{inl, inr, by_cases}
use mathlib.Core.List.{List}
use native.Mathlib.Decide.{dec_lt}
use native.Mathlib.Omega.{arith}
use lib.ListN.{get_or, set, replicate, length-replicate, length-set}
use lib.Seq.{get_or-set_same, get_or-set_other}
use borrow.Author.Count.{below_more}
use Rattle.image.specs.declared.Limits.{Limits}
use Rattle.image.specs.Image.{count_of, size_of, start_of}
use Rattle.image.specs.Rules.{ImageRules}
use Rattle.image.proofs.Layouts.{begins_before_end}
use Rattle.image.proofs.Measuring.{start_zero, start_next, end_before}
use Rattle.code.specs.Code.{Start}
use Rattle.rules.specs.Rules.{RoutineRules, Use, Greatest, count_below}
use Rattle.code.proofs.Starts.{start_high}
use Rattle.rules.proofs.Mapping.{routine_map, greatest_map}
use Rattle.acceptance.specs.Passed.{depth_in, need_in, RoutinePassed, RoutinesPassed}

pub zeros_at : (n k : ℕ) → ◌≡◌ {A = ℕ} (get_or (replicate n 0) k 0) 0
zeros_at zero k = refl
zeros_at (suc n) zero = refl
zeros_at (suc n) (suc k) = zeros_at n k

pub none_yet : (image : List ℕ) (limits : Limits) → RoutinesPassed image limits 0 (replicate 32 0) (replicate (size_of image) 0) 0
unfolding count_below
none_yet image limits =
    record {
      size = length-replicate {A = ℕ} (size_of image) 0;
      held = length-replicate {A = ℕ} 32 0;
      clear = λ o low. zeros_at (size_of image) o;
      rules = λ r below. absurd (omega arith);
      most = λ r below. absurd (omega arith);
      starts = λ r below s. absurd (omega arith);
      exact = λ o below m. absurd (omega (arith, zeros_at (size_of image) o));
      counted = rw (start_zero image);
    }

module _ {image : List ℕ} {limits : Limits} (layout : ImageRules image) {index : ℕ} (inside : index < count_of image)
    {needs marks marks' : List ℕ} {count need count' : ℕ}
    (before : RoutinesPassed image limits index needs marks count) (now : RoutinePassed image limits needs index marks marks' need count') where
  same_mark : (r o : ℕ) → r < index → Start image r o → get_or marks o 0 ≡ get_or marks' o 0
  same_mark r o below s =
      let high = start_high image r (begins_before_end image layout r (omega arith)) s in
      sym (now.outside o (inl (omega (arith, end_before image r index below (omega arith)))))

  same_need : (j : ℕ) → j < index → need_in needs j ≡ need_in (set needs index need) j
  same_need j below = sym (get_or-set_other needs index j need 0 (λ e. omega arith))

  own_need : need_in (set needs index need) index ≡ need
  own_need = get_or-set_same needs index need 0 (omega (arith, before.held, layout.count.1))

  pub one_more : RoutinesPassed image limits (index + 1) (set needs index need) marks' count'
  one_more =
      let next = start_next image index inside in
      record {
        size = now.size ∙ before.size;
        held = length-set needs index need ∙ before.held;
        clear = λ o low. now.outside o (inr (omega arith)) ∙ before.clear o (omega (arith, begins_before_end image layout index inside));
        rules =
            below_more (λ r. RoutineRules image limits (depth_in marks') r) index
            (λ r l. routine_map (λ o s. rw (same_mark r o l s)) (before.rules r l))
            now.rules;
        most =
            below_more (λ r. Greatest (Use image (depth_in marks') (need_in (set needs index need)) r) (need_in (set needs index need) r)) index
            (λ r l. rw (← same_need r l) (greatest_map (λ o s. rw (same_mark r o l s)) (λ j b. same_need j (omega arith)) (before.most r l)))
            (rw own_need (greatest_map (λ o s. refl) same_need now.most));
        starts = λ r below.
            below_more (λ r. (o : ℕ) → Start image r o → 1 ≤ get_or marks' o 0) index
            (λ r l o s. rw (← same_mark r o l s) (before.starts r l s))
            (λ o s. now.starts s) r below _;
        exact = λ o high m.
            by_cases (dec_lt o (start_of image index))
            (λ l. let e = before.exact o l (rw (now.outside o (inl l)) at m) in (e.0, omega (arith, e.1), e.2))
            (λ l. (index, omega arith, now.exact o (omega arith) (omega arith) m));
        counted = rw next now.counted;
      }
