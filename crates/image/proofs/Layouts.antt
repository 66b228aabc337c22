-- A valid layout is what its image says, within bounds.
use Rattle.std.proofs.Common.{◌≡◌, ℕ, ◌+◌, ◌-◌, ◌<◌, List, sym, refl, ap, ◌∙◌, subst, mod-eq_of_lt, arith}
use Rattle.image.specs.Image.{version_of, base_of, count_of, code_at, size_of, layout_of, start_of, end_of, main_of}
use Rattle.image.specs.Lengths.{BeginsTo16, Begins}
use Rattle.image.specs.Validation.{validated}
use Rattle.image.specs.Rules.{LimitsRules, ImageRules}
use Rattle.image.specs.ValidLayout.{ValidLayout}
use Rattle.image.specs.declared.Limits.{Limits}
use Rattle.image.specs.declared.Layout.{Layout}
use Rattle.image.specs.Validated.{Valid}
use Rattle.image.proofs.Measuring.{start_next, start_count, start_inside, end_inside, code_length}
use Rattle.image.proofs.Validity.{valid_layout, valid_rules}

module _ (image : List ℕ) where
  pub begins_before_end : ImageRules image → (k : ℕ) → k < count_of image → start_of image k < end_of image k
  unfolding end_of
  begins_before_end rules k h = omega (arith, rules.lengths k h)

  pub main_ends : ImageRules image → end_of image (main_of image) ≡ size_of image
  unfolding main_of
  main_ends rules =
      let last : count_of image - 1 + 1 ≡ count_of image = omega (arith, rules.count.0) in
      sym (start_next image (count_of image - 1) (omega (arith, rules.count.0))) ∙ rw last (start_count image)

  pub rules_layout : ImageRules image → ValidLayout image (layout_of image)
  unfolding layout_of code_at
  rules_layout rules =
      let main = main_ends rules in
      let inside = end_inside image 0 (omega (arith, rules.count.0)) in
      record {
        is = refl;
        count = rules.count;
        header = refl;
        end = sym rules.end;
        code = code_length image ∙ omega (arith, rules.end);
        size = (omega (arith, begins_before_end rules 0 rules.count.0, inside), rules.code);
        base = rules.base;
        top = rules.top;
        begins = begins_before_end rules;
        ends = end_inside image;
        main = main;
      }

module _ (image : List ℕ) (limits : Limits) (layout : Layout) (valid : validated image limits ≡ Valid layout) where
  pub valid_bounds : ValidLayout image layout
  valid_bounds =
      subst (λ (l : Layout). ValidLayout image l) (sym (valid_layout image limits layout valid))
      (rules_layout image (valid_rules image limits layout valid).1)

  pub valid_limits : LimitsRules limits
  valid_limits = (valid_rules image limits layout valid).0

  pub version_is : layout.version ≡ version_of image
  unfolding layout_of
  version_is = ap (λ (l : Layout). l.version) (valid_layout image limits layout valid)

  pub base_is : layout.base ≡ base_of image
  unfolding layout_of
  base_is = ap (λ (l : Layout). l.base) (valid_layout image limits layout valid)

  pub count_is : layout.count ≡ count_of image
  unfolding layout_of
  count_is = ap (λ (l : Layout). l.count) (valid_layout image limits layout valid)

  pub code_is : layout.code ≡ code_at image
  unfolding layout_of
  code_is = ap (λ (l : Layout). l.code) (valid_layout image limits layout valid)

  pub size_is : layout.size ≡ size_of image
  unfolding layout_of
  size_is = ap (λ (l : Layout). l.size) (valid_layout image limits layout valid)

  -- no routine of it begins past 16 bits
  pub begins_whole : (begins : List ℕ) → BeginsTo16 image begins (count_of image) → Begins image begins layout.count
  begins_whole begins told k below =
      told k (omega (arith, count_is)) (omega (arith, valid_bounds.count.1)) ∙
      mod-eq_of_lt (omega (arith, start_inside image k, size_is, valid_bounds.size.1))
