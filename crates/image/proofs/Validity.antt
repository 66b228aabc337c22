-- An image and limits are valid exactly when document 01's rules hold of them.
use Rattle.std.proofs.Common.{◌≡◌, ℕ, ◌+◌, ◌<◌, ◌≤◌, Bool, true, false, cond, eqb, ltb, ◌⊎◌, ◌↔◌, List, length, take, sym, refl, ◌∙◌, inl, inr, ⊎_elim, arith, ltb-false, ltb-true, le-ltb, lt-ltb, eq-eqb, ne_eqb, eqb-true}
use borrow.Author.Tests.{eqb-false}
use Rattle.numbers.specs.Ascii.{ascii}
use Rattle.numbers.specs.Checks.{first, differ, unless}
use Rattle.numbers.specs.Folds.{first_in}
use Rattle.numbers.proofs.Checking.{by_cond, by_test, first_zero, under_zero, under_pass, differ_zero, differ_pass, unless_zero, unless_pass}
use Rattle.numbers.proofs.Folding.{passed, passed_at, pass_at, ◌&◌}
use Rattle.numbers.proofs.Comparing.{same_refl, same_true}
use Rattle.image.specs.Image.{version_of, base_of, count_of, lengths_of, length_at, code_at, code_of, size_of, layout_of}
use Rattle.image.specs.Validation.{area_check, apart, second_check, limits_check, mark_check, version_check, length_check, lengths_check, header_check, layout_check, refusal, answer, validated, validation_number}
use Rattle.image.specs.Rules.{Apart, AreaRules, Present, SecondRules, LimitsRules, ImageRules}
use Rattle.image.specs.declared.Area.{Area}
use Rattle.image.specs.declared.Limits.{Limits}
use Rattle.image.specs.declared.Layout.{Layout}
use Rattle.image.specs.Validated.{Refused, Valid}
use Rattle.image.proofs.Measuring.{lengths_count, size_some, code_length}

-- a second check counts only where the first passes
first_then : (a : ℕ) {b c : ℕ} → (a ≡ 0 → b ≡ c) → first a b ≡ first a c
unfolding first
first_then a {b} {c} h = go (eqb a 0) refl
  where
    go : (t : Bool) → eqb a 0 ≡ t → cond t b a ≡ cond t c a
    go true e = h (eqb-true a 0 e)
    go false e = refl

differ_alike : (a b c d k : ℕ) → (a ≡ b) ↔ (c ≡ d) → differ a b k ≡ differ c d k
unfolding differ
differ_alike a b c d k h = go (eqb a b) refl
  where
    go : (t : Bool) → eqb a b ≡ t → cond t 0 k ≡ cond (eqb c d) 0 k
    go true e = rw (eq-eqb c d (h.0 (eqb-true a b e)))
    go false e = rw (ne_eqb c d (λ p. eqb-false a b e (h.1 p)))

module _ (area : Area) where
  area_rules : area_check area ≡ 0 → AreaRules area
  unfolding area_check
  area_rules e =
      let p = passed _ e in
      record { ordered = under_zero _ _ 0 p.0; low = under_zero _ _ 0 p.1.0; high = under_zero _ _ 0 p.1.1.0 }

  area_pass : AreaRules area → area_check area ≡ 0
  unfolding area_check first_in
  area_pass h = under_pass _ _ 1 h.ordered & under_pass _ _ 1 h.low & under_pass _ _ 1 h.high & refl

-- Areas that the test says are apart don't meet, whatever they are. Areas that don't meet are apart by the test where each has its low not above its
-- high; one whose low is above its high holds no address and so meets none, and what the test says of it depends on its ends.
module _ (a b : Area) where
  pub apart_rule : apart a b ≡ true → Apart a b
  unfolding apart
  apart_rule e address p q =
      by_cond (ltb a.high b.low)
      (λ t u. omega (arith, ltb-true a.high b.low t))
      (λ t u. omega (arith, ltb-true b.high a.low u))
      e

  module _ (p : a.low ≤ a.high) (q : b.low ≤ b.high) where
    apart_ends : Apart a b → (a.high < b.low) ⊎ (b.high < a.low)
    apart_ends apart = go (ltb a.high b.low) refl
      where
        go : (t : Bool) → ltb a.high b.low ≡ t → (a.high < b.low) ⊎ (b.high < a.low)
        go true e = inl (ltb-true a.high b.low e)
        go false e =
            let reach = ltb-false a.high b.low e in
            let f : a.low ≤ b.low → ⊥ = λ h. apart b.low (record { above = h; below = reach }) (record { above = omega arith; below = q }) in
            let g : a.low ≤ b.high → ⊥ = λ h. apart a.low (record { above = omega arith; below = p }) (record { above = omega (arith, f); below = h }) in
            inr (omega (arith, g))

    apart_pass : Apart a b → apart a b ≡ true
    unfolding apart
    apart_pass h =
        by_test (λ t. t ≡ true) (ltb a.high b.low) (λ t. refl)
        (λ t. ⊎_elim (λ l. absurd (omega (arith, ltb-false a.high b.low t))) (lt-ltb b.high a.low) (apart_ends h))

    pub apart_exactly : (apart a b ≡ true) ↔ Apart a b
    apart_exactly = (apart_rule, apart_pass)

module _ (limits : Limits) where
  second_rules : second_check limits ≡ 0 → Present limits.second → SecondRules limits
  unfolding second_check
  second_rules e present =
      let p = passed _ (rw (le-ltb _ _ present) at e) in
      record {
        area = area_rules limits.second p.0;
        off_grant = apart_rule limits.grant limits.second (unless_zero _ 0 p.1.0);
        off_stack = apart_rule limits.stack limits.second (unless_zero _ 0 p.1.1.0);
      }

  second_pass : LimitsRules limits → second_check limits ≡ 0
  unfolding second_check first_in
  second_pass h =
      by_test (λ n. n ≡ 0) (ltb limits.second.high limits.second.low) (λ none. refl)
      (λ t.
      let present = ltb-false limits.second.high limits.second.low t in
      let s = h.second present in
      area_pass limits.second s.area &
      rw (apart_pass limits.grant limits.second h.grant.ordered present s.off_grant) (unless_pass 1) &
      rw (apart_pass limits.stack limits.second h.stack.ordered present s.off_stack) (unless_pass 1) & refl)

  pub limits_rules : limits_check limits ≡ 0 → LimitsRules limits
  unfolding limits_check
  limits_rules e =
      let p = passed _ e in
      record {
        grant = area_rules limits.grant p.0;
        stack = area_rules limits.stack p.1.0;
        stack_low = under_zero _ _ 0 p.1.1.0;
        apart = apart_rule limits.grant limits.stack (unless_zero _ 0 p.1.1.1.0);
        second = second_rules p.1.1.1.1.0;
      }

  limits_pass : LimitsRules limits → limits_check limits ≡ 0
  unfolding limits_check first_in
  limits_pass h =
      area_pass limits.grant h.grant & area_pass limits.stack h.stack & under_pass _ _ 1 h.stack_low &
      rw (apart_pass limits.grant limits.stack h.grant.ordered h.stack.ordered h.apart) (unless_pass 1) &
      second_pass h & refl

module _ (image : List ℕ) where
  mark_rule : mark_check image ≡ 0 → take 3 image ≡ ascii "SLU"
  unfolding mark_check
  mark_rule e = same_true _ _ (unless_zero _ 1 (passed _ e).1.0)

  pub mark_pass : 8 ≤ length image → take 3 image ≡ ascii "SLU" → mark_check image ≡ 0
  unfolding mark_check first_in
  mark_pass long e = under_pass _ _ 2 long & rw (e, same_refl) (unless_pass 2) & refl

  lengths_rule : lengths_check (lengths_of image) ≡ 0 → (k : ℕ) → k < count_of image → 1 ≤ length_at image k
  unfolding lengths_check length_check length_at
  lengths_rule e k h = under_zero _ _ 3 (passed_at length_check (lengths_of image) e k (omega (arith, lengths_count image)))

  lengths_pass : ((k : ℕ) → k < count_of image → 1 ≤ length_at image k) → lengths_check (lengths_of image) ≡ 0
  unfolding lengths_check length_check length_at
  lengths_pass h = pass_at length_check (lengths_of image) (λ k below. under_pass _ _ 4 (h k (omega (arith, lengths_count image))))

  -- where the header follows the rules there is a code byte
  code_some : header_check (base_of image) (lengths_of image) ≡ 0 → 1 ≤ size_of image
  unfolding header_check
  code_some h =
      let p = passed _ h in
      let some : 1 ≤ count_of image = omega (arith, lengths_count image, under_zero _ _ 3 p.0) in
      size_some image some (lengths_rule p.1.1.0 0 some)

  -- so the code is whole exactly where the file ends with it, and the header's refusal comes first where it is cut
  pub layout_tested : first (header_check (base_of image) (lengths_of image)) (differ (length image) (code_at image + size_of image) 4) ≡
      layout_check (base_of image) (lengths_of image) (length (code_of image))
  unfolding layout_check size_of
  layout_tested =
      first_then _ (λ h.
      differ_alike _ _ _ _ 4 (λ e. omega (arith, code_length image), λ e. omega (arith, code_length image, code_some h)))

  version_rule : version_check image ≡ 0 → (version_of image ≡ 0x0001) ⊎ (version_of image ≡ 0x0002)
  unfolding version_check
  version_rule e =
      by_cond (eqb (version_of image) 0x0001)
      (λ t k. inl (eqb-true _ _ t))
      (λ t k. inr (eqb-true _ _ k))
      (unless_zero _ 2 e)

  pub image_rules : mark_check image ≡ 0 → version_check image ≡ 0 →
      layout_check (base_of image) (lengths_of image) (length (code_of image)) ≡ 0 → ImageRules image
  unfolding layout_check header_check size_of
  image_rules m v l =
      let h = first_zero _ _ l in
      let p = passed _ h.0 in
      let q = p.1.1.1 in
      record {
        mark = mark_rule m;
        version = version_rule v;
        count = (omega (arith, lengths_count image, under_zero _ _ 3 p.0), omega (arith, lengths_count image, under_zero _ _ 3 p.1.0));
        lengths = lengths_rule p.1.1.0;
        code = under_zero _ _ 3 q.0;
        base = under_zero _ _ 3 q.1.0;
        top = under_zero _ _ 3 q.1.1.0;
        end = omega (arith, code_length image, code_some h.0, differ_zero _ _ 3 h.1);
      }

  pub version_pass : (version_of image ≡ 0x0001) ⊎ (version_of image ≡ 0x0002) → version_check image ≡ 0
  unfolding version_check unless
  version_pass (inl first) = rw first
  version_pass (inr second) = rw second

  pub layout_pass : ImageRules image → layout_check (base_of image) (lengths_of image) (length (code_of image)) ≡ 0
  unfolding layout_check header_check size_of first_in
  layout_pass h =
      (under_pass _ _ 4 (omega (arith, lengths_count image, h.count.0)) & under_pass _ _ 4 (omega (arith, lengths_count image, h.count.1)) &
      lengths_pass h.lengths & under_pass _ _ 4 h.code & under_pass _ _ 4 h.base & under_pass _ _ 4 h.top & refl) &
      differ_pass _ _ 4 (omega (arith, code_length image, h.end))

  -- an image that follows the rules has its header
  pub header_whole : ImageRules image → 8 ≤ length image
  unfolding code_at
  header_whole h = omega (arith, h.end)

-- an answer says its number, or that there is none, and then the layout
module _ (number : ℕ) (layout : Layout) where
  pub answer_refused : (refused : ℕ) → answer number layout ≡ Refused refused → (number ≡ refused) × (refused ≡ 0 → ⊥)
  answer_refused refused =
      by_cond (eqb number 0)
      (λ t e. let z : ◌≡◌ {A = ℕ} 0 1 = cc in absurd (omega arith))
      (λ t e. let same : number ≡ refused = cc in (same, λ z. eqb-false number 0 t (same ∙ z)))

  pub answer_valid : (found : Layout) → answer number layout ≡ Valid found → (number ≡ 0) × (found ≡ layout)
  answer_valid found =
      by_cond (eqb number 0)
      (λ t e. let same : found ≡ layout = cc in (eqb-true number 0 t, same))
      (λ t e. let z : ◌≡◌ {A = ℕ} 0 1 = cc in absurd (omega arith))

module _ (image : List ℕ) (limits : Limits) where
  -- document 01's number of what validating gives
  pub number : validation_number (validated image limits) ≡ refusal image limits
  unfolding validated
  number = go (eqb (refusal image limits) 0) refl
    where
      go : (t : Bool) → eqb (refusal image limits) 0 ≡ t → validation_number (cond t (Valid (layout_of image)) (Refused (refusal image limits))) ≡ refusal image limits
      go true e = sym (eqb-true _ _ e)
      go false e = refl

  -- a valid answer holds the layout
  pub valid_layout : (layout : Layout) → validated image limits ≡ Valid layout → layout ≡ layout_of image
  unfolding validated
  valid_layout layout e = (answer_valid (refusal image limits) (layout_of image) layout e).1

  not_refused : (layout : Layout) → validated image limits ≡ Valid layout → refusal image limits ≡ 0
  unfolding validated
  not_refused layout e = (answer_valid (refusal image limits) (layout_of image) layout e).0

  pub valid_rules : (layout : Layout) → validated image limits ≡ Valid layout → LimitsRules limits × ImageRules image
  unfolding refusal
  valid_rules layout e =
      let p = passed _ (not_refused layout e) in
      (limits_rules limits p.0, image_rules image p.1.0 p.1.1.0 p.1.1.1.0)

  pub rules_valid : LimitsRules limits → ImageRules image → validated image limits ≡ Valid (layout_of image)
  unfolding validated refusal first_in
  rules_valid l h =
      let passes : refusal image limits ≡ 0 =
      limits_pass limits l & mark_pass image (header_whole image h) h.mark & version_pass image h.version & layout_pass image h & refl in
      rw passes

  pub valid_exactly : (validated image limits ≡ Valid (layout_of image)) ↔ (LimitsRules limits × ImageRules image)
  valid_exactly = (valid_rules (layout_of image), λ h. rules_valid h.0 h.1)
