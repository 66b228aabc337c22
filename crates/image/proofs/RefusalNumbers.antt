-- The numbers of refusals before the sweep: 1 to 4, and of the layout 4 alone.
use Rattle.std.proofs.Common.{ℕ, ltb, List, [], ◌∷◌, map, refl}
use Rattle.numbers.specs.Folds.{first_in}
use Rattle.numbers.proofs.Checking.{by_test}
use Rattle.numbers.proofs.Numbering.{Numbered, pass, Listed, ◌then◌, under_numbered, unless_numbered, differ_numbered}
use Rattle.image.specs.declared.Area.{Area}
use Rattle.image.specs.declared.Limits.{Limits}
use Rattle.image.specs.Validation.{area_check, second_check, limits_check, mark_check, version_check, length_check, lengths_check, header_check, layout_check, refusal}

abbrev pub Validating : ℕ → Type 0
Validating number = Numbered 1 4 number

area_numbered : (area : Area) → Validating (area_check area)
unfolding area_check first_in
area_numbered area =
    under_numbered 1 refl _ _ then under_numbered 1 refl _ _ then under_numbered 1 refl _ _ then pass

second_numbered : (limits : Limits) → Validating (second_check limits)
unfolding second_check first_in
second_numbered limits =
    by_test Validating (ltb limits.second.high limits.second.low) (λ none. pass)
    (λ present. area_numbered limits.second then unless_numbered 1 refl _ then unless_numbered 1 refl _ then pass)

limits_numbered : (limits : Limits) → Validating (limits_check limits)
unfolding limits_check first_in
limits_numbered limits =
    area_numbered limits.grant then area_numbered limits.stack then under_numbered 1 refl _ _ then
    unless_numbered 1 refl _ then second_numbered limits then pass

mark_numbered : (image : List ℕ) → Validating (mark_check image)
unfolding mark_check first_in
mark_numbered image =
    under_numbered 2 refl _ _ then unless_numbered 2 refl _ then pass

-- in any range that has 4
module _ {low high : ℕ} (four : Listed low high 4) where
  each_numbered : (lengths : List ℕ) → Numbered low high (first_in (map length_check lengths))
  unfolding first_in length_check
  each_numbered [] = pass
  each_numbered (n ∷ lengths) = under_numbered 4 four n 1 then each_numbered lengths

  header_numbered : (base : ℕ) (lengths : List ℕ) → Numbered low high (header_check base lengths)
  unfolding header_check lengths_check first_in
  header_numbered base lengths =
      under_numbered 4 four _ _ then under_numbered 4 four _ _ then each_numbered lengths then
      under_numbered 4 four _ _ then under_numbered 4 four _ _ then under_numbered 4 four _ _ then pass

  pub layout_numbered : (base : ℕ) (lengths : List ℕ) (given : ℕ) → Numbered low high (layout_check base lengths given)
  unfolding layout_check
  layout_numbered base lengths given = header_numbered base lengths then differ_numbered 4 four _ _

pub validation_number_lem : (image : List ℕ) (limits : Limits) → Validating (refusal image limits)
unfolding refusal version_check first_in
validation_number_lem image limits =
    limits_numbered limits then mark_numbered image then unless_numbered 3 refl _ then layout_numbered refl _ _ _ then pass
