-- Parts that are not refused make an image that follows the rules.
use Rattle.std.proofs.Common.{◌≡◌, ℕ, ◌<◌, ◌≤◌, List, length, take, refl, inr, arith, le-ltb, lt-ltb}
use Rattle.numbers.specs.Ascii.{ascii}
use Rattle.numbers.specs.Checks.{first, under}
use Rattle.numbers.specs.Folds.{first_in}
use Rattle.image.specs.Parts.{image_from}
use Rattle.image.specs.Rules.{ImageRules}
use Rattle.image.specs.Validation.{header_check, layout_check}
use Rattle.image.proofs.FromParts.{version_from, base_from_lem, lengths_from, code_from}
use Rattle.image.proofs.Validity.{mark_pass, version_pass, image_rules}

module _ (base : ℕ) (lengths : List ℕ) where
  pub too_many : (given : ℕ) → 32 < length lengths → layout_check base lengths given ≡ 4
  unfolding layout_check header_check first_in first under
  too_many given many = rw (le-ltb (length lengths) 1 (omega arith), lt-ltb 32 (length lengths) many)

  module _ (code : List ℕ) where
    mark : take 3 (image_from 0x0002 base lengths code) ≡ ascii "SLU"
    unfolding image_from
    mark = refl

    whole : 8 ≤ length (image_from 0x0002 base lengths code)
    unfolding image_from
    whole = omega arith

  pub parts_rules : (code : List ℕ) → layout_check base lengths (length code) ≡ 0 → ImageRules (image_from 0x0002 base lengths code)
  parts_rules code passes =
      let image = image_from 0x0002 base lengths code in
      image_rules image (mark_pass image (whole code) (mark code))
      (version_pass image (inr (version_from 0x0002 base lengths code)))
      (rw (base_from_lem 0x0002 base lengths code, lengths_from 0x0002 base lengths code, code_from 0x0002 base lengths code) passes)
