-- An image is refused by itself, or laid out, as it is under any limits that break no rule; and it is refused by no number exactly when the rules of images hold of it.
use Rattle.std.proofs.Common.{◌≡◌, ℕ, ◌↔◌, List, [], ◌∷◌, length, refl, ◌∙◌}
use Rattle.numbers.specs.Checks.{first, under, unless}
use Rattle.numbers.specs.Folds.{first_in}
use Rattle.numbers.proofs.Checking.{first_pass}
use Rattle.numbers.proofs.Folding.{first_none, passed, ◌&◌}
use Rattle.image.specs.Image.{base_of, count_of, lengths_of, code_of, layout_of}
use Rattle.image.specs.Lengths.{BeginsTo16, Begins}
use Rattle.image.specs.Rules.{ImageRules}
use Rattle.image.specs.Validation.{area_check, apart, second_check, limits_check, mark_check, version_check, layout_check, refusal, answer, image_check, validated, laid_out}
use Rattle.image.specs.ValidLayout.{ValidLayout}
use Rattle.image.specs.declared.Limits.{Limits}
use Rattle.image.specs.declared.Layout.{Layout}
use Rattle.image.specs.Validated.{Valid}
use Rattle.image.proofs.Validity.{image_rules, mark_pass, version_pass, layout_pass, header_whole}
use Rattle.image.proofs.Layouts.{valid_bounds, begins_whole}

pub laid_under : (image : List ℕ) (limits : Limits) → limits_check limits ≡ 0 → validated image limits ≡ laid_out image
unfolding first_in refusal validated image_check laid_out
laid_under image limits passed = rw (passed, first_pass)

-- limits that break no rule
abbrev pub some_limits : Limits
some_limits = record { grant = record { low = 0; high = 0 }; stack = record { low = 1; high = 1 }; second = record { low = 1; high = 0 } }

pub some_pass : limits_check some_limits ≡ 0
unfolding first under unless first_in limits_check area_check second_check apart
some_pass = refl

pub laid_out_lem : (image : List ℕ) → validated image some_limits ≡ laid_out image
laid_out_lem image = laid_under image some_limits some_pass

pub laid_bounds : (image : List ℕ) (layout : Layout) → laid_out image ≡ Valid layout → ValidLayout image layout
laid_bounds image layout valid = valid_bounds image some_limits layout (laid_out_lem image ∙ valid)

-- it is laid out where the first two checks pass and the third one gives the layout,
pub laid_by_checks : (image : List ℕ) {layout : Layout} → mark_check image ≡ 0 → version_check image ≡ 0 →
    answer (layout_check (base_of image) (lengths_of image) (length (code_of image))) (layout_of image) ≡ Valid layout → laid_out image ≡ Valid layout
unfolding laid_out image_check first_in
laid_by_checks image mark version laid = rw (mark, version, first_pass, first_pass, first_none) laid

-- and no routine of it begins past 16 bits
pub begins_alone : (image : List ℕ) (layout : Layout) (begins : List ℕ) → laid_out image ≡ Valid layout → BeginsTo16 image begins (count_of image) →
    Begins image begins layout.count
begins_alone image layout begins valid = begins_whole image some_limits layout (laid_out_lem image ∙ valid) begins

-- an image is not refused by itself exactly when the rules of images hold of it
pub alone_exactly : (image : List ℕ) → (image_check image ≡ 0) ↔ ImageRules image
unfolding image_check first_in
alone_exactly image =
    let layout = layout_check (base_of image) (lengths_of image) (length (code_of image)) in (
      λ e. let p = passed (mark_check image ∷ version_check image ∷ layout ∷ []) e in image_rules image p.0 p.1.0 p.1.1.0,
      λ rules. mark_pass image (header_whole image rules) rules.mark & version_pass image rules.version & layout_pass image rules & refl,
    )
