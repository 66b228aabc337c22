-- The length list of an image, and where its routines begin and end.
use Rattle.std.proofs.Common.{◌≡◌, ℕ, ◌+◌, ◌-◌, ◌*◌, ◌<◌, ◌≤◌, List, length, refl, ap, ◌∙◌, arith, length-drop, take_all}
use Rattle.numbers.specs.Folds.{total}
use Rattle.numbers.specs.Words.{word_at}
use Rattle.numbers.proofs.Computing.{mapped_length, mapped_at}
use Rattle.numbers.proofs.Folding.{total_more, total_front, total_rises}
use Rattle.image.specs.Image.{count_of, lengths_of, length_at, size_of, start_of, end_of, code_at, code_of}

module _ (image : List ℕ) where
  pub lengths_count : length (lengths_of image) ≡ count_of image
  unfolding lengths_of
  lengths_count = mapped_length (λ k. word_at image (8 + 2 * k)) (count_of image) 0

  pub length_listed : (k : ℕ) → k < count_of image → length_at image k ≡ word_at image (8 + 2 * k)
  unfolding lengths_of length_at
  length_listed k h =
      mapped_at (λ k. word_at image (8 + 2 * k)) (count_of image) 0 k 0 h ∙
      ap (λ n. word_at image (8 + 2 * n)) (omega arith)

  -- routine 0 begins at the first code byte, each other one where the one before it ends, and the last one ends with the code
  pub start_zero : start_of image 0 ≡ 0
  unfolding start_of total
  start_zero = refl

  pub start_next : (k : ℕ) → k < count_of image → start_of image (k + 1) ≡ end_of image k
  unfolding start_of end_of length_at
  start_next k h = total_more (lengths_of image) k 0 (omega (arith, lengths_count))

  pub start_count : start_of image (count_of image) ≡ size_of image
  unfolding start_of size_of
  start_count = ap total (take_all (count_of image) (lengths_of image) (omega (arith, lengths_count)))

  -- routines lie inside the code, one after the other
  pub start_inside : (k : ℕ) → start_of image k ≤ size_of image
  unfolding start_of size_of
  start_inside k = total_front k (lengths_of image)

  pub start_rises : (j k : ℕ) → j ≤ k → start_of image j ≤ start_of image k
  unfolding start_of
  start_rises j k = total_rises j k (lengths_of image)

  pub end_inside : (k : ℕ) → k < count_of image → end_of image k ≤ size_of image
  end_inside k h = rw (start_next k h) at (start_inside (k + 1))

  -- a routine with a byte makes the code have one
  pub size_some : 1 ≤ count_of image → 1 ≤ length_at image 0 → 1 ≤ size_of image
  unfolding end_of
  size_some some long = omega (arith, end_inside 0 some)

  pub end_before : (j k : ℕ) → j < k → j < count_of image → end_of image j ≤ start_of image k
  end_before j k h below = rw (start_next j below) at (start_rises (j + 1) k (omega arith))

  pub code_length : length (code_of image) ≡ length image - code_at image
  unfolding code_of
  code_length = length-drop (code_at image) image
