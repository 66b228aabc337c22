-- An image from its parts, there and back: the parts of the bytes are the parts they were made from, and an image that follows the rules is made of its
-- own parts.
use Rattle.std.proofs.Common.{◌≡◌, ℕ, zero, suc, ◌+◌, ◌*◌, ◌<◌, ◌≤◌, List, [], ◌∷◌, ◌++◌, map, length, get_or, take, drop, refl, ◌∙◌, le_of_suc-le-suc, not-suc-le-zero, arith, take-append-drop, drop-cons, drop-drop, get_or-append-add, ext_get_or, drop_at}
use lib.Seq.{drop-append-add}
use Rattle.numbers.specs.Ascii.{ascii}
use Rattle.numbers.specs.Computed.{counting}
use Rattle.numbers.specs.Lists.{Bytes}
use Rattle.numbers.specs.Words.{word_at, high, low}
use Rattle.numbers.proofs.WordLaws.{high_word, low_word, word_high_low}
use Rattle.image.specs.Image.{version_of, base_of, count_of, lengths_of, length_at, code_at, code_of}
use Rattle.image.specs.Rules.{ImageRules}
use Rattle.image.specs.Parts.{word_bytes, image_from}
use Rattle.image.proofs.Measuring.{lengths_count, length_listed}

pub words_length : (numbers : List ℕ) → length (word_bytes numbers) ≡ 2 * length numbers
words_length [] = refl
words_length (n ∷ numbers) = omega (arith, words_length numbers)

word_listed : (numbers rest : List ℕ) (k : ℕ) → k < length numbers → word_at (word_bytes numbers ++ rest) (2 * k) ≡ get_or numbers k 0
unfolding word_at
word_listed [] rest k h = absurd (not-suc-le-zero h)
word_listed (n ∷ numbers) rest zero h = word_high_low n
word_listed (n ∷ numbers) rest (suc k) h =
    let next : 2 * suc k ≡ suc (suc (2 * k)) = omega arith in
    let second : suc (suc (2 * k)) + 1 ≡ suc (suc (2 * k + 1)) = omega arith in
    rw (next, second) (word_listed numbers rest k (le_of_suc-le-suc h))

bytes_after : (b : ℕ) (rest : List ℕ) → b < 256 → Bytes rest → Bytes (b ∷ rest)
bytes_after b rest fits h zero = fits
bytes_after b rest fits h (suc k) = h k

words_bytes : (numbers rest : List ℕ) → ((k : ℕ) → get_or numbers k 0 < 65536) → Bytes rest → Bytes (word_bytes numbers ++ rest)
unfolding high low
words_bytes [] rest fits h = h
words_bytes (n ∷ numbers) rest fits h =
    let after = word_bytes numbers ++ rest in
    bytes_after (high n) (low n ∷ after) (omega (arith, fits 0))
    (bytes_after (low n) after (omega arith) (words_bytes numbers rest (λ k. fits (suc k)) h))

-- The parts of what is made from parts are those, whatever numbers they are.
module _ (version base : ℕ) (lengths code : List ℕ) where
  -- the eight bytes before the length list
  front : List ℕ
  front = ascii "SLU" ++ word_bytes (version ∷ base ∷ []) ++ length lengths ∷ []

  pub version_from : version_of (image_from version base lengths code) ≡ version
  unfolding image_from version_of word_at
  version_from = word_high_low version

  pub base_from_lem : base_of (image_from version base lengths code) ≡ base
  unfolding image_from base_of word_at
  base_from_lem = word_high_low base

  pub count_from_lem : count_of (image_from version base lengths code) ≡ length lengths
  unfolding image_from count_of
  count_from_lem = refl

  past_front : (n : ℕ) → word_at (image_from version base lengths code) (8 + n) ≡ word_at (word_bytes lengths ++ code) n
  unfolding image_from word_at front
  past_front n =
      let next : 8 + n + 1 ≡ 8 + (n + 1) = omega arith in
      rw (next, get_or-append-add front (word_bytes lengths ++ code) n 0, get_or-append-add front (word_bytes lengths ++ code) (n + 1) 0)

  pub lengths_from : lengths_of (image_from version base lengths code) ≡ lengths
  unfolding length_at
  lengths_from =
      let image = image_from version base lengths code in
      let count = lengths_count image ∙ count_from_lem in
      ext_get_or 0 (lengths_of image) lengths count
      (λ k h.
      let inside : k < length lengths = omega (arith, count) in
      length_listed image k (omega (arith, count_from_lem)) ∙ past_front (2 * k) ∙ word_listed lengths code k inside)

  pub code_from : code_of (image_from version base lengths code) ≡ code
  unfolding image_from code_of code_at front count_of
  code_from =
      drop-append-add front (word_bytes lengths ++ code) (2 * length lengths) ∙
      drop_at (word_bytes lengths) code (2 * length lengths) (words_length lengths)

  -- What is made is bytes where the parts have their widths: 16 bits each, and 8 bits for the count.
  pub bytes_from_lem : version < 65536 → base < 65536 → length lengths < 256 → ((k : ℕ) → get_or lengths k 0 < 65536) → Bytes code →
      Bytes (image_from version base lengths code)
  unfolding image_from
  bytes_from_lem v b n l c =
      let listed = word_bytes lengths ++ code in
      let numbers = word_bytes (version ∷ base ∷ []) ++ length lengths ∷ listed in
      bytes_after 0x53 (0x4C ∷ 0x55 ∷ numbers) (omega arith)
      (bytes_after 0x4C (0x55 ∷ numbers) (omega arith)
      (bytes_after 0x55 numbers (omega arith)
      (words_bytes (version ∷ base ∷ []) (length lengths ∷ listed) pair
      (bytes_after (length lengths) listed n (words_bytes lengths code l c)))))
    where
      pair : (k : ℕ) → get_or (version ∷ base ∷ []) k 0 < 65536
      pair zero = v
      pair (suc zero) = b
      pair (suc (suc k)) = omega arith

two_ahead : (s : List ℕ) (j : ℕ) → j + 2 ≤ length s → drop j s ≡ get_or s j 0 ∷ get_or s (j + 1) 0 ∷ drop (j + 2) s
two_ahead s j h =
    let second : suc j ≡ j + 1 = omega arith in
    let third : suc (j + 1) ≡ j + 2 = omega arith in
    rw (drop-cons s j 0 (omega arith), second, drop-cons s (j + 1) 0 (omega arith), third)

-- two bytes from their word, so a list of bytes from its words
words_taken : (s : List ℕ) → Bytes s → (a n i : ℕ) → a + 2 * i + 2 * n ≤ length s →
    word_bytes (map (λ k. word_at s (a + 2 * k)) (counting n i)) ≡ take (2 * n) (drop (a + 2 * i) s)
unfolding word_at
words_taken s h a zero i fits = refl
words_taken s h a (suc n) i fits =
    let j = a + 2 * i in
    let more : 2 * suc n ≡ suc (suc (2 * n)) = omega arith in
    let there : a + 2 * suc i ≡ j + 2 = omega arith in
    rw (more, two_ahead s j (omega arith), high_word (get_or s j 0) (get_or s (j + 1) 0) (h (j + 1)), low_word (get_or s j 0) (get_or s (j + 1) 0) (h (j + 1)))
    (rw (words_taken s h a n (suc i) (omega arith), there))

made_of : (version base count : ℕ) (lengths code mark words listed : List ℕ) → mark ≡ ascii "SLU" → word_bytes (version ∷ base ∷ []) ≡ words →
    length lengths ≡ count → word_bytes lengths ≡ listed → image_from version base lengths code ≡ mark ++ (words ++ count ∷ (listed ++ code))
unfolding image_from
made_of version base count lengths code mark words listed m w n l = rw (m, ← w, ← n, ← l)

-- An image is made of its own parts where its mark and its length list are whole, and so where the rules hold of it.
module _ (image : List ℕ) (bytes : Bytes image) where
  own_parts : take 3 image ≡ ascii "SLU" → code_at image ≤ length image →
      image_from (version_of image) (base_of image) (lengths_of image) (code_of image) ≡ image
  unfolding version_of base_of lengths_of count_of code_at code_of
  own_parts mark whole =
      let n = 2 * get_or image 7 0 in
      made_of (version_of image) (base_of image) (count_of image) (lengths_of image) (code_of image) (take 3 image) (take 4 (drop 3 image)) (take n (drop 8 image))
      mark (words_taken image bytes 3 2 0 (omega arith)) (lengths_count image) (words_taken image bytes 8 (count_of image) 0 (omega arith)) ∙
      rw (← drop-drop n 8 image, take-append-drop n (drop 8 image), ← drop-cons image 7 0 (omega arith), ← drop-drop 4 3 image)
      (rw (take-append-drop 4 (drop 3 image), take-append-drop 3 image))

  pub from_own : ImageRules image → image_from (version_of image) (base_of image) (lengths_of image) (code_of image) ≡ image
  from_own rules = own_parts rules.mark (omega (arith, rules.end))
