-- Numbers as they are printed.
use Rattle.std.proofs.Common.{◌≡◌, ℕ, ◌/◌, List, [], ◌∷◌, ◌++◌, map, refl, append_assoc}
use Rattle.numbers.specs.Ascii.{ascii}
use Rattle.listing.specs.Decimal.{leading, last_digit, decimal}

-- a number's digits at powers of ten, and its last
abbrev pub digits : ℕ → List ℕ → List ℕ
digits n [] = last_digit n
digits n (power ∷ powers) = leading (n / power) ++ digits n powers

pub all_digits : (n : ℕ) → digits n (10000 ∷ 1000 ∷ 100 ∷ 10 ∷ []) ≡ decimal n
unfolding decimal
all_digits n = simp append_assoc

pub printed_numbers : map decimal (0 ∷ 7 ∷ 10 ∷ 100 ∷ 255 ∷ 4096 ∷ 10005 ∷ 65535 ∷ []) ≡
    ascii "0" ∷ ascii "7" ∷ ascii "10" ∷ ascii "100" ∷ ascii "255" ∷ ascii "4096" ∷ ascii "10005" ∷ ascii "65535" ∷ []
unfolding decimal leading
printed_numbers = refl
