-- Decimal digits.
use Rattle.std.specs.Prelude.{ℕ, ◌+◌, ◌/◌, ◌%◌, cond, List, [], ◌∷◌, ◌++◌, eqb}

-- the last digit of a number
abbrev pub last_digit : ℕ → List ℕ
last_digit n = (48 + n % 10) ∷ []

-- the same where other digits follow: no zeros stand in front
unfoldable pub leading : ℕ → List ℕ
leading n = cond (eqb n 0) [] (last_digit n)

-- a number of at most five digits, as every number of 16 bits is
unfoldable pub decimal : ℕ → List ℕ
decimal n = leading (n / 10000) ++ leading (n / 1000) ++ leading (n / 100) ++ leading (n / 10) ++ last_digit n
