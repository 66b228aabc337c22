-- A list of numbers made one: its sum, and the first of its checks that fails.
use Rattle.std.specs.Prelude.{ℕ, ◌+◌}
use mathlib.Core.List.{List, foldr}
use Rattle.numbers.specs.Checks.{first}

unfoldable pub total : List ℕ → ℕ
total numbers = foldr ◌+◌ 0 numbers

unfoldable pub first_in : List ℕ → ℕ
first_in checks = foldr first 0 checks
