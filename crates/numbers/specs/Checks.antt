-- Checks as numbers: 0 where a rule holds, else the number of the refusal.
use Rattle.std.specs.Prelude.{ℕ, Bool, cond, ltb, eqb}

-- the first of two checks that fails
unfoldable pub first : ℕ → ℕ → ℕ
first a b = cond (eqb a 0) b a

-- fails, as the second does, where both fail
unfoldable pub both : ℕ → ℕ → ℕ
both a b = cond (eqb a 0) 0 b

-- the number where a is under b
unfoldable pub under : ℕ → ℕ → ℕ → ℕ
under a b number = cond (ltb a b) number 0

-- the number unless the test holds
unfoldable pub unless : Bool → ℕ → ℕ
unless holds number = cond holds 0 number

-- the number where a and b differ
unfoldable pub differ : ℕ → ℕ → ℕ → ℕ
differ a b number = cond (eqb a b) 0 number
