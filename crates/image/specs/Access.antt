-- Where a direct store may go: what is said of a store, by which the rules go, and its test, by which the check and the step go; and what is said
-- of a byte, by which the guarantee goes. That they agree is proved in proofs/Granting.antt.
use Rattle.std.specs.Prelude.{ℕ, ◌+◌, ◌≤◌, Bool, true, false, cond, ◌⊎◌, nat_le}
use Rattle.image.specs.Rules.{Within}
use Rattle.image.specs.declared.Area.{Area}
use Rattle.image.specs.declared.Limits.{Limits}

-- n bytes from an address lie wholly in an area: the first is not below its low end, the last not above its high end
pub record Wholly (area : Area) (address n : ℕ) : Type 0 where
  pub first : area.low ≤ address
  pub last : address + n ≤ area.high + 1

unfoldable pub wholly : Area → ℕ → ℕ → Bool
wholly area address n = cond (nat_le area.low address) (nat_le (address + n) (area.high + 1)) false

-- A direct store, both bytes of a word included, lies wholly in one of the two grants.
abbrev pub StoreGranted : Limits → ℕ → ℕ → Type 0
StoreGranted limits address n = Wholly limits.grant address n ⊎ Wholly limits.second address n

unfoldable pub granted : Limits → ℕ → ℕ → Bool
granted limits address n = cond (wholly limits.grant address n) true (wholly limits.second address n)

-- a byte that a direct store may write: it lies in either grant
abbrev pub Granted : Limits → ℕ → Type 0
Granted limits address = Within limits.grant address ⊎ Within limits.second address
