-- The rules of limits and images, as document 01, W-205 and W-212 state them.
use Rattle.std.specs.Prelude.{◌≡◌, ℕ, ◌+◌, ◌<◌, ◌≤◌, ◌⊎◌, List, length, take}
use Rattle.numbers.specs.Ascii.{ascii}
use Rattle.image.specs.Image.{version_of, base_of, count_of, length_at, code_at, size_of}
use Rattle.image.specs.declared.Area.{Area}
use Rattle.image.specs.declared.Limits.{Limits}

-- an address lies in an area, ends included
pub record Within (area : Area) (address : ℕ) : Type 0 where
  pub above : area.low ≤ address
  pub below : address ≤ area.high

-- two areas don't meet: no address lies in both
abbrev pub Apart : Area → Area → Type 0
Apart a b = (address : ℕ) → Within a address → Within b address → ⊥

-- low is not above high, all are at most 7FFF
pub record AreaRules (area : Area) : Type 0 where
  pub ordered : area.low ≤ area.high
  pub low : area.low ≤ 0x7FFF
  pub high : area.high ≤ 0x7FFF

-- a second grant is present where its low is not above its high; then it obeys the grant's rules and meets neither it nor the stack
abbrev pub Present : Area → Type 0
Present second = second.low ≤ second.high

pub record SecondRules (limits : Limits) : Type 0 where
  pub area : AreaRules limits.second
  pub off_grant : Apart limits.grant limits.second
  pub off_stack : Apart limits.stack limits.second

-- stack low is at least 1, and the areas don't meet
pub record LimitsRules (limits : Limits) : Type 0 where
  pub grant : AreaRules limits.grant
  pub stack : AreaRules limits.stack
  pub stack_low : 1 ≤ limits.stack.low
  pub apart : Apart limits.grant limits.stack
  pub second : Present limits.second → SecondRules limits

-- the three letters SLU, then version 0001 or 0002; count is 1 to 32, each length at least 1, code at most 4,096 bytes, base at least 8000,
-- base plus code at most 10000; the file ends with the code
pub record ImageRules (image : List ℕ) : Type 0 where
  pub mark : take 3 image ≡ ascii "SLU"
  pub version : (version_of image ≡ 0x0001) ⊎ (version_of image ≡ 0x0002)
  pub count : (1 ≤ count_of image) × (count_of image ≤ 32)
  pub lengths : (k : ℕ) → k < count_of image → 1 ≤ length_at image k
  pub code : size_of image ≤ 4096
  pub base : 0x8000 ≤ base_of image
  pub top : base_of image + size_of image ≤ 0x10000
  pub end : length image ≡ code_at image + size_of image
