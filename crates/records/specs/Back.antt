-- Stepping back: a record, made by a step or by hand, is given back.
use Rattle.std.specs.Prelude.{ℕ, cond, eqb, length, get_or, set, take}
use mathlib.Core.List.{List, [], ◌∷◌, map, foldl}
use Rattle.numbers.specs.Checks.{under, differ}
use Rattle.numbers.specs.Folds.{first_in}
use Rattle.records.specs.declared.Record.{Record}
use Rattle.records.specs.declared.SteppedBack.{SteppedBack}

-- the bytes that a record lists, in its order, as many as it counts: an address, and what is to stand there
abbrev pub listed_at : Record → ℕ → ℕ × ℕ
listed_at r k = (get_or r.addresses k 0, get_or r.values k 0)

abbrev pub listed : Record → List (ℕ × ℕ)
listed r = take r.count (listed_at r 0 ∷ listed_at r 1 ∷ [])

-- 26: an address above 7FFF
abbrev pub address_check : ℕ × ℕ → ℕ
address_check b = under 0x7FFF b.0 26

-- 17, memory not 32,768 bytes, then 26: a record of more than two bytes or an address above 7FFF
unfoldable pub back_refusal : Record → List ℕ → ℕ
back_refusal r memory =
    first_in
    (differ (length memory) 32768 17 ∷
    under 2 r.count 26 ∷
    first_in (map address_check (listed r)) ∷
    [])

-- memory with bytes written to it, one after the other
unfoldable pub given_back : List ℕ → List (ℕ × ℕ) → List ℕ
given_back memory bytes = foldl (λ m b. set m b.0 b.1) memory bytes

-- Refused, it changes no memory and gives the record's registers all the same.
unfoldable pub stepped_back : Record → List ℕ → SteppedBack × List ℕ
stepped_back r memory =
    let number = back_refusal r memory in
    (record { number = number; registers = r.registers }, cond (eqb number 0) (given_back memory (listed r)) memory)
