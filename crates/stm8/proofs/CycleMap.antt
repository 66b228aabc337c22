-- The figures of the op-code map, row by row: typed once more from the manual's pages, by op-code, and held against the cycles of what stands there, whatever
-- bytes come after. A row is one number, a digit of four bits for each column, column 0 on the right; 0 is an entry outside the set. These are the figures
-- where no branch is taken, and one that is costs one cycle more (`figures` in CycleLaws).
use Prim.Native.Nat.{ℕ, ◌+◌, ◌*◌}
use mathlib.Core.Path.{◌≡◌, refl}
use mathlib.Core.List.{List, [], ◌∷◌, map}
use Rattle.stm8.specs.OpcodeMap.{Plain, After72, After90, Entry, Blank, Is, rows}
use Rattle.stm8.specs.Cycles.{cycles}

abbrev digits : List ℕ → ℕ
digits [] = 0
digits (n ∷ s) = n + 16 * digits s

abbrev figure : Entry → ℕ
figure Blank = 0
figure (Is i) = (cycles i).untaken

abbrev pub figure_rows : List (List Entry) → List ℕ
figure_rows page = map (λ row. digits (map figure row)) page

pub plain_rows : (a b c d : ℕ) →
    figure_rows (rows Plain a b c d) ≡
    0x0000000000000000 ∷ 0x2222111122110111 ∷ 0x1111111111111112 ∷ 0x1111111111111101 ∷
    0x1111111111111401 ∷ 0x1001210000100110 ∷ 0x0000100000000000 ∷ 0x0000100000000000 ∷
    0x0001002100210040 ∷ 0x1111001110101000 ∷ 0x0240111101112111 ∷ 0x0000111111110111 ∷
    0x2240111111110111 ∷ 0x0000111101110111 ∷ 0x0000111101110111 ∷ 0x0000111101110111 ∷ []
plain_rows a b c d = refl

-- the page after 72 ends with row A
pub after_72_rows : (a b c d : ℕ) →
    figure_rows (rows After72 a b c d) ≡
    0x2222222222222222 ∷ 0x1111111111111111 ∷ 0 ∷ 0 ∷ 0 ∷ 0x1111011111011001 ∷ 0 ∷ 0 ∷ 0 ∷ 0 ∷ 0x0000002000000200 ∷ []
after_72_rows a b c d = refl

pub after_90_rows : (a b c d : ℕ) →
    figure_rows (rows After90 a b c d) ≡
    0 ∷ 0x1111111111111111 ∷ 0 ∷ 0 ∷ 0x0000000000000400 ∷ 0x1001010000000000 ∷ 0 ∷ 0 ∷
    0x0000002000200000 ∷ 0x1100000010101000 ∷ 0x0200000000002000 ∷ 0 ∷
    0x2200000000000000 ∷ 0x0000111101110111 ∷ 0x0000111101110111 ∷ 0x0000111101110111 ∷ []
after_90_rows a b c d = refl
