-- A record of 46 bytes: the code's length, the code, the registers at 6 and four cells at 17 before the step, and the registers at 29 and two
-- cells at 40 after it.
use Rattle.std.specs.Prelude.{ℕ, ◌+◌, ◌≡◌, List, [], ◌∷◌, get_or, take, drop}
use Rattle.image.specs.Image.{limits_of}
use Rattle.execution.specs.Performing.{result}
use Rattle.machine.specs.Step.{stepped}
use Rattle.execution.specs.declared.Registers.{Registers}
use Rattle.execution.specs.declared.StepAnswer.TheVariants.{Made}
use Rattle.vectors.specs.Bytes.{registers_of, with_cells}

-- an image with one routine at PC, and room for five bytes of code
abbrev pub longest_image : List ℕ → List ℕ
longest_image s =
    0x53 ∷ 0x4C ∷ 0x55 ∷ 0 ∷ 1 ∷ get_or s 15 0 ∷ get_or s 16 0 ∷ 1 ∷ 0 ∷ get_or s 0 0 ∷
    get_or s 1 0 ∷ get_or s 2 0 ∷ get_or s 3 0 ∷ get_or s 4 0 ∷ get_or s 5 0 ∷ []

-- the same with as much code as the record says
unfoldable pub image_of : List ℕ → List ℕ
image_of s = take (10 + get_or s 0 0) (longest_image s)

-- a memory with the cells before the step put in, and with those after it too
unfoldable pub cells_before : List ℕ → List ℕ → List ℕ
cells_before s memory = with_cells memory (take 12 (drop 17 s))

unfoldable pub cells_after : List ℕ → List ℕ → List ℕ
cells_after s memory = with_cells (with_cells memory (take 12 (drop 17 s))) (take 6 (drop 40 s))

-- the step is made and leaves the registers and the memory expected, under grant 0000-14FF, stack 1600-17FF, no second grant
unfoldable pub Goes : List ℕ → Registers → List ℕ → Registers → List ℕ → Type 0
Goes image before memory after expected =
    stepped image (limits_of (0x00 ∷ 0x00 ∷ 0x14 ∷ 0xFF ∷ 0x16 ∷ 0x00 ∷ 0x17 ∷ 0xFF ∷ 0xFF ∷ 0xFF ∷ 0x00 ∷ 0x00 ∷ [])) before memory ≡ result Made after expected

-- it does so as a record says, from the record's cells in two memories
unfoldable pub AsRecorded : List ℕ → List ℕ → List ℕ → Type 0
AsRecorded s memory expected =
    Goes (image_of s) (registers_of (take 11 (drop 6 s))) (cells_before s memory) (registers_of (take 11 (drop 29 s))) (cells_after s expected)
