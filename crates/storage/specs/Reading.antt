-- Data reads.
use Rattle.std.specs.Prelude.{ℕ, ◌+◌, ◌-◌, cond, List, ltb, get_or}
use Rattle.numbers.specs.Words.{word}
use Rattle.image.specs.Image.{base_of, code_of}

-- Data reads: 0000 to 7FFF from memory, the image's own addresses from its code, any other address gives 00.
unfoldable pub read_byte : List ℕ → List ℕ → ℕ → ℕ
read_byte image memory address =
    cond (ltb address 0x8000) (get_or memory address 0)
    (cond (ltb address (base_of image)) 0 (get_or (code_of image) (address - base_of image) 0))

-- A word's high byte lies at the lower address; the address of its second byte is not cut to 16 bits.
unfoldable pub read_word : List ℕ → List ℕ → ℕ → ℕ
read_word image memory address = word (read_byte image memory address) (read_byte image memory (address + 1))
