-- The manual's assembler column notation, as document 01 words it: no space but the one after the name; upper-case hexadecimal, two digits for
-- a byte and four for a word, after $; immediates after #$; a bit position as # and one digit.
use Rattle.std.specs.Prelude.{ℕ, ◌/◌, ◌%◌, List, [], ◌∷◌, ◌++◌, get_or}
use Rattle.numbers.specs.Ascii.{ascii}
use Rattle.numbers.specs.Words.{high, low}
use Rattle.stm8.specs.declared.Register.{Register}
use Rattle.stm8.specs.declared.Register.TheVariants.{X, Y}
use Rattle.stm8.specs.declared.Half.{Half}
use Rattle.stm8.specs.declared.Half.TheVariants.{Low, High}
use Rattle.stm8.specs.declared.Offset.{Offset}
use Rattle.stm8.specs.declared.Offset.TheVariants.{Zero, Byte, Word}
use Rattle.stm8.specs.declared.Operand.{Operand}
use Rattle.stm8.specs.declared.Operand.TheVariants.{Accumulator, Immediate, ImmediateWord, Short, Long, Indexed, Sp}

-- the last hexadecimal digit of a number; the two of a byte and the four of a word
unfoldable pub digit : ℕ → ℕ
digit n = get_or (ascii "0123456789ABCDEF") (n % 16) 0

abbrev pub byte_digits : ℕ → List ℕ
byte_digits n = digit (n / 16) ∷ digit n ∷ []

abbrev pub word_digits : ℕ → List ℕ
word_digits w = byte_digits (high w) ++ byte_digits (low w)

abbrev pub byte_text : ℕ → List ℕ
byte_text n = ascii "$" ++ byte_digits n

abbrev pub word_text : ℕ → List ℕ
word_text w = ascii "$" ++ word_digits w

abbrev pub bit_position : ℕ → List ℕ
bit_position n = ascii "#" ++ (digit n ∷ [])

abbrev pub register_text : Register → List ℕ
register_text X = ascii "X"
register_text Y = ascii "Y"

abbrev pub half_text : Register → Half → List ℕ
half_text r Low = register_text r ++ ascii "L"
half_text r High = register_text r ++ ascii "H"

-- an offset in front of its register
abbrev pub offset_text : Offset → List ℕ
offset_text Zero = []
offset_text (Byte n) = byte_text n ++ ascii ","
offset_text (Word w) = word_text w ++ ascii ","

abbrev pub operand_text : Operand → List ℕ
operand_text Accumulator = ascii "A"
operand_text (Immediate n) = ascii "#" ++ byte_text n
operand_text (ImmediateWord w) = ascii "#" ++ word_text w
operand_text (Short a) = byte_text a
operand_text (Long a) = word_text a
operand_text (Indexed r f) = ascii "(" ++ offset_text f ++ register_text r ++ ascii ")"
operand_text (Sp n) = ascii "(" ++ byte_text n ++ ascii ",SP)"

-- the operands after a name: a space before the first, a comma before each other
abbrev pub further_operands : List (List ℕ) → List ℕ
further_operands [] = []
further_operands (x ∷ xs) = ascii "," ++ x ++ further_operands xs

abbrev pub operands : List (List ℕ) → List ℕ
operands [] = []
operands (x ∷ xs) = ascii " " ++ x ++ further_operands xs

abbrev pub line : List ℕ → List (List ℕ) → List ℕ
line name xs = name ++ operands xs
