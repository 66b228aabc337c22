-- How the code goes about a text: one that grows at its end, and what a line shows after its name. The contract of `disassemble` cites none of it.
use Rattle.std.specs.Prelude.{ℕ, List, ◌++◌, ◌-◌, length, take}
use Rattle.numbers.specs.Ascii.{ascii}
use Rattle.notation.specs.Notation.{bit_position, half_text, operand_text, register_text}
use Rattle.notation.specs.declared.lines.Shown.{Shown}
use Rattle.notation.specs.declared.lines.Shown.TheVariants.{Operand, Register, Half, StackPointer, Position}

-- the cells of a text: that none is longer is a theorem
abbrev pub longest : ℕ
longest = 23

-- a text of at most n letters with others after it, as far as there is room for them
unfoldable pub appended : ℕ → List ℕ → List ℕ → List ℕ
appended n text letters = text ++ take (n - length text) letters

abbrev pub shown_text : Shown → List ℕ
shown_text (Operand x) = operand_text x
shown_text (Register r) = register_text r
shown_text (Half r h) = half_text r h
shown_text StackPointer = ascii "SP"
shown_text (Position n) = bit_position n
