-- Registers as text: A 11 X 2222 Y 3333 CC 44 SP 03FD PC 008000.
use Rattle.std.specs.Prelude.{ℕ, ◌/◌, ◌%◌, List, ◌++◌}
use Rattle.numbers.specs.Ascii.{ascii}
use Rattle.notation.specs.Notation.{byte_digits, word_digits}
use Rattle.execution.specs.declared.Registers.{Registers}

-- PC by the 24 bits that document 01 gives it
abbrev pub registers_text : Registers → List ℕ
registers_text r =
    ascii "A " ++ byte_digits r.a ++
    ascii " X " ++ word_digits r.x ++
    ascii " Y " ++ word_digits r.y ++
    ascii " CC " ++ byte_digits r.cc ++
    ascii " SP " ++ word_digits r.sp ++
    ascii " PC " ++ byte_digits (r.pc / 65536 % 256) ++ word_digits (r.pc % 65536)
