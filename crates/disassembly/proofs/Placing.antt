-- A text in a buffer that has room for it, and in one that has not.
use Rattle.std.proofs.Common.{◌≡◌, ℕ, ◌<◌, ◌≤◌, List, [], ◌++◌, length, drop, Ok, Err, le_trans, arith}
use borrow.Author.Tests.{lt-ltb, le-ltb}
use Rattle.notation.specs.Writing.{longest, appended}
use Rattle.notation.proofs.Growing.{appended_all}
use Rattle.disassembly.specs.Text.{text, placed}
use Rattle.stm8.specs.declared.Instruction.{Instruction}
use Rattle.disassembly.proofs.Sizes.{text_size}

-- nothing of a text is left out
pub text_whole : (address : ℕ) (i : Instruction) → appended longest [] (text address i) ≡ text address i
text_whole address i =
    let size = text_size address i in
    appended_all longest [] (text address i) (omega arith)

pub placed_short : (s buffer : List ℕ) → length buffer < length s → placed s buffer ≡ (Err (record {}), buffer)
unfolding placed
placed_short s buffer h = rw (lt-ltb (length buffer) (length s) h)

pub placed_fits : (s buffer : List ℕ) → length s ≤ length buffer → placed s buffer ≡ (Ok (length s), s ++ drop (length s) buffer)
unfolding placed
placed_fits s buffer h = rw (le-ltb (length buffer) (length s) h)

-- a buffer of `longest` bytes has room for any text
pub text_placed : (address : ℕ) (i : Instruction) (buffer : List ℕ) → longest ≤ length buffer →
    placed (text address i) buffer ≡ (Ok (length (text address i)), text address i ++ drop (length (text address i)) buffer)
text_placed address i buffer h = placed_fits (text address i) buffer (le_trans (text_size address i).most h)
