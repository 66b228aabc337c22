-- `listing::writing::push_text` meets its contract: there is room for any text.
use Prim.Native.Nat.{ℕ, ◌+◌, ◌-◌, ◌≤◌}
use mathlib.Core.List.{List}
use lib.ListN.{length, take, drop, length-drop}
use borrow.Author.Rules.{part_to_end}
use native.Mathlib.Omega.{arith}
use Rattle.disassembly.specs.Text.{text}
use Rattle.disassembly.proofs.Sizes.{text_size}
use Rattle.listing.proofs.Appending.{wrote_front}
use Rattle.listing.proofs.Placing.{text_written, text_fits}
use Rattle.listing.proofs.writing.push_text.Goals as goal

room : (from : ℕ) (buffer : List ℕ) → from + 23 ≤ length buffer → 23 ≤ length (take (length buffer - from) (drop from buffer))
room from buffer h = rw (part_to_end buffer from, length-drop from buffer) (omega arith)

pub overflow_add-result : goal.overflow_add-result
overflow_add-result c =
    let t = text_written c.args.address c.args.i _ _ _ _ c.disassemble.ensures.text (room c.args.at c.args.buffer.now c.requires) c.in-Ok.is in
    record { fits = omega (arith, t.0, (text_size c.args.address c.args.i).most, c.requires) }

pub returns-in-Ok : goal.returns-in-Ok
returns-in-Ok c =
    let t = text_written c.args.address c.args.i _ _ _ _ c.disassemble.ensures.text (room c.args.at c.args.buffer.now c.requires) c.in-Ok.is in
    wrote_front c.args.at _ c.args.buffer.now (text c.args.address c.args.i) _ (omega (arith, (text_size c.args.address c.args.i).most, c.requires)) t.0 t.1

pub returns-in-Err : goal.returns-in-Err
returns-in-Err c =
    absurd (text_fits c.args.address c.args.i _ _ _ c.disassemble.ensures.text (room c.args.at c.args.buffer.now c.requires) c.in-Err.is)
