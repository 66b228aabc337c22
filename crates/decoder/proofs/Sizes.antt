-- What the bytes on a page are, by the tests that its function makes: n is the length of their op-code.
use Prim.Native.Nat.{ℕ, ◌≤◌, ◌<◌}
use mathlib.Core.Path.{◌≡◌}
use mathlib.Core.List.{List}
use borrow.Author.Tests.{le-leb, lt-leb, ne_eqb, lt-ltb, le-ltb}
use lib.ListN.{length}
use Rattle.std.specs.Prelude.{Ok, Err}
use Rattle.stm8.specs.OpcodeMap.{Page}
use Rattle.stm8.specs.Decoding.{precodes, entry_in, Decoded}
use Rattle.stm8.specs.declared.Instruction.{Instruction}
use Rattle.stm8.specs.declared.Instruction.TheVariants.{Nop}
use Rattle.stm8.specs.declared.DecodeError.TheVariants.{Outside, Truncated}
use Rattle.opcodes.specs.Entries.{or_else}
use Rattle.decoder.specs.Parts.{decoded_or}

module _ (page : Page) (s : List ℕ) (n : ℕ) where
  abbrev pub Decodes : Decoded → Type 0
  Decodes r = (i : Instruction) × (r ≡ decoded_or i page n s)

  pub no_opcode : length s ≤ precodes page → Decodes (Err Truncated)
  unfolding decoded_or
  no_opcode none = (Nop, rw (le-leb (length s) (precodes page) none))

  module _ (opcode : precodes page < length s) where
    pub outside : n ≡ 0 → Decodes (Err Outside)
    unfolding decoded_or
    outside none = (Nop, rw (lt-leb (length s) (precodes page) opcode, none))

    pub cut_short : (n ≡ 0 → ⊥) → length s < n → Decodes (Err Truncated)
    unfolding decoded_or
    cut_short some short = (Nop, rw (lt-leb (length s) (precodes page) opcode, ne_eqb n 0 some, lt-ltb (length s) n short))

    pub whole : (n ≡ 0 → ⊥) → n ≤ length s → (i : Instruction) → i ≡ or_else i (entry_in page s) → Decodes (Ok (i, n))
    unfolding decoded_or
    whole some fits i at = (i, rw (lt-leb (length s) (precodes page) opcode, ne_eqb n 0 some, le-ltb (length s) n fits, ← at))
