-- Values stored in memory: what is outside them is as it was, and a word is read back.
use Prim.Native.Nat.{ℕ, ◌+◌, ◌≤◌, ◌<◌}
use mathlib.Core.Path.{◌≡◌, refl, ◌∙◌}
use mathlib.Core.Logic.{inl, inr}
use mathlib.Core.List.{List, [], ◌∷◌}
use native.Mathlib.Omega.{arith}
use lib.ListN.{length, get_or, set, length-set}
use lib.Seq.{get_or-set_same, get_or-set_other}
use borrow.Author.Tests.{lt-ltb}
use Rattle.numbers.specs.Words.{high, low, word_at}
use Rattle.numbers.proofs.WordLaws.{word_high_low}
use Rattle.stm8.specs.Effects.{bytes_wide}
use Rattle.stm8.specs.declared.Width.{Width}
use Rattle.stm8.specs.declared.Width.TheVariants.{Byte, Word}
use Rattle.stm8.specs.declared.Place.{Place}
use Rattle.stm8.specs.declared.Place.TheVariants.{Pushed}
use Rattle.storage.specs.Reading.{read_byte, read_word}
use Rattle.storage.specs.Storing.{bytes_from, stored_at, memory_after}
use Rattle.machine.specs.Changes.{Among}

-- a byte at another address is as it was
pub stored_other : (memory addresses : List ℕ) (value address : ℕ) → (Among address addresses → ⊥) →
    get_or (memory_after memory addresses value) address 0 ≡ get_or memory address 0
unfolding memory_after
stored_other memory [] value address outside = refl
stored_other memory (a ∷ []) value address outside = get_or-set_other memory a address (low value) 0 (λ e. outside (inl e))
stored_other memory (a ∷ b ∷ more) value address outside =
    get_or-set_other (set memory a (high value)) b address (low value) 0 (λ e. outside (inr (inl e))) ∙
    get_or-set_other memory a address (high value) 0 (λ e. outside (inl e))

pub size_kept : (memory addresses : List ℕ) (value : ℕ) → length (memory_after memory addresses value) ≡ length memory
unfolding memory_after
size_kept memory [] value = refl
size_kept memory (a ∷ []) value = length-set memory a (low value)
size_kept memory (a ∷ b ∷ more) value = length-set (set memory a (high value)) b (low value) ∙ length-set memory a (high value)

-- the addresses of a byte or a word lie together
pub together : (at : ℕ) (w : Width) (address : ℕ) → Among address (bytes_from at w) → (at ≤ address) × (address < at + bytes_wide w)
together at Byte address (inl e) = (omega arith, omega arith)
together at Byte address (inr z) = absurd z
together at Word address (inl e) = (omega arith, omega arith)
together at Word address (inr (inl e)) = (omega arith, omega arith)
together at Word address (inr (inr z)) = absurd z

-- a word is read back
pub word_stored : (memory : List ℕ) (at value : ℕ) → at + 1 < length memory → word_at (memory_after memory (bytes_from at Word) value) at ≡ value
unfolding word_at memory_after
word_stored memory at value inside =
    let size = length-set memory at (high value) in
    let lower : get_or (set (set memory at (high value)) (at + 1) (low value)) at 0 ≡ high value =
    get_or-set_other (set memory at (high value)) (at + 1) at (low value) 0 (omega arith) ∙ get_or-set_same memory at (high value) 0 (omega arith) in
    let upper = get_or-set_same (set memory at (high value)) (at + 1) (low value) 0 (omega arith) in
    rw (lower, upper) (word_high_low value)

-- a word that is pushed
pub pushed_word : (sp after : ℕ) (place : Place) → place ≡ Pushed Word → stored_at sp after place ≡ bytes_from (after + 1) Word
unfolding stored_at
pushed_word sp after place p = rw p

-- a word below 8000 is read from memory
pub read_memory : (image memory : List ℕ) (at : ℕ) → at + 1 < 0x8000 → read_word image memory at ≡ word_at memory at
unfolding read_word read_byte word_at
read_memory image memory at below = rw (lt-ltb at 0x8000 (omega arith), lt-ltb (at + 1) 0x8000 below)
