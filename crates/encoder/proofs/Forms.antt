-- What the functions under `encode` give, with the op-codes that it hands them, is what the definitions say.
use Prim.Native.Nat.{ℕ, suc, ◌+◌}
use mathlib.Core.Path.{◌≡◌, refl}
use mathlib.Core.Bool.{Bool, true, false, cond}
use mathlib.Core.List.{[], ◌∷◌}
use native.Mathlib.Omega.{arith}
use lib.Dec.{eqb}
use borrow.Author.Tests.{ne_eqb}
use Rattle.numbers.specs.Words.{high, low}
use Rattle.stm8.specs.declared.Register.{Register}
use Rattle.stm8.specs.declared.Register.TheVariants.{X, Y}
use Rattle.stm8.specs.declared.Operand.{Operand}
use Rattle.stm8.specs.declared.Operand.TheVariants.{Accumulator, Immediate, ImmediateWord, Short, Long, Indexed, Sp}
use Rattle.stm8.specs.declared.ModifyOp.{ModifyOp}
use Rattle.stm8.specs.Encoding.{modify_column, on_register, store_bytes, modify_bytes, load_word_sp, store_word_sp, load_word_bytes, store_word_bytes, mov_long, mov_short, push_bytes, pop_bytes, padded}
use Rattle.encoder.specs.Forms.{register_precode, appended, appended_word, operand_form}

pub store : (x : Operand) → operand_form 0 0 0 0 0xb7 0xc7 0x6b x ≡ padded (store_bytes x)
store = elim [ Accumulator ↦ refl | Immediate n ↦ refl | ImmediateWord w ↦ refl | Short n ↦ refl | Long w ↦ refl | Indexed r f ↦ refl | Sp n ↦ refl ]

pub load_word : (r : Register) (x : Operand) → operand_form (register_precode r) 0 0 0xae 0 0xce (load_word_sp r) x ≡ padded (load_word_bytes r x)
load_word X = elim [ Accumulator ↦ refl | Immediate n ↦ refl | ImmediateWord w ↦ refl | Short n ↦ refl | Long w ↦ refl | Indexed r f ↦ refl | Sp n ↦ refl ]
load_word Y = elim [ Accumulator ↦ refl | Immediate n ↦ refl | ImmediateWord w ↦ refl | Short n ↦ refl | Long w ↦ refl | Indexed r f ↦ refl | Sp n ↦ refl ]

pub store_word : (r : Register) (x : Operand) → operand_form (register_precode r) 0 0 0 0 0xcf (store_word_sp r) x ≡ padded (store_word_bytes r x)
store_word X = elim [ Accumulator ↦ refl | Immediate n ↦ refl | ImmediateWord w ↦ refl | Short n ↦ refl | Long w ↦ refl | Indexed r f ↦ refl | Sp n ↦ refl ]
store_word Y = elim [ Accumulator ↦ refl | Immediate n ↦ refl | ImmediateWord w ↦ refl | Short n ↦ refl | Long w ↦ refl | Indexed r f ↦ refl | Sp n ↦ refl ]

pub push : (x : Operand) → operand_form 0 0x88 0x4b 0 0 0x3b 0 x ≡ padded (push_bytes x)
push = elim [ Accumulator ↦ refl | Immediate n ↦ refl | ImmediateWord w ↦ refl | Short n ↦ refl | Long w ↦ refl | Indexed r f ↦ refl | Sp n ↦ refl ]

pub pop : (x : Operand) → operand_form 0 0x84 0 0 0 0x32 0 x ≡ padded (pop_bytes x)
pop = elim [ Accumulator ↦ refl | Immediate n ↦ refl | ImmediateWord w ↦ refl | Short n ↦ refl | Long w ↦ refl | Indexed r f ↦ refl | Sp n ↦ refl ]

pub mov_short_lem : (to : ℕ) (x : Operand) → appended (operand_form 0 0 0 0 0x45 0 0 x) to ≡ padded (mov_short to x)
mov_short_lem to = elim [ Accumulator ↦ refl | Immediate n ↦ refl | ImmediateWord w ↦ refl | Short n ↦ refl | Long w ↦ refl | Indexed r f ↦ refl | Sp n ↦ refl ]

pub mov_long_lem : (to : ℕ) (x : Operand) → appended_word (operand_form 0 0 0x35 0 0 0x55 0 x) to ≡ padded (mov_long to x)
mov_long_lem to = elim [ Accumulator ↦ refl | Immediate n ↦ refl | ImmediateWord w ↦ refl | Short n ↦ refl | Long w ↦ refl | Indexed r f ↦ refl | Sp n ↦ refl ]

-- a row's op-code is not 0
row : (n k : ℕ) → eqb (suc n + k) 0 ≡ false
row n k = ne_eqb (suc n + k) 0 (λ e. omega (arith, e))

pub modify : (o : ModifyOp) (x : Operand) →
    operand_form 0x72 (0x40 + modify_column o) 0 0 (0x30 + modify_column o) (0x50 + modify_column o) 0 x ≡ padded (modify_bytes o x)
modify o Accumulator = rw (row 0x3f (modify_column o))
modify o (Immediate n) = refl
modify o (ImmediateWord w) = refl
modify o (Short n) = rw (row 0x2f (modify_column o))
modify o (Long w) = rw (row 0x4f (modify_column o))
modify o (Indexed r f) = refl
modify o (Sp n) = refl

-- either register
pub on_register_byte : (r : Register) (code n : ℕ) → appended (padded (on_register r (code ∷ []))) n ≡ padded (on_register r (code ∷ n ∷ []))
on_register_byte X code n = refl
on_register_byte Y code n = refl

pub on_register_word : (r : Register) (code w : ℕ) → appended_word (padded (on_register r (code ∷ []))) w ≡ padded (on_register r (code ∷ high w ∷ low w ∷ []))
on_register_word X code w = refl
on_register_word Y code w = refl

-- a bit position in range or not, and a jump's offset
pub bit_jump : (t : Bool) (code w j : ℕ) →
    appended (padded (cond t (0x72 ∷ code ∷ high w ∷ low w ∷ []) [])) j ≡ padded (cond t (0x72 ∷ code ∷ high w ∷ low w ∷ j ∷ []) [])
bit_jump true code w j = refl
bit_jump false code w j = refl
