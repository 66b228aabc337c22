-- Decoding what was encoded gives the instruction and its length, whatever comes after it.
use mathlib.Core.Path.{◌≡◌, refl, ◌∙◌}
use mathlib.Core.List.{List, [], ◌∷◌, ◌++◌}
use mathlib.Core.Bool.{Bool, true, false, cond}
use Prim.Native.Nat.{ℕ, ◌<◌, ◌≤◌, ◌+◌, ◌*◌}
use native.Mathlib.Omega.{arith}
use borrow.Author.Tests.{ltb-true, leb-true}
use lib.Dec.{T, ltb, leb, leb→le, lt→ltb}
use lib.Seq.{take-take, take-append_seam}
use lib.ListN.{get_or, length, length-append, take}
use Rattle.std.specs.Prelude.{Ok}
use Rattle.numbers.specs.Words.{high, low}
use Rattle.numbers.proofs.Computing.{below}
use Rattle.numbers.proofs.WordLaws.{word_high_low}
use Rattle.stm8.specs.OpcodeMap.{Entry, Is}
use Rattle.stm8.specs.Encoding.{bytes_of, bit_precode, bit_code, test_code, padded, encoded}
use Rattle.stm8.specs.Decoding.{page_of, precodes, entry_in, decoded}
use Rattle.stm8.proofs.Columns.{each_alu, each_modify, each_condition}
use Rattle.stm8.proofs.Opening.{opened}
use Rattle.stm8.specs.declared.Register.{Register}
use Rattle.stm8.specs.declared.Register.TheVariants.{X, Y}
use Rattle.stm8.specs.declared.Half.TheVariants.{Low, High}
use Rattle.stm8.specs.declared.Offset.TheVariants.{Zero, Byte, Word}
use Rattle.stm8.specs.declared.Operand.{Operand}
use Rattle.stm8.specs.declared.Operand.TheVariants.{Accumulator, Immediate, ImmediateWord, Short, Long, Indexed, Sp}
use Rattle.stm8.specs.declared.AluOp.{AluOp}
use Rattle.stm8.specs.declared.ModifyOp.{ModifyOp}
use Rattle.stm8.specs.declared.WordAluOp.TheVariants.{Addw, Cpw, Subw}
use Rattle.stm8.specs.declared.WordModifyOp.TheVariants.{Clrw, Decw, Incw}
use Rattle.stm8.specs.declared.BitOp.{BitOp}
use Rattle.stm8.specs.declared.BitOp.TheVariants.{Bccm, Bcpl, Bres, Bset}
use Rattle.stm8.specs.declared.BitTest.{BitTest}
use Rattle.stm8.specs.declared.BitTest.TheVariants.{Btjf, Btjt}
use Rattle.stm8.specs.declared.FlagOp.TheVariants.{Ccf, Rcf, Rvf, Scf}
use Rattle.stm8.specs.declared.Instruction.{Instruction}
use Rattle.stm8.specs.declared.Instruction.TheVariants.{Alu, Store, LoadHalf, StoreHalf, Modify, LoadWord, StoreWord, CopyWord, WordAlu, WordModify, Pushw, Popw, Exgw, Mul, Bit, BitJump, Mov, Push, Pop, SubSp, AddSp, Jump, Call, Callr, Ret, Nop, Flag}

-- what the map has at the front of bytes, whether they have an op-code, and whether they are at most five
data Seen : Type 0 where
  seen : Entry → Bool → Bool → Seen

-- an instruction's bytes, with `rest` after them
module _ (rest : List ℕ) where
  abbrev front : List ℕ → Seen
  front s = seen (entry_in (page_of (get_or (s ++ rest) 0 0)) (s ++ rest)) (ltb (precodes (page_of (get_or (s ++ rest) 0 0))) (length s)) (leb (length s) 5)

  abbrev got : Instruction → Seen
  got i = front (bytes_of i)

  abbrev due : Instruction → Seen
  due i = seen (Is i) true true

  abbrev Back : Instruction → Type 0
  Back i = T (ltb 0 (length (bytes_of i))) → got i ≡ due i

  alu_back : (o : AluOp) (x : Operand) → Back (Alu o x)
  alu_back o Accumulator t = absurd t
  alu_back o (Immediate n) t = each_alu (λ o. got (Alu o (Immediate n))) (λ o. due (Alu o (Immediate n))) refl o
  alu_back o (ImmediateWord w) t = absurd t
  alu_back o (Short n) t = each_alu (λ o. got (Alu o (Short n))) (λ o. due (Alu o (Short n))) refl o
  alu_back o (Long w) t = each_alu (λ o. got (Alu o (Long w))) (λ o. due (Alu o (Long w))) (rw (word_high_low w)) o
  alu_back o (Indexed X Zero) t = each_alu (λ o. got (Alu o (Indexed X Zero))) (λ o. due (Alu o (Indexed X Zero))) refl o
  alu_back o (Indexed Y Zero) t = each_alu (λ o. got (Alu o (Indexed Y Zero))) (λ o. due (Alu o (Indexed Y Zero))) refl o
  alu_back o (Indexed X (Byte n)) t = each_alu (λ o. got (Alu o (Indexed X (Byte n)))) (λ o. due (Alu o (Indexed X (Byte n)))) refl o
  alu_back o (Indexed Y (Byte n)) t = each_alu (λ o. got (Alu o (Indexed Y (Byte n)))) (λ o. due (Alu o (Indexed Y (Byte n)))) refl o
  alu_back o (Indexed X (Word w)) t = each_alu (λ o. got (Alu o (Indexed X (Word w)))) (λ o. due (Alu o (Indexed X (Word w)))) (rw (word_high_low w)) o
  alu_back o (Indexed Y (Word w)) t = each_alu (λ o. got (Alu o (Indexed Y (Word w)))) (λ o. due (Alu o (Indexed Y (Word w)))) (rw (word_high_low w)) o
  alu_back o (Sp n) t = each_alu (λ o. got (Alu o (Sp n))) (λ o. due (Alu o (Sp n))) refl o

  store_back : (x : Operand) → Back (Store x)
  store_back Accumulator t = absurd t
  store_back (Immediate n) t = absurd t
  store_back (ImmediateWord w) t = absurd t
  store_back (Short n) t = refl
  store_back (Long w) t = rw (word_high_low w)
  store_back (Indexed r f) t = absurd t
  store_back (Sp n) t = refl

  modify_back : (o : ModifyOp) (x : Operand) → Back (Modify o x)
  modify_back o Accumulator t = each_modify (λ o. got (Modify o Accumulator)) (λ o. due (Modify o Accumulator)) refl o
  modify_back o (Immediate n) t = absurd t
  modify_back o (ImmediateWord w) t = absurd t
  modify_back o (Short n) t = each_modify (λ o. got (Modify o (Short n))) (λ o. due (Modify o (Short n))) refl o
  modify_back o (Long w) t = each_modify (λ o. got (Modify o (Long w))) (λ o. due (Modify o (Long w))) (rw (word_high_low w)) o
  modify_back o (Indexed r f) t = absurd t
  modify_back o (Sp n) t = absurd t

  load_word_back : (r : Register) (x : Operand) → Back (LoadWord r x)
  load_word_back r Accumulator t = absurd t
  load_word_back r (Immediate n) t = absurd t
  load_word_back X (ImmediateWord w) t = rw (word_high_low w)
  load_word_back Y (ImmediateWord w) t = rw (word_high_low w)
  load_word_back r (Short n) t = absurd t
  load_word_back X (Long w) t = rw (word_high_low w)
  load_word_back Y (Long w) t = rw (word_high_low w)
  load_word_back r (Indexed q f) t = absurd t
  load_word_back X (Sp n) t = refl
  load_word_back Y (Sp n) t = refl

  store_word_back : (r : Register) (x : Operand) → Back (StoreWord r x)
  store_word_back r Accumulator t = absurd t
  store_word_back r (Immediate n) t = absurd t
  store_word_back r (ImmediateWord w) t = absurd t
  store_word_back r (Short n) t = absurd t
  store_word_back X (Long w) t = rw (word_high_low w)
  store_word_back Y (Long w) t = rw (word_high_low w)
  store_word_back r (Indexed q f) t = absurd t
  store_word_back X (Sp n) t = refl
  store_word_back Y (Sp n) t = refl

  push_back : (x : Operand) → Back (Push x)
  push_back Accumulator t = refl
  push_back (Immediate n) t = refl
  push_back (ImmediateWord w) t = absurd t
  push_back (Short n) t = absurd t
  push_back (Long w) t = rw (word_high_low w)
  push_back (Indexed r f) t = absurd t
  push_back (Sp n) t = absurd t

  pop_back : (x : Operand) → Back (Pop x)
  pop_back Accumulator t = refl
  pop_back (Immediate n) t = absurd t
  pop_back (ImmediateWord w) t = absurd t
  pop_back (Short n) t = absurd t
  pop_back (Long w) t = rw (word_high_low w)
  pop_back (Indexed r f) t = absurd t
  pop_back (Sp n) t = absurd t

  mov_back : (to from : Operand) → Back (Mov to from)
  mov_back Accumulator from t = absurd t
  mov_back (Immediate n) from t = absurd t
  mov_back (ImmediateWord w) from t = absurd t
  mov_back (Indexed r f) from t = absurd t
  mov_back (Sp n) from t = absurd t
  mov_back (Short m) Accumulator t = absurd t
  mov_back (Short m) (Immediate n) t = absurd t
  mov_back (Short m) (ImmediateWord w) t = absurd t
  mov_back (Short m) (Short n) t = refl
  mov_back (Short m) (Long w) t = absurd t
  mov_back (Short m) (Indexed r f) t = absurd t
  mov_back (Short m) (Sp n) t = absurd t
  mov_back (Long v) Accumulator t = absurd t
  mov_back (Long v) (Immediate n) t = rw (word_high_low v)
  mov_back (Long v) (ImmediateWord w) t = absurd t
  mov_back (Long v) (Short n) t = absurd t
  mov_back (Long v) (Long w) t = rw (word_high_low v, word_high_low w)
  mov_back (Long v) (Indexed r f) t = absurd t
  mov_back (Long v) (Sp n) t = absurd t

  -- a bit position in range has its op-code
  abbrev bit_bytes : BitOp → ℕ → ℕ → List ℕ
  bit_bytes o w n = bit_precode o ∷ (bit_code o + 2 * n) ∷ high w ∷ low w ∷ []

  bit_front : (o : BitOp) (w n : ℕ) → n < 8 → front (bit_bytes o w n) ≡ due (Bit o n w)
  bit_front Bset w = below 7 (λ n. front (bit_bytes Bset w n)) (λ n. due (Bit Bset n w)) (rw (word_high_low w))
  bit_front Bres w = below 7 (λ n. front (bit_bytes Bres w n)) (λ n. due (Bit Bres n w)) (rw (word_high_low w))
  bit_front Bcpl w = below 7 (λ n. front (bit_bytes Bcpl w n)) (λ n. due (Bit Bcpl n w)) (rw (word_high_low w))
  bit_front Bccm w = below 7 (λ n. front (bit_bytes Bccm w n)) (λ n. due (Bit Bccm n w)) (rw (word_high_low w))

  abbrev test_bytes : BitTest → ℕ → ℕ → ℕ → List ℕ
  test_bytes o w j n = 0x72 ∷ (test_code o + 2 * n) ∷ high w ∷ low w ∷ j ∷ []

  test_front : (o : BitTest) (w j n : ℕ) → n < 8 → front (test_bytes o w j n) ≡ due (BitJump o n w j)
  test_front Btjt w j = below 7 (λ n. front (test_bytes Btjt w j n)) (λ n. due (BitJump Btjt n w j)) (rw (word_high_low w))
  test_front Btjf w j = below 7 (λ n. front (test_bytes Btjf w j n)) (λ n. due (BitJump Btjf n w j)) (rw (word_high_low w))

  -- bytes that stand only where a test passes
  where_passed : (b : Bool) (s : List ℕ) (i : Instruction) → (T b → front s ≡ due i) → T (ltb 0 (length (cond b s []))) → front (cond b s []) ≡ due i
  where_passed true s i f t = f tt
  where_passed false s i f t = absurd t

  in_range : (n : ℕ) → T (leb n 7) → n < 8
  in_range n t = let h : n ≤ 7 = leb→le n 7 t in omega arith

  back : (i : Instruction) → Back i
  back (Alu o x) t = alu_back o x t
  back (Store x) t = store_back x t
  back (LoadHalf X Low) t = refl
  back (LoadHalf X High) t = refl
  back (LoadHalf Y Low) t = refl
  back (LoadHalf Y High) t = refl
  back (StoreHalf X Low) t = refl
  back (StoreHalf X High) t = refl
  back (StoreHalf Y Low) t = refl
  back (StoreHalf Y High) t = refl
  back (Modify o x) t = modify_back o x t
  back (LoadWord r x) t = load_word_back r x t
  back (StoreWord r x) t = store_word_back r x t
  back (CopyWord X) t = refl
  back (CopyWord Y) t = refl
  back (WordAlu Addw X w) t = rw (word_high_low w)
  back (WordAlu Addw Y w) t = rw (word_high_low w)
  back (WordAlu Subw X w) t = rw (word_high_low w)
  back (WordAlu Subw Y w) t = rw (word_high_low w)
  back (WordAlu Cpw X w) t = rw (word_high_low w)
  back (WordAlu Cpw Y w) t = rw (word_high_low w)
  back (WordModify Clrw X) t = refl
  back (WordModify Clrw Y) t = refl
  back (WordModify Decw X) t = refl
  back (WordModify Decw Y) t = refl
  back (WordModify Incw X) t = refl
  back (WordModify Incw Y) t = refl
  back (Pushw X) t = refl
  back (Pushw Y) t = refl
  back (Popw X) t = refl
  back (Popw Y) t = refl
  back Exgw t = refl
  back (Mul X) t = refl
  back (Mul Y) t = refl
  back (Bit o n w) t = where_passed (leb n 7) (bit_bytes o w n) (Bit o n w) (λ h. bit_front o w n (in_range n h)) t
  back (BitJump o n w j) t = where_passed (leb n 7) (test_bytes o w j n) (BitJump o n w j) (λ h. test_front o w j n (in_range n h)) t
  back (Mov to from) t = mov_back to from t
  back (Push x) t = push_back x t
  back (Pop x) t = pop_back x t
  back (SubSp n) t = refl
  back (AddSp n) t = refl
  back (Jump o n) t = each_condition (λ o. got (Jump o n)) (λ o. due (Jump o n)) refl o
  back (Call w) t = rw (word_high_low w)
  back (Callr n) t = refl
  back Ret t = refl
  back Nop t = refl
  back (Flag Ccf) t = refl
  back (Flag Rcf) t = refl
  back (Flag Rvf) t = refl
  back (Flag Scf) t = refl

module _ (i : Instruction) (some : 0 < length (bytes_of i)) where
  seen_front : (rest : List ℕ) → got rest i ≡ due rest i
  seen_front rest = back rest i (lt→ltb 0 (length (bytes_of i)) some)

  pub bytes_short : length (bytes_of i) ≤ 5
  bytes_short = leb-true _ _ (third (seen_front []))
    where
      third : {a b : Entry} {p q u v : Bool} → seen a p u ≡ seen b q v → u ≡ v
      third e = cc

  -- an instruction that has bytes is decoded from them
  pub decode_bytes : (rest : List ℕ) → decoded (bytes_of i ++ rest) ≡ Ok (i, length (bytes_of i))
  decode_bytes rest =
      let size : length (bytes_of i ++ rest) ≡ length (bytes_of i) + length rest = length-append (bytes_of i) rest in
      let op : precodes (page_of (get_or (bytes_of i ++ rest) 0 0)) < length (bytes_of i) = ltb-true _ _ (second (seen_front rest)) in
      opened (bytes_of i ++ rest) i (first (seen_front rest)) (omega arith) some (omega arith)
    where
      first : {a b : Entry} {p q u v : Bool} → seen a p u ≡ seen b q v → a ≡ b
      first e = cc

      second : {a b : Entry} {p q u v : Bool} → seen a p u ≡ seen b q v → p ≡ q
      second e = cc

-- five bytes hold a list of one to five, and their length says how many
padded_some : (s : List ℕ) → (padded s).number ≡ 0 → 0 < length s
padded_some [] e = let z : ⊥ = omega (arith, e) in absurd z
padded_some (x ∷ s) e = omega arith

padded_length : (s : List ℕ) → (padded s).length ≡ length s
padded_length [] = refl
padded_length (x ∷ s) = refl

padded_bytes : (s : List ℕ) → 0 < length s → length s ≤ 5 → take (length s) (padded s).bytes ≡ s
padded_bytes [] h g = let z : ⊥ = omega (arith, h) in absurd z
padded_bytes (x ∷ s) h g =
    let zeros : List ℕ = 0 ∷ 0 ∷ 0 ∷ 0 ∷ 0 ∷ [] in
    take-take (length (x ∷ s)) 5 ((x ∷ s) ++ zeros) g ∙ take-append_seam (x ∷ s) zeros

-- what was encoded: the number is 0 and as many of the five bytes as the length says are decoded, whatever comes after them
pub decode_encoded : (i : Instruction) (rest : List ℕ) → (encoded i).number ≡ 0 →
    decoded (take (encoded i).length (encoded i).bytes ++ rest) ≡ Ok (i, (encoded i).length)
decode_encoded i rest e =
    let some = padded_some (bytes_of i) e in
    rw (padded_length (bytes_of i), padded_bytes (bytes_of i) some (bytes_short i some)) (decode_bytes i some rest)
