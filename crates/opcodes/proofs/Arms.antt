-- What an arm of a `match` on a column or a row says of the map: one computed test over the sixteen.
use Prim.Native.Nat.{ℕ, ◌/◌, ◌%◌, ◌<◌}
use mathlib.Core.Path.{◌≡◌, refl, ap, sym, subst}
use mathlib.Core.Bool.{Bool, true, false, cond}
use mathlib.Core.List.{List, [], map}
use native.Mathlib.Omega.{arith}
use lib.Dec.{eqb}
use lib.ListN.{get_or}
use Rattle.numbers.specs.Computed.{counting}
use Rattle.numbers.proofs.Computing.{NoneOf, member, below, rest}
use Rattle.stm8.specs.OpcodeMap.{Entry, Blank, Is, bit_row}
use Rattle.stm8.specs.declared.Instruction.{Instruction}
use Rattle.opcodes.specs.Entries.{or_else, in_row}

column_below : (op : ℕ) → op % 16 < 16
column_below op = omega arith

-- a row that has one instruction alone
pub alone : (row : List Entry) (i : Instruction) → map (λ k. or_else i (get_or row k Blank)) (counting 16 0) ≡ map (λ k. i) (counting 16 0) →
    (op : ℕ) → i ≡ in_row row op i
unfolding in_row
alone row i e op = sym (below 15 (λ k. or_else i (get_or row k Blank)) (λ k. i) e (op % 16) (column_below op))

-- the default arm, at whose columns the row has one instruction alone
pub otherwise : (keys : List ℕ) (row : List Entry) (i : Instruction) →
    map (λ k. cond (member k keys) i (or_else i (get_or row k Blank))) (counting 16 0) ≡ map (λ k. i) (counting 16 0) →
    (op : ℕ) → NoneOf (op % 16) keys → i ≡ in_row row op i
unfolding in_row
otherwise keys row i e op none = sym (rest 15 keys (λ k. or_else i (get_or row k Blank)) (λ k. i) e (op % 16) (column_below op) none)

-- the default arm, at whose columns the row is as another
pub as_in : (other row : List Entry) (keys : List ℕ) →
    map (λ k. cond (member k keys) (get_or row k Blank) (get_or other k Blank)) (counting 16 0) ≡ map (λ k. get_or row k Blank) (counting 16 0) →
    (op : ℕ) (i : Instruction) → NoneOf (op % 16) keys → in_row other op i ≡ in_row row op i
unfolding in_row
as_in other row keys e op i none =
    ap (or_else i) (rest 15 keys (λ k. get_or other k Blank) (λ k. get_or row k Blank) e (op % 16) (column_below op) none)

-- a row of bits, by the column's lowest bit
pub bit_column : (f g : ℕ → Instruction) (op : ℕ) →
    get_or (bit_row f g) (op % 16) Blank ≡ cond (eqb (op % 16 % 2) 0) (Is (f (op % 16 / 2))) (Is (g (op % 16 / 2)))
bit_column f g op =
    below 15 (λ k. get_or (bit_row f g) k Blank) (λ k. cond (eqb (k % 2) 0) (Is (f (k / 2))) (Is (g (k / 2)))) refl (op % 16) (column_below op)

or_blank : (b : Bool) (row : List Entry) (k : ℕ) (i : Instruction) → i ≡ or_else i (get_or row k Blank) → i ≡ or_else i (get_or (cond b row []) k Blank)
or_blank true row k i h = h
or_blank false row k i h = refl

-- the default arm of a page, at whose rows the page has one row alone
pub last_row : (last : ℕ) (row : List Entry) (page : List (List Entry)) (keys : List ℕ) →
    map (λ k. cond (member k keys) (get_or page k []) (cond (eqb k last) row [])) (counting 16 0) ≡ map (λ k. get_or page k []) (counting 16 0) →
    (op : ℕ) (i : Instruction) → op < 256 → NoneOf (op / 16) keys → i ≡ in_row row op i →
    i ≡ or_else i (get_or (get_or page (op / 16) []) (op % 16) Blank)
unfolding in_row
last_row last row page keys e op i h none at =
    let found : cond (eqb (op / 16) last) row [] ≡ get_or page (op / 16) [] =
    rest 15 keys (λ k. cond (eqb k last) row []) (λ k. get_or page k []) e (op / 16) (omega arith) none in
    subst (λ (r : List Entry). i ≡ or_else i (get_or r (op % 16) Blank)) found (or_blank (eqb (op / 16) last) row (op % 16) i at)
