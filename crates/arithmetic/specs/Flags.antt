-- The condition code register. CC holds V, I1, H, I0, N, Z, C at bits 7, 5, 4, 3, 2, 1, 0; no operation puts in bit 6, I1 or I0.
use Rattle.std.specs.Prelude.{◌≡◌, ℕ, ◌-◌, Bool, List, [], ◌∷◌, ◌==◌}
use Rattle.numbers.specs.Bits.{bit}
use Rattle.arithmetic.specs.Bits.{is_set, with_bit}

-- the flags of CC
abbrev pub flag_v : ℕ → Bool
flag_v cc = is_set 7 cc

abbrev pub flag_n : ℕ → Bool
flag_n cc = is_set 2 cc

abbrev pub flag_z : ℕ → Bool
flag_z cc = is_set 1 cc

abbrev pub flag_c : ℕ → Bool
flag_c cc = is_set 0 cc

-- CC with a flag put in
abbrev pub with_v : Bool → ℕ → ℕ
with_v v cc = with_bit 7 v cc

abbrev pub with_h : Bool → ℕ → ℕ
with_h h cc = with_bit 4 h cc

abbrev pub with_n : Bool → ℕ → ℕ
with_n n cc = with_bit 2 n cc

abbrev pub with_z : Bool → ℕ → ℕ
with_z z cc = with_bit 1 z cc

abbrev pub with_c : Bool → ℕ → ℕ
with_c c cc = with_bit 0 c cc

-- N and Z of a result of width w: N is its top bit, Z is set where it is zero
unfoldable pub with_nz : ℕ → ℕ → ℕ → ℕ
with_nz w r cc = with_n (is_set (w - 1) r) (with_z (r == 0) cc)

-- the bits of CC that no operation puts in: bit 6, I1 and I0
unfoldable pub rest : ℕ → List ℕ
rest cc = bit 6 cc ∷ bit 5 cc ∷ bit 3 cc ∷ []

-- CC after an operation has them as CC before it
abbrev pub Keeps : ℕ → ℕ → Type 0
Keeps cc after = rest after ≡ rest cc
