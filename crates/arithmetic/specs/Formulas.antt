-- The formulas by which the manual's pages give C and H, at a bit of A (or dst), M (or src) and the result R, with the bars that print has lost.
-- The theorems are in proofs/Manual.antt.
use Rattle.std.specs.Prelude.{Bool, not, ◌&&◌, ◌||◌}

-- A.M + M.R + R.A, with R complemented
abbrev pub carry_formula : Bool → Bool → Bool → Bool
carry_formula a m r = (a && m) || (m && not r) || (not r && a)

-- A.M + A.R + A.M.R, with A complemented in the first two
abbrev pub borrow_formula : Bool → Bool → Bool → Bool
borrow_formula a m r = (not a && m) || (not a && r) || (a && m && r)
