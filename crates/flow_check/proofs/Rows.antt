-- The row of cells that is read at an offset, and what the tests of a jump's cell give.
use Rattle.std.proofs.Common.{◌≡◌, ℕ, ◌-◌, ◌<◌, ◌≤◌, List, [], length, get_or, sym, ◌∙◌, eq-eqb, ne_eqb, lt-ltb, le-ltb}
use Rattle.std.proofs.lemmas.List.{get_or_read_under}
use Rattle.control_flow.specs.Routine.{jump_number}

pub row_read : (cells : List (List ℕ)) (at : ℕ) {row view : List ℕ} → row ≡ get_or cells at row → view ≡ get_or cells at row →
    length cells ≡ 4096 → at < 4096 → get_or cells at [] ≡ view
row_read cells at {row} is view_is size inside = sym (get_or_read_under cells at 4096 row [] is inside (sym size)) ∙ is ∙ sym view_is

-- the same, for a row that is handed on
pub row_same : (cells : List (List ℕ)) (at : ℕ) {row : List ℕ} → row ≡ get_or cells at row → length cells ≡ 4096 → at < 4096 →
    get_or cells at row ≡ get_or cells at []
row_same cells at {row} is size inside = sym is ∙ get_or_read_under cells at 4096 row [] is inside (sym size)

module _ (starts : ℕ → ℕ) (cell : ℕ) where
  pub no_jump : cell ≡ 0 → jump_number starts cell ≡ 0
  unfolding jump_number
  no_jump none = rw (eq-eqb _ _ none)

  module _ (some : cell ≡ 0 → ⊥) where
    pub jump_strays : 4096 < cell → 13 ≡ jump_number starts cell
    unfolding jump_number
    jump_strays far = rw (ne_eqb _ _ some, lt-ltb _ _ far)

    module _ (near : cell ≤ 4096) where
      pub jump_misses : starts (cell - 1) ≡ 0 → 10 ≡ jump_number starts cell
      unfolding jump_number
      jump_misses none = rw (ne_eqb _ _ some, le-ltb _ _ near, eq-eqb _ _ none)

      pub jump_lands : (starts (cell - 1) ≡ 0 → ⊥) → jump_number starts cell ≡ 0
      unfolding jump_number
      jump_lands start = rw (ne_eqb _ _ some, le-ltb _ _ near, ne_eqb _ _ start)
