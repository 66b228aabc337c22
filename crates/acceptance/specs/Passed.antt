-- What is known of the routines that are checked, and of one that passes: in the marks, depth + 1 at each start.
use Rattle.std.specs.Prelude.{ℕ, ◌-◌, ◌<◌, ◌≤◌, ◌≡◌, ◌⊎◌, Bool, List, ltb, length, get_or}
use Rattle.image.specs.declared.Limits.{Limits}
use Rattle.image.specs.Image.{size_of, start_of, end_of}
use Rattle.code.specs.Code.{Start}
use Rattle.rules.specs.Rules.{RoutineRules, Use, Greatest, count_below}
use Rattle.rules.specs.Refusal.{RoutineRefusal}

-- the depth that a mark says, and whether a cell is marked
abbrev pub depth_in : List ℕ → ℕ → ℕ
depth_in marks o = get_or marks o 0 - 1

abbrev pub marked : List ℕ → ℕ → Bool
marked marks o = ltb 0 (get_or marks o 0)

-- the needs that are held, 0 past them
abbrev pub need_in : List ℕ → ℕ → ℕ
need_in needs r = get_or needs r 0

-- routine r passes, over marks that were given
pub record RoutinePassed (image : List ℕ) (limits : Limits) (needs : List ℕ) (r : ℕ) (given marks : List ℕ) (need count : ℕ) : Type 0 where
  pub size : length marks ≡ length given
  pub outside : (o : ℕ) → (o < start_of image r) ⊎ (end_of image r ≤ o) → get_or marks o 0 ≡ get_or given o 0
  pub rules : RoutineRules image limits (depth_in marks) r
  pub most : Greatest (Use image (depth_in marks) (need_in needs) r) need
  pub starts : {o : ℕ} → Start image r o → 1 ≤ get_or marks o 0
  pub exact : (o : ℕ) → start_of image r ≤ o → o < end_of image r → 1 ≤ get_or marks o 0 → Start image r o
  pub counted : count ≡ count_below (marked marks) (end_of image r)

-- routine r is refused or passes
pub data RoutineChecked (image : List ℕ) (limits : Limits) (needs : List ℕ) (r : ℕ) (given : List ℕ) : ℕ → ℕ → List ℕ → ℕ → ℕ → Type 0 where
  refused : {number at need count : ℕ} {marks : List ℕ} → 1 ≤ number → RoutineRefusal image limits r number at →
      RoutineChecked image limits needs r given number at marks need count
  passed : {at need count : ℕ} {marks : List ℕ} → RoutinePassed image limits needs r given marks need count →
      RoutineChecked image limits needs r given 0 at marks need count

-- what is left to check the next routine with: the marks and needs of the routines before it, and how many starts they have
pub record RoutinesPassed (image : List ℕ) (limits : Limits) (index : ℕ) (needs marks : List ℕ) (count : ℕ) : Type 0 where
  pub size : length marks ≡ size_of image
  pub held : length needs ≡ 32
  pub clear : (o : ℕ) → start_of image index ≤ o → get_or marks o 0 ≡ 0
  pub rules : (r : ℕ) → r < index → RoutineRules image limits (depth_in marks) r
  pub most : (r : ℕ) → r < index → Greatest (Use image (depth_in marks) (need_in needs) r) (need_in needs r)
  pub starts : (r : ℕ) → r < index → {o : ℕ} → Start image r o → 1 ≤ get_or marks o 0
  pub exact : (o : ℕ) → o < start_of image index → 1 ≤ get_or marks o 0 → (r : ℕ) × (r < index) × Start image r o
  pub counted : count ≡ count_below (marked marks) (start_of image index)
