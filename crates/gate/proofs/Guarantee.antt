-- The guarantee: from a good point, whatever list of steps and runs follows, every state of its history is a good point and the claim holds there. An
-- accepted start leaves one.
use Prim.Native.Nat.{ℕ, ◌<◌}
use mathlib.Core.Path.{◌≡◌, refl, sym, ◌∙◌, subst}
use mathlib.Core.List.{List}
use native.Mathlib.Omega.{arith}
use lib.ListN.{length}
use Rattle.numbers.specs.Lists.{Bytes}
use Rattle.image.specs.declared.Limits.{Limits}
use Rattle.image.specs.Image.{count_of}
use Rattle.rules.specs.Verdict.{Accepted}
use Rattle.code.specs.Code.{Start}
use Rattle.rules.specs.Rules.{reported_need, Rules}
use Rattle.rules.proofs.Mapping.{routine_map, greatest_map}
use Rattle.acceptance.specs.Check.{checked}
use Rattle.acceptance.specs.Passed.{depth_in}
use Rattle.acceptance.proofs.Accepting.{accept_sound}
use Rattle.gate.specs.Start.{begun, cleared, started}
use Rattle.gate.specs.History.{Request, empty_book, Point, Moment, point_started, history}
use Rattle.gate.specs.Guarantee.{All, Allowed, Unchanged, Holds}
use Rattle.gate.specs.GoodPoint.{AtEnd, GoodPoint, MakesStep}
use Rattle.gate.proofs.CheckedCode.{CheckedCode}
use Rattle.gate.proofs.CheckedByRules.{rules_checked}
use Rattle.gate.proofs.OneStep.{unchanged_none}
use Rattle.gate.proofs.AnyStep.{at_end, makes_step}
use Rattle.gate.proofs.AnyList.{good_history, from_good}
use Rattle.gate.proofs.Starting.{accepted_start, start_tracked}

-- of an image that meets document 01's rules, from its start
pub from_rules : (image : List ℕ) → Bytes image → (limits : Limits) (depth need : ℕ → ℕ) → Rules image limits depth need →
    (memory : List ℕ) → length memory ≡ 32768 → (a x y cc : ℕ) →
    (calls : List Request) → All (Allowed (record { image = image; limits = limits })) calls →
    All (Holds image limits (reported_need image need) memory)
    (history calls (record { state = record { registers = begun image limits a x y cc; memory = cleared limits memory }; book = empty_book }))
from_rules image bytes limits depth need rules memory size a x y cc calls allowed =
    let code = rules_checked image bytes limits depth need rules in
    from_good image limits depth need code memory size _ (start_tracked image limits depth need code memory size a x y cc) calls allowed

-- of an image that the check accepts, at the depths that it leaves in the marks
module _ (image : List ℕ) (bytes : Bytes image) (limits : Limits) (marks : List ℕ) (need count : ℕ)
    (accepted : (checked image limits marks).0 ≡ Accepted need count) where
  pub record AcceptedCode : Type 0 where
    pub needs : ℕ → ℕ
    pub reported : need ≡ reported_need image needs
    pub code : CheckedCode image limits (depth_in (checked image limits marks).1) needs

  pub accepted_code : AcceptedCode
  accepted_code =
      let h = accept_sound image limits marks accepted in
      let rules = h.0.rules in
      let deep : (r o : ℕ) → r < count_of image → Start image r o → h.0.depth o ≡ depth_in (checked image limits marks).1 o =
      λ r o listed s. omega (arith, h.1.starts r o listed s) in
      record {
        needs = h.0.needs;
        reported = h.0.reported;
        code =
            rules_checked image bytes limits (depth_in (checked image limits marks).1) h.0.needs
            (record {
              areas = rules.areas;
              layout = rules.layout;
              routines = λ r listed. routine_map (λ o s. deep r o listed s) (rules.routines r listed);
              needs = λ r listed. greatest_map (λ o s. deep r o listed s) (λ j lower. refl) (rules.needs r listed);
              room = rules.room;
            });
      }

  abbrev pub Good : Point → Type 0
  Good = GoodPoint image limits (depth_in (checked image limits marks).1)

  -- From a good point with PC not 0 a step is made; at PC 0 main has returned, and the book is empty.
  pub good_makes_step : (p : Point) → length p.state.memory ≡ 32768 → Good p → (p.state.registers.pc ≡ 0 → ⊥) → MakesStep image limits p
  good_makes_step p size good on = let h = accepted_code in makes_step image limits _ h.needs h.code p size good on

  pub good_ends : (p : Point) → Good p → p.state.registers.pc ≡ 0 → AtEnd limits p.state.registers p.book
  good_ends p good end = let h = accepted_code in at_end image limits _ h.needs h.code good end

  -- Every state of a history from a good point is a good point.
  pub good_stays : (p : Point) → length p.state.memory ≡ 32768 → Good p →
      (calls : List Request) → All (Allowed (record { image = image; limits = limits })) calls →
      All (λ (m : Moment). Good m.point) (history calls p)
  good_stays p size good calls allowed =
      let h = accepted_code in
      good_history image limits _ h.needs h.code p.state.memory size p
      (record { good = good; kept = unchanged_none limits (reported_need image h.needs) p.state.memory }) calls allowed

  -- The guarantee, from any good point: what may not change is as it was before. (A point's own memory will do: `unchanged_none`.)
  pub good_guarantee : (before : List ℕ) → length before ≡ 32768 → (p : Point) → Good p → Unchanged limits need before p.state.memory →
      (calls : List Request) → All (Allowed (record { image = image; limits = limits })) calls →
      All (Holds image limits need before) (history calls p)
  good_guarantee before size p good kept calls allowed =
      let h = accepted_code in
      subst (λ (k : ℕ). All (Holds image limits k before) (history calls p)) (sym h.reported)
      (from_good image limits _ h.needs h.code before size p (record { good = good; kept = rw h.reported at kept }) calls allowed)

  -- An accepted start leaves a good point.
  pub start_good : (memory : List ℕ) → length memory ≡ 32768 → (a x y cc' : ℕ) →
      let p : Point = record { state = record { registers = begun image limits a x y cc'; memory = cleared limits memory }; book = empty_book } in
      Good p × Unchanged limits need memory (cleared limits memory)
  start_good memory size a x y cc' =
      let h = accepted_code in
      let t = start_tracked image limits _ h.needs h.code memory size a x y cc' in
      (t.good, rw h.reported t.kept)

-- The guarantee, from an accepted start: whatever list of steps and runs follows, the claim holds in every state of its history.
pub guarantee : (image : List ℕ) → Bytes image → (limits : Limits) (marks memory : List ℕ) (a x y cc need count : ℕ) →
    (started image limits marks memory a x y cc).started.verdict ≡ Accepted need count →
    (calls : List Request) → All (Allowed (record { image = image; limits = limits })) calls →
    All (Holds image limits need memory) (history calls (point_started (started image limits marks memory a x y cc)))
guarantee image bytes limits marks memory a x y cc need count accepted calls allowed =
    let s = accepted_start image limits marks memory a x y cc need count accepted in
    let g = start_good image bytes limits marks need count s.accepted memory s.size a x y cc in
    rw (s.registers, s.cleared_memory)
    (good_guarantee image bytes limits marks need count s.accepted memory s.size _ g.0 g.1 calls allowed)

-- Every state of it is a good point.
pub every_good : (image : List ℕ) → Bytes image → (limits : Limits) (marks memory : List ℕ) (a x y cc need count : ℕ) →
    (started image limits marks memory a x y cc).started.verdict ≡ Accepted need count →
    (calls : List Request) → All (Allowed (record { image = image; limits = limits })) calls →
    All (λ (m : Moment). GoodPoint image limits (depth_in (checked image limits marks).1) m.point)
    (history calls (point_started (started image limits marks memory a x y cc)))
every_good image bytes limits marks memory a x y cc need count accepted calls allowed =
    let s = accepted_start image limits marks memory a x y cc need count accepted in
    let g = start_good image bytes limits marks need count s.accepted memory s.size a x y cc in
    rw (s.registers, s.cleared_memory)
    (good_stays image bytes limits marks need count s.accepted _ (g.1.size ∙ s.size) g.0 calls allowed)
