-- `flow_check::exploring::follow` meets its contract. There is room on the stack where a target's depth is not known yet: the stack is no higher
-- than the number of depths that are known.
use Rattle.std.proofs.Common.{◌≡◌, ℕ, ◌-◌, ◌%◌, ◌<◌, List, get_or, arith, get_or-set_same}
use Rattle.control_flow.specs.Exploring.{nowhere, fresh, same, other}
use Rattle.control_flow.proofs.Knowing.{room}
use Rattle.flow_check.specs.Internal.{Followable}
use Rattle.flow_check.proofs.Steps.{put_on_top}
use Rattle.flow_check.proofs.exploring.follow.Goals as goal

-- the stack has room
low : (to depth : ℕ) (depths stack : List ℕ) (height : ℕ) → Followable to depth depths stack height →
    get_or depths ((to - 1) % 4096) 0 ≡ 0 → height < 4096
low to depth depths stack height f unknown =
    omega (arith, room depths ((to - 1) % 4096) (omega (arith, f.cells)) unknown, f.cells, f.room)

pub returns-then-old-eq0 : goal.returns-then-old-eq0
returns-then-old-eq0 c = record {
  height_bound = omega arith;
  followed = λ f.
      let l = low _ _ _ _ _ f c.if-old-eq0.true in
      let here : c.args.e.height % 4096 ≡ c.args.e.height = omega (arith, l) in
      rw here (
        fresh ((c.args.to - 1) % 4096) (omega (arith, f.high, c.if-to-eq0.false)) c.if-old-eq0.true,
        λ n. record {
          at = put_on_top c.args.trail.now.stack c.args.e.height ((c.args.to - 1) % 4096) f.slots (omega (arith, l));
          depth = get_or-set_same c.args.trail.now.depths ((c.args.to - 1) % 4096) c.args.depth 0 (omega (arith, f.cells));
        },
      );
}

pub returns-then-old-depth : goal.returns-then-old-depth
returns-then-old-depth c = record {
  height_bound = omega arith;
  followed = λ f. (same ((c.args.to - 1) % 4096) (omega (arith, f.high, c.if-to-eq0.false)) c.if-old-depth.true f.some, λ n. n);
}

pub returns : goal.returns
returns c = record {
  height_bound = omega arith;
  followed = λ f. (
    other ((c.args.to - 1) % 4096) (omega (arith, f.high, c.if-to-eq0.false)) (omega (arith, c.if-old-eq0.false)) c.if-old-depth.false,
    λ n. n,
  );
}

pub returns-then-to-eq0 : goal.returns-then-to-eq0
returns-then-to-eq0 c = record {
  height_bound = omega arith;
  followed = λ f. (nowhere c.if-to-eq0.true, λ n. n);
}
