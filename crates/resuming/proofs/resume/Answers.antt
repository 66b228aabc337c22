-- `resuming::resume` meets its contract: each answer is one way through.
use Prim.Native.Nat.{ℕ}
use mathlib.Core.Path.{refl, ap, ◌∙◌}
use mathlib.Core.List.{List}
use Rattle.rules.specs.Verdict.{Verdict}
use mathlib.Core.Logic.{inl}
use native.Mathlib.Omega.{arith}
use Rattle.resuming.specs.Resuming.{no_memory, refused, accepted}
use Rattle.resuming.proofs.ResumeNumbers.{refused_numbered, check_numbered, accepted_numbered}
use borrow.Author.Rules.{rules}
use Rattle.resuming.proofs.resume.Goals as goal

pub returns-then-memory-ne32768 : goal.returns-then-memory-ne32768
returns-then-memory-ne32768 c = record {
  resumes = rw c.refused.ensures (no_memory c.if-memory-ne32768.true);
  resume_numbered = rw c.refused.ensures (refused_numbered 17 0 (inl (omega arith, omega arith)) (λ _. refl));
}

pub enum_told-1 : goal.enum_told-1
enum_told-1 c = search rules

pub resume_accepted-requires : goal.resume_accepted-requires
resume_accepted-requires c = record {
  accepting = record {
    bytes = λ k. (c.shared_slice_known-1.given k).fits;
    given = c.args.marks.now;
    need = _;
    count = _;
    verdict = ap (λ (r : Verdict × List ℕ). r.0) c.check_begins-checked.ensures.marks_value ∙ c.in-Ok.is;
    left = ap (λ (r : Verdict × List ℕ). r.1) c.check_begins-checked.ensures.marks_value;
    begin = c.check_begins-checked.ensures.by_index _ _ c.in-Ok.is;
  };
  memory_len = c.if-memory-ne32768.false;
}

pub returns-in-Err : goal.returns-in-Err
returns-in-Err c = record {
  resumes = rw c.refused-in-Err.ensures (refused c.if-memory-ne32768.false (rw c.in-Err.is at c.check_begins-checked.ensures.marks_value));
  resume_numbered = rw c.refused-in-Err.ensures (check_numbered (rw c.in-Err.is at c.check_begins-checked.ensures.verdict_numbered));
}

pub returns-in-Ok : goal.returns-in-Ok
returns-in-Ok c = record {
  resumes = accepted c.if-memory-ne32768.false (rw c.in-Ok.is at c.check_begins-checked.ensures.marks_value) c.resume_accepted.ensures;
  resume_numbered = accepted_numbered c.resume_accepted.ensures;
}
