-- `gate_c::gate_resume` meets its contract.
use Rattle.gate_c.proofs.Answers.{resumed_into}
use Rattle.gate_c.proofs.gate_resume.Goals as goal

pub returns : goal.returns
returns c =
    resumed_into c.limits_in.ensures c.resume-resumed.ensures.resumes c.resume_number.ensures (c.register_cells.ensures.value, c.register_cells.ensures.result_value) c.resume_offset.ensures
