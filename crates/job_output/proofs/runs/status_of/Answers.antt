use Rattle.job_report.specs.JobScript.{status_of}
use Rattle.job_output.proofs.runs.status_of.Goals as goal

pub returns : goal.returns
unfolding status_of
returns c = simp (c.unwrap_or.ensures, c.read_register.ensures.answered)
