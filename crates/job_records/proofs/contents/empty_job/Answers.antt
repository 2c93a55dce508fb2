use mathlib.Core.Path.{ap}
use Rattle.host_registers.specs.declared.access.Access.{Access}
use Rattle.job_records.specs.Job.{empty_job}
use Rattle.job_records.proofs.contents.empty_job.Goals as goal

pub returns : goal.returns
unfolding empty_job
returns c =
    simp (c.no_probes.ensures, c.no_counts.ensures, ap (λ (a : Access). a.state) c.fresh_state.ensures.answered)
