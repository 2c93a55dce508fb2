use Rattle.machine_time.proofs.DoneLaws.{elapses}
use Rattle.machine_time.proofs.elapsed.elapse.Goals as goal

pub returns-in-Wait : goal.returns-in-Wait
returns-in-Wait c = elapses _ _ _ _ (simp (c.in-Wait.is, c.after_wait.ensures))
