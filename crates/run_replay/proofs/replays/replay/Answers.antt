use mathlib.Core.Path.{sym, ◌∙◌}
use Rattle.log_waits.proofs.LeftLaws.{left_fits}
use Rattle.event_log.specs.Log.{lent_log}
use Rattle.run.proofs.ReplayEnds.{ended_valid}
use Rattle.run_replay.proofs.replays.replay.Goals as goal

pub told-requires : goal.told-requires
told-requires c = left_fits (lent_log c.args.log) (ended_valid _ _ _ _ _ (sym c.run.ensures.answered ∙ c.in_ok-last.was)) _
