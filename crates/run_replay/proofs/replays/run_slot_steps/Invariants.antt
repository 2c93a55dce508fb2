use Rattle.std.specs.Prelude.{◌≡◌}
use Rattle.run.specs.Replay.{written_into, progress_of}
use Rattle.run.specs.SlotRun.{lent_scene}
use Rattle.run_replay.proofs.Replaying.{run_to}
use Rattle.run_replay.proofs.replays.run_slot_steps.Given as goal

abbrev pub invariant-loop-step : goal.invariant-loop-step
invariant-loop-step l =
    let r = run_to (lent_scene l.fn.scene) l.fn.slot l.fn.flags l._step in
    (l.progress ≡ progress_of r) × (l.writes ≡ written_into l.initial.writes r.writes)
