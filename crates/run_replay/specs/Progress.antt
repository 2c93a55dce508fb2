-- What the loop over a slot's steps holds. Private functions cite it; no public contract does.
use Rattle.std.specs.Prelude.{ℕ, ◌+◌, ◌≡◌, List, length}
use Rattle.machine_flags.specs.declared.flags.Flags.{Flags}
use Rattle.machine_state.specs.declared.slots.Slot.{Slot}
use Rattle.machine_slot.specs.declared.slot_steps.SlotStep.{SlotStep}
use Rattle.run.specs.Run.{wrote_by, fetched_by}
use Rattle.run.specs.Replay.{written_into, progress_of, full_slot_run}
use Rattle.run.specs.SlotRun.{Scene}
use Rattle.run.specs.declared.answers.Progress.{Progress}

-- a progress after one more step
abbrev pub progress_after : Progress → SlotStep → Progress
progress_after p t = record {
  slot = t.slot;
  flags = t.flags;
  place = t.place;
  steps = p.steps + fetched_by t.effect;
  writes = p.writes + length (wrote_by t.effect);
  waited = p.waited + t.waited;
  searched = p.searched + t.searched;
}

-- the loop's end: the whole run, and its writes in the lent entries
pub record RunsThrough (x : Scene) (slot : Slot) (flags : Flags) (old new : List ℕ) (last : Progress) : Type 0 where
  pub at_run : last ≡ progress_of (full_slot_run x slot flags)
  pub lent : new ≡ written_into old (full_slot_run x slot flags).writes
