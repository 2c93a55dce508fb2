-- A state taken apart: the sequencer, and its code RAM with the upload marks.
use Rattle.std.specs.Prelude.{ℕ, List}
use Rattle.machine_state.specs.declared.sequencer.Sequencer.{Sequencer}
use Rattle.machine_state.specs.declared.state.State.{State}

abbrev pub sequencer_of : State → Sequencer
sequencer_of s = record {
  family = s.family;
  flags = s.flags;
  enable = s.enable;
  override_mode = s.override_mode;
  entries = s.entries;
  entries_high = s.entries_high;
  a = s.a;
  b = s.b;
}

-- the state of a sequencer with this code and these marks
abbrev pub state_from : Sequencer → List ℕ → List ℕ → State
state_from q code marks = record {
  family = q.family;
  code = code;
  marks = marks;
  flags = q.flags;
  enable = q.enable;
  override_mode = q.override_mode;
  entries = q.entries;
  entries_high = q.entries_high;
  a = q.a;
  b = q.b;
}
