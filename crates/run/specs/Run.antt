-- A run: the steps of one slot over a log, and what they did (01, "Demand 3's words").
use Rattle.std.specs.Prelude.{ℕ, zero, suc, ◌+◌, List, [], ◌∷◌, ◌++◌}
use Rattle.event_log.specs.Log.{Log}
use Rattle.event_log.specs.Validity.{log_start}
use Rattle.event_log.specs.declared.place.Place.{Place}
use Rattle.machine_step.specs.Step.{step_of}
use Rattle.machine_state.specs.declared.slots.SlotName.{SlotName}
use Rattle.machine_state.specs.declared.state.State.{State}
use Rattle.machine_step.specs.declared.steps.Stepped.{Stepped}
use Rattle.machine_slot.specs.declared.slot_steps.Effect.{Effect}

pub record Write : Type 0 where
  pub address : ℕ
  pub word : ℕ

-- the state and the place that the last step returned, the writes in order, how many steps fetched an instruction, and the
-- clocks spent in waits and passed by in ewaits
pub record Run : Type 0 where
  pub state : State
  pub place : Place
  pub writes : List Write
  pub count : ℕ
  pub waits : ℕ
  pub ewaits : ℕ

-- the first step gets the start, and the log's
abbrev pub begun : State → Run
begun s = record { state = s; place = log_start; writes = []; count = 0; waits = 0; ewaits = 0 }

abbrev pub wrote_by : Effect → List Write
wrote_by (Effect.Refused why) = []
wrote_by Effect.Nothing = []
wrote_by (Effect.Stopped why) = []
wrote_by Effect.Unknown = []
wrote_by Effect.Done = []
wrote_by (Effect.Wrote address word) = record { address = address.0; word = word } ∷ []

-- a step that fetched an instruction, a stop not counted
abbrev pub fetched_by : Effect → ℕ
fetched_by (Effect.Refused why) = 0
fetched_by Effect.Nothing = 0
fetched_by (Effect.Stopped why) = 0
fetched_by Effect.Unknown = 1
fetched_by Effect.Done = 1
fetched_by (Effect.Wrote address word) = 1

-- a run with one more step noted
abbrev pub noted : Run → Stepped → Run
noted r t = record {
  state = t.state;
  place = t.place;
  writes = r.writes ++ wrote_by t.effect;
  count = r.count + fetched_by t.effect;
  waits = r.waits + t.waited;
  ewaits = r.ewaits + t.searched;
}

-- one log and one slot
module _ (name : SlotName) (log : Log) where
  -- the next step of a run
  abbrev pub next_step : Run → Stepped
  next_step r = step_of r.state name log r.place

  -- a run after n more steps
  unfoldable pub run_for : ℕ → Run → Run
  run_for zero r = r
  run_for (suc n) r = run_for n (noted r (next_step r))
