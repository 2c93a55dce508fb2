-- How time passes during an action (01, "Steps and time": only wait and ewait use clocks).
use Rattle.std.specs.Prelude.{ℕ, ◌-◌, ◌≤◌, ◌<◌, ◌≡◌, ◌↔◌, true, false, length, eqb}
use Rattle.log_waits.specs.Left.{left_of}
use Rattle.log_waits.specs.Wait.{wait_of}
use Rattle.log_ewaits.specs.Ewait.{ewait_of, ReadsAsked}
use Rattle.log_ewaits.specs.declared.ewait.Released.{Released}
use Rattle.event_log.specs.Log.{Log}
use Rattle.event_log.specs.declared.place.Place.{Place}
use Rattle.log_waits.specs.declared.wait.Waited.{Waited}
use Rattle.machine_actions.specs.declared.actions.Action.{Action}
use Rattle.machine_time.specs.declared.elapsed.Elapsed.{Elapsed}

-- an unfinished wait counts as far as it got
abbrev pub after_wait : ℕ → Waited → Elapsed
after_wait n w = record { place = w.place; finished = eqb w.cut 0; waited = n - w.cut; searched = 0 }

-- an ewait that nothing releases passes the rest of the log and stands at its end
abbrev pub after_ewait : ℕ → Released → Elapsed
after_ewait rows (Released.At p n) = record { place = p; finished = true; waited = 0; searched = n }
after_ewait rows (Released.End n) = record { place = record { row = rows; used = 0 }; finished = false; waited = 0; searched = n }

abbrev pub at_once : Place → Elapsed
at_once p = record { place = p; finished = true; waited = 0; searched = 0 }

abbrev pub elapsed_of : Action → Log → Place → Elapsed
elapsed_of (Action.Wait n) log p = after_wait n (wait_of log.clocks p n)
elapsed_of (Action.Ewait event value) log p = after_ewait (length log.clocks) (ewait_of log p event value)
elapsed_of (Action.Flag change flag) log p = at_once p
elapsed_of (Action.Load part word) log p = at_once p
elapsed_of (Action.Poke part word) log p = at_once p
elapsed_of Action.Exit log p = at_once p

-- ---- what is promised of it

-- a wait is done where the log has its clocks, an ewait where a row from the present one on has the reading, all else at once
abbrev pub DoneWhere : Action → Log → Place → Type 0
DoneWhere (Action.Wait n) log p = n ≤ left_of log.clocks p
DoneWhere (Action.Ewait event value) log p = (row : ℕ) × (p.row ≤ row) × (row < length log.clocks) × ReadsAsked log event value row
DoneWhere (Action.Flag change flag) log p = Unit {0}
DoneWhere (Action.Load part word) log p = Unit {0}
DoneWhere (Action.Poke part word) log p = Unit {0}
DoneWhere Action.Exit log p = Unit {0}

pub record Elapses (action : Action) (log : Log) (p : Place) (answer : Elapsed) : Type 0 where
  pub answered : answer ≡ elapsed_of action log p
  -- finished exactly there
  pub finishes : (answer.finished ≡ true) ↔ DoneWhere action log p
