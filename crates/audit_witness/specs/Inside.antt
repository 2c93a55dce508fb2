-- The log as far as it is made. Private functions cite it; no public contract does.
use Rattle.std.specs.Prelude.{ℕ, ◌+◌, ◌^◌, ◌≡◌, ◌<◌, List, length, set}
use Rattle.event_log.specs.Log.{Log, log_of}
use Rattle.event_log.specs.Rows.{rows_into, with_rows_at}
use Rattle.event_log.specs.declared.row.Row.{Row}
use Rattle.machine_actions.specs.declared.actions.Action.{Action}
use Rattle.audit_verdict.specs.Auditor.{Releasable, wait_length, poke_count}
use Rattle.audit_verdict.specs.Witness.{first_row, row_after, rows_ended, rows_over, writes_over}
use Rattle.audit_witness.specs.declared.rows.Timeline.{Timeline}

-- each column has an entry at a place
abbrev pub has_entry : Log → ℕ → Type 0
has_entry lent at = (at < length lent.clocks) × (at < length lent.known) × (at < length lent.values)

-- columns with a row put at a place
abbrev pub with_row : Log → ℕ → Row → Log
with_row old at row = log_of (set old.clocks at row.clocks) (set old.known at row.known) (set old.values at row.values)

abbrev pub timeline_of : Row → ℕ → ℕ → ℕ → Timeline
timeline_of row before steps writes = record { row = row; before = before; steps = steps; writes = writes }

-- one action more can be added: there is an entry for the present row, and the numbers stay in their types
abbrev pub CanExtend : Action → Timeline → Log → Type 0
CanExtend action made lent = (has_entry lent made.before)
    × (made.before < 1024) × (made.steps < 1024) × (made.writes < 1024) × (made.row.clocks + wait_length action < 2 ^ 64) × (Releasable action)

-- at the entry
abbrev pub nothing_made : Timeline
nothing_made = timeline_of first_row 0 0 0

-- one action more
abbrev pub made_after : Action → Timeline → Timeline
made_after action made =
    timeline_of (row_after action made.row) (made.before + length (rows_ended action made.row)) (made.steps + 1) (made.writes + poke_count action)

pub record Extends (action : Action) (made : Timeline) (old new : Log) (answer : Timeline) : Type 0 where
  pub made_is : answer ≡ made_after action made
  pub put : new ≡ with_rows_at old made.before (rows_ended action made.row)

-- the loop's end: the rows that a way asks for stand in the lent columns, the last one not counted among those before it
pub record Follows (way : List Action) (lent new : Log) (last : Timeline) : Type 0 where
  pub counted : last.before + 1 ≡ length (rows_over way first_row)
  pub stepped : last.steps ≡ length way
  pub wrote : last.writes ≡ writes_over way
  pub put : new ≡ rows_into lent (rows_over way first_row)
