-- A recorded event log (01, "Steps and time"): each row has its clocks, which events are known, and their values.
use Rattle.std.specs.Prelude.{ℕ, List}
use Rattle.event_log.specs.declared.lent.Log.{Log as Columns}

pub record Log : Type 0 where
  pub clocks : List ℕ
  pub known : List ℕ
  pub values : List ℕ

-- the log of three columns
abbrev pub log_of : List ℕ → List ℕ → List ℕ → Log
log_of clocks known values = record { clocks = clocks; known = known; values = values }

-- the log that lent columns hold
abbrev pub lent_log : Columns → Log
lent_log columns = log_of columns.clocks.now columns.known.now columns.values.now
