-- The log in columns that are lent, and which columns these are.
use Rattle.std.specs.Prelude.{◌≡◌}
use Rattle.event_log.specs.Log.{Log, log_of}
use Rattle.audit_witness.specs.declared.columns.Columns.{Columns}

-- the log that lent columns hold
abbrev pub columns_log : Columns → Log
columns_log columns = log_of columns.clocks.now columns.known.now columns.values.now

-- the same columns, whatever they hold
pub record SameColumns (old new : Columns) : Type 0 where
  pub clocks : new.clocks.ghost_name ≡ old.clocks.ghost_name
  pub known : new.known.ghost_name ≡ old.known.ghost_name
  pub values : new.values.ghost_name ≡ old.values.ghost_name
