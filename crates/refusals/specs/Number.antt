-- The numbers of refusals and faults (01, "What the auditor says", "Other refusals" and "Host registers").
use Rattle.std.specs.Prelude.{ℕ}
use Rattle.refusals.specs.declared.refusals.Fault.{Fault}
use Rattle.refusals.specs.declared.refusals.Inaccessible.{Inaccessible}
use Rattle.refusals.specs.declared.refusals.Unreadable.{Unreadable}
use Rattle.refusals.specs.declared.refusals.Unreplayable.{Unreplayable}
use Rattle.refusals.specs.declared.refusals.Unshowable.{Unshowable}
use Rattle.refusals.specs.declared.refusals.Unsteppable.{Unsteppable}
use Rattle.refusals.specs.declared.refusals.Unwritable.{Unwritable}

-- the reader, and a fetch from code RAM
abbrev pub unreadable_number : Unreadable → ℕ
unreadable_number Unreadable.Family = 9
unreadable_number Unreadable.Empty = 1
unreadable_number Unreadable.Unknown = 3
unreadable_number Unreadable.Short = 1
unreadable_number Unreadable.NotUploaded = 2

-- the writer
abbrev pub unwritable_number : Unwritable → ℕ
unwritable_number Unwritable.Family = 9
unwritable_number Unwritable.NotOnFamily = 11
unwritable_number Unwritable.Operand = 12
unwritable_number Unwritable.Room = 13

-- one step
abbrev pub unsteppable_number : Unsteppable → ℕ
unsteppable_number Unsteppable.Family = 9
unsteppable_number Unsteppable.Log = 15

-- a host write or read
abbrev pub inaccessible_number : Inaccessible → ℕ
inaccessible_number Inaccessible.Family = 9
inaccessible_number Inaccessible.Register = 27
inaccessible_number Inaccessible.Executing = 28

-- the auditor's table
abbrev pub fault_number : Fault → ℕ
fault_number Fault.PastRam = 1
fault_number Fault.NotUploaded = 2
fault_number Fault.Unknown = 3
fault_number Fault.NoAddress = 4
fault_number Fault.HalfData = 5
fault_number Fault.Outside = 6
fault_number Fault.Unreleased = 7
fault_number Fault.Paused = 8
fault_number Fault.Input = 9

-- replay
abbrev pub unreplayable_number : Unreplayable → ℕ
unreplayable_number Unreplayable.Input = 9
unreplayable_number Unreplayable.Room = 14
unreplayable_number Unreplayable.Log = 15

-- the log that shows a verdict
abbrev pub unshowable_number : Unshowable → ℕ
unshowable_number Unshowable.Input = 9
unshowable_number Unshowable.Room = 14
