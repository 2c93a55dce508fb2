-- What a job without fault starts (01, "A job, and one report whole" and "Host registers": while a slot executes, no other can be started).
use Rattle.std.specs.Prelude.{ℕ, ◌≡◌, true, List}
use Rattle.isa_fetch.specs.Fetch.{code_ram_of}
use Rattle.script.specs.Script.{Script, script_of}
use Rattle.script.specs.Input.{input_fits}
use Rattle.machine_state.specs.Slot.{has_slot, other_of, slot_of}
use Rattle.machine_state.specs.declared.slots.Mode.{Mode}
use Rattle.machine_state.specs.declared.slots.Slot.{Slot}
use Rattle.machine_state.specs.declared.state.State.{State}
use Rattle.machine_execution.specs.Execution.{some_slot_executes, executing_slot}
use Rattle.job_records.specs.Job.{ranges_of}
use Rattle.job_records.specs.declared.contents.Job.{Job}

-- the slot that executes
abbrev pub executing : State → Slot
executing s = slot_of s (executing_slot s)

-- the family's code RAM, and its upload marks
abbrev pub code_of : State → List ℕ
code_of s = code_ram_of s.family s.code

abbrev pub marks_of : State → List ℕ
marks_of s = code_ram_of s.family s.marks

-- the script starts where the executing slot's IP stands
abbrev pub entry_of : State → ℕ
entry_of s = (executing s).ip.0

-- the script that it runs
abbrev pub script_in : State → Script
script_in s = script_of s.family (code_of s) (marks_of s) (entry_of s)

pub record Started (j : Job) : Type 0 where
  -- a slot executes, and it runs: it is not hung, blocked or in a wait
  pub some : some_slot_executes j.state ≡ true
  pub runs : (executing j.state).mode ≡ Mode.Running
  -- the other slot, if the family has it, is idle
  pub other_idle : has_slot j.state.family (other_of (executing_slot j.state)) ≡ true
      → (slot_of j.state (other_of (executing_slot j.state))).mode ≡ Mode.Idle
  -- script and ranges may be audited, so that no job's verdict is 9
  pub fits : input_fits (script_in j.state) (ranges_of j) ≡ true
