use Prim.Native.Nat.{ℕ, suc, ◌+◌, ◌-◌, ◌≤◌, ◌<◌}
use mathlib.Core.Path.{◌≡◌}
use mathlib.Core.List.{List}
use lib.ListN.{length}
use Rattle.event_log.specs.Log.{Log, log_of}
use Rattle.machine_state.specs.declared.state.State.{State}
use Rattle.job_records.specs.Job.{empty_job}
use Rattle.job_records.specs.Reader.{CountsWithin, JobRead, read_in}
use Rattle.job_records.specs.declared.contents.Counts.{Counts}
use Rattle.job_records.specs.declared.contents.Job.{Job}
use Rattle.probe_captures.specs.declared.extents.Extent.{Extent}
use Rattle.probe_captures.specs.declared.gates.EventGate.{EventGate}
use Rattle.probe_captures.specs.declared.masks.Masks.{Masks}
use Rattle.probe_captures.specs.declared.probes.Probes.{Probes}
use Rattle.job_records.proofs.Growth.{Going}
use Rattle.job_records.proofs.jobs.read_records.Given as goal

-- the answer from the start
abbrev pub from_start : List ℕ → JobRead
from_start bytes = read_in (suc (length bytes)) bytes 0 empty_job

-- beside that: no event's count is above the bytes read
abbrev pub Inv : List ℕ → ℕ → Job → Type 0
Inv bytes at j = (at ≤ length bytes) × Going j × CountsWithin at j.probes × ((f : ℕ) × (length bytes < at + f) × (read_in f bytes at j ≡ from_start bytes))

abbrev pub probes_of : Masks → List EventGate → List Extent → Probes
probes_of masks gates extents = record { masks = masks; gates = gates; extents = extents }

-- what was read so far, of the loop's variables
abbrev pub job_of : Counts → List ℕ → State → Log → Probes → Job
job_of counts bounds s log probes =
    record { counts = counts; bounds = bounds; state = s; clocks = log.clocks; known = log.known; values = log.values; probes = probes }

abbrev pub invariant-loop-kind : goal.invariant-loop-kind
invariant-loop-kind l =
    Inv l.bytes l.at (job_of l.counts l.bounds l.state (log_of l.clocks l.known l.values) (probes_of l.masks l.gates l.extents))

abbrev pub decreases-loop-kind : goal.decreases-loop-kind
decreases-loop-kind l = length l.bytes - l.at
