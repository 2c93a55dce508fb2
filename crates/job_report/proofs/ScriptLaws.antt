-- The script that a job without fault starts: it fits its family, and its run writes little. Assumes nothing.
use Prim.Native.Nat.{◌≤◌}
use mathlib.Core.Path.{◌≡◌}
use mathlib.Core.Bool.{true}
use native.Mathlib.Omega.{arith}
use lib.ListN.{length}
use Rattle.families.proofs.Tests.{both_left}
use Rattle.script.specs.Input.{script_fits, ranges_fit}
use Rattle.script.proofs.Scripts.{fits_script}
use Rattle.run.specs.Replay.{full_steps}
use Rattle.run.proofs.Room.{slot_room}
use Rattle.job_records.specs.Job.{ranges_of}
use Rattle.job_records.specs.Started.{Started, executing, script_in}
use Rattle.job_records.specs.declared.contents.Job.{Job}
use Rattle.job_report.specs.JobScript.{job_scene, job_run}

module _ (j : Job) (started : Started j) where
  pub script_fits_lem : script_fits (script_in j.state) ≡ true
  script_fits_lem = both_left _ (ranges_fit (ranges_of j)) started.fits

  pub writes_few : length (job_run j).writes ≤ 170
  unfolding job_run
  writes_few =
      let low = (fits_script _ script_fits_lem).entry_low in
      slot_room (job_scene j) (executing j.state) j.state.flags (omega arith) (full_steps j.state.family)
