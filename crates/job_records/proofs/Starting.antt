-- What a job without fault starts, from what every job holds. Assumes nothing.
use Prim.Native.Nat.{ℕ, zero, suc, ◌*◌, ◌≤◌}
use mathlib.Core.Path.{◌≡◌, refl}
use mathlib.Core.Bool.{true}
use mathlib.Core.List.{List, [], ◌∷◌}
use native.Mathlib.Omega.{arith}
use lib.ListN.{length, get_or, take}
use lib.Seq.{length-take-le}
use borrow.Author.Tests.{le-leb, eq-eqb}
use Rattle.families.specs.Family.{known_family, code_size, highest_entry}
use Rattle.families.proofs.Tests.{both_left}
use Rattle.isa_fetch.proofs.Places.{size_small}
use Rattle.script.specs.Input.{marks_plain, script_fits, ranges_fit}
use Rattle.machine_state.specs.declared.state.State.{State}
use Rattle.machine_state.proofs.SlotLaws.{known_slot}
use Rattle.machine_execution.specs.Execution.{some_slot_executes, executing_slot}
use Rattle.machine_execution.proofs.Executing.{executing_executes}
use Rattle.host_registers.proofs.HostMade.{HostMade, executing_runs, other_idle}
use Rattle.job_records.specs.Job.{ranges_of}
use Rattle.job_records.specs.Started.{code_of, marks_of, entry_of, script_in, Started}
use Rattle.job_records.specs.declared.contents.Job.{Job}
use Rattle.job_records.proofs.Growth.{Going}

plain_marks : (marks : List ℕ) → ((i : ℕ) → get_or marks i 0 ≤ 1) → (n : ℕ) → marks_plain (take n marks) ≡ true
plain_marks marks h zero = refl
plain_marks [] h (suc n) = refl
plain_marks (m ∷ marks) h (suc n) = rw (le-leb m 1 (h zero), plain_marks marks (λ i. h (suc i)) n)

module _ (s : State) (made : HostMade s) (some : some_slot_executes s ≡ true) where
  known : known_family s.family ≡ true
  known = known_slot s.family (executing_slot s) (both_left _ _ (executing_executes s some))

  script_fits_lem : script_fits (script_in s) ≡ true
  unfolding script_fits
  script_fits_lem =
      let size = code_size s.family in
      let lc : length (code_of s) ≡ size = length-take-le size s.code (omega (arith, size_small s.family, made.roomy.code)) in
      let lm : length (marks_of s) ≡ size = length-take-le size s.marks (omega (arith, size_small s.family, made.roomy.marks)) in
      let low = (executing_runs s made (executing_slot s) (executing_executes s some)).1 in
      rw (known, lc, lm, eq-eqb size size refl, plain_marks s.marks made.plain size, le-leb (entry_of s) (highest_entry s.family) low)

ranges_fit_lem : (j : Job) → Going j → ranges_fit (ranges_of j) ≡ true
unfolding ranges_fit
ranges_fit_lem j g =
    let n = j.counts.ranges in
    let l : length (ranges_of j) ≡ 2 * n = length-take-le (2 * n) j.bounds (omega (arith, g.size.bounds, g.fit.ranges)) in
    rw (l, le-leb (2 * n) 128 (omega (arith, g.fit.ranges)), g.paired)

pub started : (j : Job) → Going j → some_slot_executes j.state ≡ true → Started j
started j g some =
    let s = j.state in
    let on = executing_executes s some in
    record {
      some = some;
      runs = (executing_runs s g.made (executing_slot s) on).0;
      other_idle = other_idle s g.made (executing_slot s) on;
      fits = rw (script_fits_lem s g.made some, ranges_fit_lem j g);
    }
