-- What each fault of the auditor means, from what the log made for its walk shows. Assumes nothing.
use Rattle.std.specs.Prelude.{Err}
use Prim.Native.Nat.{ℕ, suc, ◌+◌}
use mathlib.Core.Path.{◌≡◌, refl, ap}
use mathlib.Core.Bool.{true, false}
use mathlib.Core.List.{List}
use native.Mathlib.Omega.{arith}
use lib.Dec.{lit<}
use Rattle.refusals.specs.declared.refusals.Fault.{Fault}
use Rattle.refusals.specs.declared.refusals.Unreadable.{Unreadable}
use Rattle.event_log.specs.Log.{Log}
use Rattle.event_log.specs.Validity.{valid_log}
use Rattle.machine_state.specs.Slot.{is_running, slot_of}
use Rattle.machine_actions.specs.declared.actions.Action.{Action}
use Rattle.machine_state.specs.declared.slots.SlotName.{SlotName}
use Rattle.machine_state.specs.declared.state.State.{State}
use Rattle.run.specs.Run.{begun, next_step, run_for}
use Rattle.run.specs.SlotRun.{slot_begun, slot_run_for, slot_run_of}
use Rattle.run.proofs.SlotRuns.{slot_add}
use Rattle.script.specs.Script.{Script, fetch_at}
use Rattle.script.proofs.Scripts.{Fits, Auditable, Reads}
use Rattle.audit_verdict.specs.Auditor.{fault_of, can_release, know_nothing}
use Rattle.audit_verdict.specs.Demand3.{AtPlace, Fetchless, Witness, Shows, FaultMeans}
use Rattle.audit_verdict.specs.Start.{Start}
use Rattle.audit_verdict.specs.declared.verdicts.Knowledge.{Knowledge}
use Rattle.audit_verdict.proofs.Going.{scene_under, after_step, run_rests, Going}
use Rattle.audit_verdict.proofs.Judging.{Blame}
use Rattle.audit_verdict.proofs.Walk.{Walk}
use Rattle.audit_verdict.proofs.Starts.{slot_follows, effect_follows, some_state, some_start}
use Rattle.audit_verdict.proofs.Shown.{stuck_there, witness, brought, none_before, one_address, one_write, SeesIt, refused_sees, blamed_sees}

-- no run from a start that comes to an ewait that nothing can release fetches again
stuck : {x : Script} {p t event value : ℕ} → Reads x p (Action.Ewait event value) t → can_release event value ≡ false → Fits x
    → {name : SlotName} {s : State} → Start x name s → (log : Log) → valid_log log ≡ true → (n : ℕ) → AtPlace name p (run_for name log n (begun s))
    → (m : ℕ) → Fetchless (next_step name log (run_for name log (suc (n + m)) (begun s))).effect
unfolding slot_run_for
stuck {x} {p} e c fit {name} {s} start log valid n at m =
    let slot = slot_begun (slot_of s name) s.flags in
    let g : Going p (slot_run_of name (run_for name log n (begun s))) = record { runs = at.runs; ip = at.ip } in
    let waits = (stuck_there e c log (rw (slot_follows start fit log valid n) at g)).waits in
    let split : suc (n + m) ≡ n + suc m = omega arith in
    rw (split, effect_follows start fit log valid (n + suc m), slot_add (scene_under x log) n (suc m) slot)
    (rw (run_rests (scene_under x log) (after_step (scene_under x log) (slot_run_for (scene_under x log) n slot)) (ap is_running waits) m, waits) tt)

module _ {x : Script} {ranges : List ℕ} (fit : Auditable x) {q : ℕ} {k : Knowledge} (w : Walk x ranges x.entry know_nothing q k) where
  abbrev Means : Fault → Type 0
  Means fault = FaultMeans x ranges fault q

  -- the start that is tried: ADDR and DATA are 0
  plain : Start x SlotName.A (some_state x 0 0)
  plain = some_start fit 0 0 (lit< tt) (lit< tt)

  -- the place is reached with no fault before it, and there the run shows this
  shown : {P : Witness x → Type 0} → P (witness fit w plain) → Shows x ranges q P
  shown p = (witness fit w plain, brought fit w plain, none_before fit w plain, p)

  -- the fetch fails
  pub refused : (why : Unreadable) → fetch_at x q ≡ Err why → Means (fault_of why)
  refused Unreadable.Family e = absurd (refused_sees fit w plain Unreadable.Family e)
  refused Unreadable.Empty e = shown (refused_sees fit w plain Unreadable.Empty e)
  refused Unreadable.Unknown e = shown (refused_sees fit w plain Unreadable.Unknown e)
  refused Unreadable.Short e = shown (refused_sees fit w plain Unreadable.Short e)
  refused Unreadable.NotUploaded e = shown (refused_sees fit w plain Unreadable.NotUploaded e)

  -- a judgement blames an action
  module _ (action : Action) (m : ℕ) (e : Reads x q action m) where
    abbrev sees : (fault : Fault) → Blame x.family ranges action k fault → SeesIt fit w plain fault
    sees fault b = blamed_sees fit w plain action m fault e b

    pub blamed : (fault : Fault) → Blame x.family ranges action k fault → Means fault
    blamed Fault.PastRam b = absurd b
    blamed Fault.NotUploaded b = absurd b
    blamed Fault.Unknown b = absurd b
    blamed Fault.NoAddress b =
        let two = (sees Fault.NoAddress b).1 in
        let one = two.0 in
        (witness fit w one, brought fit w one, none_before fit w one, (witness fit w two.1, 65536, refl, two.2))
    blamed Fault.HalfData b =
        let two = (sees Fault.HalfData b).1 in
        let one = two.0 in
        let at_one = one_address fit w one b.0 b.1 b.2 (rw b.3 at e) b.4 in
        (witness fit w one, brought fit w one, none_before fit w one, ((witness fit w two.1, 65536, refl, two.2), at_one))
    blamed Fault.Outside b = shown (_, _, b.6, one_write fit w plain b.0 b.1 b.2 (rw b.3 at e) b.4 b.5)
    blamed Fault.Unreleased b = (shown (sees Fault.Unreleased b).waits, λ name s start log. stuck (rw b.2 at e) b.3 fit.fits start log)
    blamed Fault.Paused b = let h = sees Fault.Paused b in shown (h.0, h.1, h.2)
    blamed Fault.Input b = absurd b
