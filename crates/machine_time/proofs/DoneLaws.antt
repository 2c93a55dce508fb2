-- When an action is done. Assumes nothing.
use Prim.Native.Nat.{ℕ, ◌≤◌}
use mathlib.Core.Path.{◌≡◌, refl}
use mathlib.Core.Logic.{◌↔◌}
use mathlib.Core.Bool.{true}
use native.Mathlib.Omega.{arith}
use lib.ListN.{length}
use borrow.Author.Tests.{eqb-true, eq-eqb}
use Rattle.event_log.specs.Log.{Log}
use Rattle.event_log.specs.declared.place.Place.{Place}
use Rattle.log_waits.specs.Left.{left_of}
use Rattle.log_waits.specs.Wait.{wait_of}
use Rattle.log_waits.proofs.WaitLaws.{wait_cut}
use Rattle.log_ewaits.specs.Ewait.{ewait_of, OnReading, FirstFrom}
use Rattle.log_ewaits.specs.declared.ewait.Released.{Released}
use Rattle.log_ewaits.proofs.FirstRow.{ewait_first}
use Rattle.log_ewaits.proofs.EwaitLaws.{ewait_on_reading}
use Rattle.machine_actions.specs.declared.actions.Action.{Action}
use Rattle.machine_time.specs.Time.{after_ewait, elapsed_of, DoneWhere, Elapses}
use Rattle.machine_time.specs.declared.elapsed.Elapsed.{Elapsed}

wait_done : (n : ℕ) (log : Log) (p : Place) → ((elapsed_of (Action.Wait n) log p).finished ≡ true) ↔ (n ≤ left_of log.clocks p)
wait_done n log p =
    let cut = (wait_of log.clocks p n).cut in (
      λ t. omega (arith, wait_cut log.clocks p n, eqb-true cut 0 t),
      λ l. eq-eqb cut 0 (omega (arith, wait_cut log.clocks p n)),
    )

-- released where a row has the reading, and never where none has it
ewait_done : (log : Log) (p : Place) (event value : ℕ) (r : Released) → OnReading log event value r → FirstFrom log event value p.row p.used r
    → ((after_ewait (length log.clocks) r).finished ≡ true) ↔ DoneWhere (Action.Ewait event value) log p
ewait_done log p event value (Released.At q n) o k = (λ _. (q.row, k.from, k.inside, o), λ _. refl)
ewait_done log p event value (Released.End n) o k =
    (λ t. absurd (let z : ◌≡◌ {A = ℕ} 0 1 = cc in let w : ⊥ = omega arith in w), λ (row, from, inside, reads). absurd (k row from inside reads))

done : (action : Action) (log : Log) (p : Place) → ((elapsed_of action log p).finished ≡ true) ↔ DoneWhere action log p
done (Action.Wait n) log p = wait_done n log p
done (Action.Ewait event value) log p =
    ewait_done log p event value (ewait_of log p event value) (ewait_on_reading log event value p) (ewait_first log event value p)
done (Action.Flag change flag) log p = (λ _. tt, λ _. refl)
done (Action.Load part word) log p = (λ _. tt, λ _. refl)
done (Action.Poke part word) log p = (λ _. tt, λ _. refl)
done Action.Exit log p = (λ _. tt, λ _. refl)

-- all that the passing of time promises
pub elapses : (action : Action) (log : Log) (p : Place) (answer : Elapsed) → answer ≡ elapsed_of action log p → Elapses action log p answer
elapses action log p answer e = record { answered = e; finishes = rw e (done action log p) }
