-- What an action does to the place and the clocks. Assumes nothing.
use Prim.Native.Nat.{ℕ, ◌+◌}
use mathlib.Core.Path.{◌≡◌}
use mathlib.Core.Bool.{true}
use mathlib.Core.List.{List}
use native.Mathlib.Omega.{arith}
use lib.ListN.{length}
use Rattle.log_ewaits.specs.Ewait.{ewait_of, passed_by, left_after}
use Rattle.log_waits.specs.Left.{left_of}
use Rattle.event_log.specs.Log.{Log}
use Rattle.event_log.specs.Validity.{valid_log, valid_place}
use Rattle.log_ewaits.specs.declared.ewait.Released.{Released}
use Rattle.event_log.specs.declared.place.Place.{Place}
use Rattle.log_ewaits.proofs.EwaitLaws.{ReleasedWithin, ewait_valid, ewait_spent}
use Rattle.event_log.proofs.ValidLaws.{valid_at_end}
use Rattle.log_waits.proofs.LeftLaws.{left_end, left_fits}
use Rattle.log_waits.proofs.WaitLaws.{wait_valid, wait_spent}
use Rattle.machine_time.specs.Time.{after_ewait, elapsed_of}
use Rattle.machine_actions.specs.declared.actions.Action.{Action}

module _ (clocks : List ℕ) where
  -- what was left is what was waited, what was passed by and what is left then
  abbrev pub Spends : Place → ℕ → ℕ → Place → Type 0
  Spends p waited searched q = left_of clocks p ≡ waited + searched + left_of clocks q

  ewait_clocks : (p : Place) (r : Released) → left_of clocks p ≡ passed_by r + left_after clocks r
      → (let e = after_ewait (length clocks) r in Spends p e.waited e.searched e.place)
  ewait_clocks p (Released.At q n) h = omega arith
  ewait_clocks p (Released.End n) h = omega (arith, left_end clocks (length clocks) 0 (omega arith))

  ewait_place : (r : Released) → ReleasedWithin clocks r → valid_place clocks (after_ewait (length clocks) r).place ≡ true
  ewait_place (Released.At p n) h = h
  ewait_place (Released.End n) h = valid_at_end clocks

module _ (log : Log) (valid : valid_log log ≡ true) where
  pub elapsed_clocks : (action : Action) (p : Place) → (let e = elapsed_of action log p in Spends log.clocks p e.waited e.searched e.place)
  elapsed_clocks (Action.Wait n) p = omega (arith, wait_spent log.clocks p n)
  elapsed_clocks (Action.Ewait event value) p =
      ewait_clocks log.clocks p (ewait_of log p event value) (ewait_spent log event value p (left_fits log valid p))
  elapsed_clocks (Action.Flag change flag) p = omega arith
  elapsed_clocks (Action.Load part word) p = omega arith
  elapsed_clocks (Action.Poke part word) p = omega arith
  elapsed_clocks Action.Exit p = omega arith

  pub elapsed_place : (action : Action) (p : Place) → valid_place log.clocks p ≡ true → valid_place log.clocks (elapsed_of action log p).place ≡ true
  elapsed_place (Action.Wait n) p v = wait_valid log valid p n v
  elapsed_place (Action.Ewait event value) p v =
      ewait_place log.clocks (ewait_of log p event value) (ewait_valid log valid event value p v)
  elapsed_place (Action.Flag change flag) p v = v
  elapsed_place (Action.Load part word) p v = v
  elapsed_place (Action.Poke part word) p v = v
  elapsed_place Action.Exit p v = v
