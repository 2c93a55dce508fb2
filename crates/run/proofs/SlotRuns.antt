-- A slot's run, step by step: what every step keeps, every run keeps. Assumes nothing.
use Prim.Native.Nat.{ℕ, zero, suc, ◌+◌}
use mathlib.Core.Path.{◌≡◌, refl}
use mathlib.Core.Bool.{true}
use mathlib.Core.List.{List}
use native.Mathlib.Nat.{zero-add, suc-add}
use native.Mathlib.Omega.{arith}
use Rattle.families.proofs.Tests.{cond_elim}
use Rattle.event_log.specs.Validity.{valid_log, log_start, valid_place}
use Rattle.event_log.specs.declared.place.Place.{Place}
use Rattle.event_log.proofs.ValidLaws.{valid_row_start}
use Rattle.log_waits.specs.Left.{left_of}
use Rattle.machine_flags.specs.declared.flags.Flags.{Flags}
use Rattle.machine_state.specs.Slot.{is_running}
use Rattle.machine_state.specs.declared.slots.Slot.{Slot}
use Rattle.machine_slot.specs.SlotStep.{same_slot_step}
use Rattle.machine_slot.specs.declared.slot_steps.Effect.{Effect}
use Rattle.machine_slot.specs.declared.slot_steps.SlotStep.{SlotStep}
use Rattle.machine_slot.proofs.SlotStepLaws.{slot_step_clocks, slot_step_place}
use Rattle.run.specs.SlotRun.{Scene, fetch_in, SlotRun, slot_begun, took_slot_step, slot_step_from, next_slot_step, slot_run_for, SameScene}

-- the clock law: a log's total is what waits spent, what ewaits passed by and what is left, after any number of steps
abbrev pub Clocked : List ℕ → SlotRun → Type 0
Clocked clocks r = left_of clocks log_start ≡ r.waits + r.ewaits + left_of clocks r.place

module _ (x : Scene) where
  -- what every step keeps, every run keeps
  pub slot_elim : (P : SlotRun → Type 0) → ((r : SlotRun) → P r → P (took_slot_step r (next_slot_step x r))) → (n : ℕ) (r : SlotRun) → P r
      → P (slot_run_for x n r)
  unfolding slot_run_for
  slot_elim P step zero r h = h
  slot_elim P step (suc n) r h = slot_elim P step n (took_slot_step r (next_slot_step x r)) (step r h)

  -- a run's last step
  pub slot_snoc : (n : ℕ) (r : SlotRun) → slot_run_for x (suc n) r ≡ took_slot_step (slot_run_for x n r) (next_slot_step x (slot_run_for x n r))
  unfolding slot_run_for
  slot_snoc zero r = refl
  slot_snoc (suc n) r = slot_snoc n (took_slot_step r (next_slot_step x r))

  pub slot_add : (n m : ℕ) (r : SlotRun) → slot_run_for x (n + m) r ≡ slot_run_for x m (slot_run_for x n r)
  unfolding slot_run_for
  slot_add zero m r = rw zero-add
  slot_add (suc n) m r = rw suc-add (slot_add n m (took_slot_step r (next_slot_step x r)))

  -- the next step is one of a slot that runs, or nothing
  pub slot_step_elim : (P : SlotStep → Type 0) (r : SlotRun) → (is_running r.slot.mode ≡ true → P (slot_step_from x r))
      → P (same_slot_step r.slot r.flags r.place Effect.Nothing) → P (next_slot_step x r)
  slot_step_elim P r step still = cond_elim P (is_running r.slot.mode) step (λ _. still)

  -- the place lies in the log
  abbrev InLog : Place → Type 0
  InLog p = valid_place x.log.clocks p ≡ true

  -- so many clocks are left from there
  abbrev still_left : Place → ℕ
  still_left p = left_of x.log.clocks p

  module _ (valid : valid_log x.log ≡ true) where
    -- a run stays at places of its log
    pub next_place : (r : SlotRun) → InLog r.place → InLog (next_slot_step x r).place
    next_place r v =
        slot_step_elim (λ (t : SlotStep). InLog t.place) r
        (λ _. slot_step_place x.log valid x.family _ r.slot r.flags r.place (fetch_in x r.slot.ip.0) v)
        v

    pub slot_place : (slot : Slot) (flags : Flags) (n : ℕ) → InLog (slot_run_for x n (slot_begun slot flags)).place
    slot_place slot flags n = slot_elim (λ (r : SlotRun). InLog r.place) next_place n (slot_begun slot flags) (valid_row_start x.log valid 0 (omega arith))

    pub slot_clocks : (slot : Slot) (flags : Flags) (n : ℕ) → Clocked x.log.clocks (slot_run_for x n (slot_begun slot flags))
    slot_clocks slot flags n = slot_elim (Clocked x.log.clocks) (λ r h. omega (arith, next_clocks r)) n (slot_begun slot flags) (omega arith)
      where
        next_clocks : (r : SlotRun) → still_left r.place ≡ (next_slot_step x r).waited + (next_slot_step x r).searched + still_left (next_slot_step x r).place
        next_clocks r =
            slot_step_elim (λ (t : SlotStep). still_left r.place ≡ t.waited + t.searched + still_left t.place) r
            (λ _. slot_step_clocks x.log valid x.family _ r.slot r.flags r.place (fetch_in x r.slot.ip.0))
            (omega arith)

-- ---- scenes that fetch the same

module _ (x y : Scene) (same : SameScene x y) where
  -- take the same steps
  pub same_slot_step_lem : (r : SlotRun) → next_slot_step x r ≡ next_slot_step y r
  same_slot_step_lem r = cc (same.fetches r.slot.ip.0, same.family, same.enable, same.log)

  -- and have the same runs
  pub same_run : (n : ℕ) (r : SlotRun) → slot_run_for x n r ≡ slot_run_for y n r
  unfolding slot_run_for
  same_run zero r = refl
  same_run (suc n) r = rw (same_slot_step_lem r) (same_run n (took_slot_step r (next_slot_step y r)))
