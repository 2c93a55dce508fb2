-- A slot's runs under two logs, step by step: alike but for their places until a wait of the first is unfinished. Assumes nothing.
use Rattle.std.specs.Prelude.{Ok, Err}
use Prim.Native.Nat.{ℕ, zero, suc, ◌+◌}
use mathlib.Core.Path.{◌≡◌, refl, sym, ap₂, ◌∙◌}
use mathlib.Core.Bool.{Bool, true, false, cond}
use mathlib.Core.List.{List, [], ◌++◌, append-nil, append_assoc}
use native.Mathlib.Omega.{arith}
use lib.ListN.{length}
use borrow.Author.Tests.{eqb-true, eq-eqb}
use Rattle.isa.specs.Answers.{Decoded}
use Rattle.refusals.specs.declared.refusals.Unreadable.{Unreadable}
use Rattle.event_log.specs.Log.{Log}
use Rattle.event_log.specs.Validity.{log_start}
use Rattle.event_log.specs.declared.place.Place.{Place}
use Rattle.log_waits.specs.Wait.{wait_of}
use Rattle.log_ewaits.specs.Ewait.{ewait_of}
use Rattle.log_ewaits.specs.declared.ewait.Released.{Released}
use Rattle.machine_actions.specs.Action.{action_of}
use Rattle.machine_actions.specs.declared.actions.Action.{Action}
use Rattle.machine_flags.specs.declared.flags.Flags.{Flags}
use Rattle.machine_state.specs.Slot.{is_running}
use Rattle.machine_state.specs.declared.slots.Mode.{Mode}
use Rattle.machine_state.specs.declared.slots.Slot.{Slot}
use Rattle.machine_time.specs.Time.{after_ewait, elapsed_of}
use Rattle.machine_time.specs.declared.elapsed.Elapsed.{Elapsed}
use Rattle.machine_slot.specs.SlotStep.{mode_after, effect_of, perform_of, same_slot_step, slot_step_of}
use Rattle.machine_slot.specs.declared.slot_steps.Effect.{Effect}
use Rattle.machine_slot.specs.declared.slot_steps.SlotStep.{SlotStep}
use Rattle.run.specs.Run.{Write, wrote_by, fetched_by}
use Rattle.run.specs.SlotRun.{Scene, with_log, fetch_in, SlotRun, slot_begun, took_slot_step, next_slot_step, slot_run_for}
use Rattle.run.specs.MoreLog.{KeepsWrites}

-- a scene and another log; how a place in the one log stands to one in the other
module _ (x : Scene) (log' : Log) (PlacesBeside : Place → Place → Type 0) where
  -- an ewait that the first log releases the second releases too
  abbrev pub ReleasedToo : Released → Released → Type 0
  ReleasedToo (Released.At q n) (Released.At q' n') = PlacesBeside q q'
  ReleasedToo (Released.At q n) (Released.End n') = ⊥
  ReleasedToo (Released.End n) r' = Unit {0}

  -- what is asked of the two logs: waits from places beside each other end at such places, if they end under the first
  pub record LogsBeside : Type 0 where
    pub start : PlacesBeside log_start log_start
    pub waits : (p p' : Place) → PlacesBeside p p' → (n : ℕ) → (wait_of x.log.clocks p n).cut ≡ 0
        → ((wait_of log'.clocks p' n).cut ≡ 0) × (PlacesBeside (wait_of x.log.clocks p n).place (wait_of log'.clocks p' n).place)
    pub ewaits : (p p' : Place) → PlacesBeside p p' → (event value : ℕ) → ReleasedToo (ewait_of x.log p event value) (ewait_of log' p' event value)

  -- ---- how time passes in an action

  data TimesBeside (action : Action) (e e' : Elapsed) : Type 0 where
    both : e'.finished ≡ e.finished → e'.waited ≡ e.waited → PlacesBeside e.place e'.place → TimesBeside action e e'
    unfinished : ((enable : Bool) → mode_after action enable e.finished ≡ Mode.Waiting)
        → ((enable : Bool) (addr word : ℕ) → wrote_by (effect_of action enable addr word) ≡ []) → TimesBeside action e e'

  data SlotStepsBeside (t t' : SlotStep) : Type 0 where
    both : t'.slot ≡ t.slot → t'.flags ≡ t.flags → t'.effect ≡ t.effect → t'.waited ≡ t.waited → PlacesBeside t.place t'.place
        → SlotStepsBeside t t'
    unfinished : t.slot.mode ≡ Mode.Waiting → wrote_by t.effect ≡ [] → SlotStepsBeside t t'

  -- both have done the same, or the first is in an unfinished wait
  pub data RunsBeside (r r' : SlotRun) : Type 0 where
    both : r'.slot ≡ r.slot → r'.flags ≡ r.flags → r'.writes ≡ r.writes → r'.count ≡ r.count → r'.waits ≡ r.waits
        → PlacesBeside r.place r'.place → RunsBeside r r'
    unfinished : r.slot.mode ≡ Mode.Waiting → KeepsWrites r.writes r'.writes → RunsBeside r r'

  module _ (logs : LogsBeside) where
    ewait_beside : (event value : ℕ) (r r' : Released) → ReleasedToo r r'
        → TimesBeside (Action.Ewait event value) (after_ewait (length x.log.clocks) r) (after_ewait (length log'.clocks) r')
    ewait_beside event value (Released.At q n) (Released.At q' n') near = TimesBeside.both refl refl near
    ewait_beside event value (Released.At q n) (Released.End n') near = absurd near
    ewait_beside event value (Released.End n) r' near = TimesBeside.unfinished (λ enable. refl) (λ enable addr word. refl)

    module _ (p p' : Place) (near : PlacesBeside p p') where
      times_beside : (action : Action) → TimesBeside action (elapsed_of action x.log p) (elapsed_of action log' p')
      times_beside (Action.Wait n) = by (elapsed_of (Action.Wait n) x.log p).finished refl
        where
          by : (b : Bool) → (elapsed_of (Action.Wait n) x.log p).finished ≡ b
              → TimesBeside (Action.Wait n) (elapsed_of (Action.Wait n) x.log p) (elapsed_of (Action.Wait n) log' p')
          by true done =
              let none = eqb-true (wait_of x.log.clocks p n).cut 0 done in
              let w = logs.waits p p' near n none in
              TimesBeside.both (eq-eqb (wait_of log'.clocks p' n).cut 0 w.0 ∙ sym done) (omega (arith, none, w.0)) w.1
          by false done = TimesBeside.unfinished (λ enable. rw done refl) (λ enable addr word. refl)
      times_beside (Action.Ewait event value) =
          ewait_beside event value (ewait_of x.log p event value) (ewait_of log' p' event value) (logs.ewaits p p' near event value)
      times_beside (Action.Flag change flag) = TimesBeside.both refl refl near
      times_beside (Action.Load part word) = TimesBeside.both refl refl near
      times_beside (Action.Poke part word) = TimesBeside.both refl refl near
      times_beside Action.Exit = TimesBeside.both refl refl near

      performs_beside : (enable : Bool) (slot : Slot) (flags : Flags) (action : Action) (n : ℕ) (e e' : Elapsed) → TimesBeside action e e'
          → SlotStepsBeside (perform_of enable slot flags action n e) (perform_of enable slot flags action n e')
      unfolding perform_of
      performs_beside enable slot flags action n e e' (TimesBeside.both f w g) = SlotStepsBeside.both (rw f refl) refl refl w g
      performs_beside enable slot flags action n e e' (TimesBeside.unfinished m quiet) =
          SlotStepsBeside.unfinished (m enable) (quiet enable slot.addr.0 slot.«data»)

      slot_steps_beside : (slot : Slot) (flags : Flags) (found : Decoded)
          → SlotStepsBeside (slot_step_of x.family x.enable slot flags x.log p found) (slot_step_of x.family x.enable slot flags log' p' found)
      slot_steps_beside slot flags (Ok (i, n)) =
          performs_beside x.enable slot flags (action_of i) n (elapsed_of (action_of i) x.log p) (elapsed_of (action_of i) log' p') (times_beside (action_of i))
      slot_steps_beside slot flags (Err Unreadable.Family) = SlotStepsBeside.both refl refl refl refl near
      slot_steps_beside slot flags (Err Unreadable.Empty) = SlotStepsBeside.both refl refl refl refl near
      slot_steps_beside slot flags (Err Unreadable.Unknown) = SlotStepsBeside.both refl refl refl refl near
      slot_steps_beside slot flags (Err Unreadable.Short) = SlotStepsBeside.both refl refl refl refl near
      slot_steps_beside slot flags (Err Unreadable.NotUploaded) = SlotStepsBeside.both refl refl refl refl near

      -- the next step of a slot that runs, and of one that is left alone
      next_beside : (slot : Slot) (flags : Flags) (runs : Bool)
          → (let found = fetch_in x slot.ip.0 in
          SlotStepsBeside
          (cond runs (slot_step_of x.family x.enable slot flags x.log p found) (same_slot_step slot flags p Effect.Nothing))
          (cond runs (slot_step_of x.family x.enable slot flags log' p' found) (same_slot_step slot flags p' Effect.Nothing)))
      next_beside slot flags true = slot_steps_beside slot flags (fetch_in x slot.ip.0)
      next_beside slot flags false = SlotStepsBeside.both refl refl refl refl near

    -- ---- runs

    abbrev x' : Scene
    x' = with_log x log'

    -- runs that have done the same, with one more step each
    took_beside : (r r' : SlotRun) (t t' : SlotStep) → r'.writes ≡ r.writes → r'.count ≡ r.count → r'.waits ≡ r.waits → SlotStepsBeside t t'
        → RunsBeside (took_slot_step r t) (took_slot_step r' t')
    took_beside r r' t t' writes count waits (SlotStepsBeside.both a b c d near) =
        RunsBeside.both a b
        (ap₂ (λ (w : List Write) (e : Effect). w ++ wrote_by e) writes c)
        (ap₂ (λ (n : ℕ) (e : Effect). n + fetched_by e) count c)
        (ap₂ (λ (n m : ℕ). n + m) waits d)
        near
    took_beside r r' t t' writes count waits (SlotStepsBeside.unfinished m quiet) =
        RunsBeside.unfinished m (wrote_by t'.effect, rw (quiet, append-nil, writes) refl)

    -- a slot in a wait is left alone
    waits_on : (r : SlotRun) → r.slot.mode ≡ Mode.Waiting → next_slot_step x r ≡ same_slot_step r.slot r.flags r.place Effect.Nothing
    waits_on r m = rw m refl

    more_beside : (r r' : SlotRun) → RunsBeside r r' → RunsBeside (took_slot_step r (next_slot_step x r)) (took_slot_step r' (next_slot_step x' r'))
    more_beside r r' (RunsBeside.both slot flags writes count waits near) =
        took_beside r r' (next_slot_step x r) (next_slot_step x' r') writes count waits
        (rw (slot, flags) (next_beside r.place r'.place near r.slot r.flags (is_running r.slot.mode)))
    more_beside r r' (RunsBeside.unfinished m (more, e)) =
        rw (waits_on r m)
        (RunsBeside.unfinished m (more ++ wrote_by (next_slot_step x' r').effect, rw (append-nil, ← e, append_assoc) refl))

    run_beside : (n : ℕ) (r r' : SlotRun) → RunsBeside r r' → RunsBeside (slot_run_for x n r) (slot_run_for x' n r')
    unfolding slot_run_for
    run_beside zero r r' b = b
    run_beside (suc n) r r' b = run_beside n (took_slot_step r (next_slot_step x r)) (took_slot_step r' (next_slot_step x' r')) (more_beside r r' b)

    pub slots_beside : (slot : Slot) (flags : Flags) (n : ℕ) → RunsBeside (slot_run_for x n (slot_begun slot flags)) (slot_run_for x' n (slot_begun slot flags))
    slots_beside slot flags n =
        run_beside n (slot_begun slot flags) (slot_begun slot flags) (RunsBeside.both refl refl refl refl refl logs.start)

  -- no write is taken back or changed
  pub kept_writes : (r r' : SlotRun) → RunsBeside r r' → KeepsWrites r.writes r'.writes
  kept_writes r r' (RunsBeside.both slot flags writes count waits near) = ([], append-nil r.writes ∙ sym writes)
  kept_writes r r' (RunsBeside.unfinished m more) = more
