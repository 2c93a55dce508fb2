-- A run settles: after one step more than the code RAM has bytes no step fetches, and further steps change nothing. Assumes nothing.
use Rattle.std.specs.Prelude.{Ok, Err}
use Prim.Native.Nat.{ℕ, zero, suc, ◌+◌, ◌<◌, ◌≤◌}
use mathlib.Core.Path.{◌≡◌, refl, ap, sym, subst, ◌∙◌}
use mathlib.Core.Logic.{◌⊎◌, inl, inr}
use mathlib.Core.Bool.{Bool, true, false}
use mathlib.Core.List.{append-nil}
use native.Mathlib.Nat.{add-zero}
use native.Mathlib.Omega.{arith}
use Rattle.families.specs.Family.{code_size}
use Rattle.isa.specs.Answers.{Decoded}
use Rattle.refusals.specs.declared.refusals.Unreadable.{Unreadable}
use Rattle.isa_fetch.proofs.Places.{Lies, fetch_lies, fetch_past}
use Rattle.event_log.specs.Log.{Log}
use Rattle.event_log.specs.declared.place.Place.{Place}
use Rattle.machine_actions.specs.Action.{action_of}
use Rattle.machine_state.specs.Slot.{is_running}
use Rattle.machine_time.specs.Time.{elapsed_of}
use Rattle.machine_slot.specs.SlotStep.{effect_of, ip_after, mode_after, perform_of, same_slot_step, slot_step_of}
use Rattle.machine_actions.specs.declared.actions.Action.{Action}
use Rattle.machine_flags.specs.declared.flags.Flags.{Flags}
use Rattle.machine_state.specs.declared.slots.Mode.{Mode}
use Rattle.machine_state.specs.declared.slots.Slot.{Slot}
use Rattle.machine_slot.specs.declared.slot_steps.Effect.{Effect}
use Rattle.machine_slot.specs.declared.slot_steps.SlotStep.{SlotStep}
use Rattle.run.specs.Replay.{full_steps, full_slot_run}
use Rattle.run.specs.Run.{fetched_by}
use Rattle.run.specs.SlotRun.{Scene, fetch_in, SlotRun, slot_begun, took_slot_step, slot_step_from, next_slot_step, slot_run_for}
use Rattle.run.proofs.SlotRuns.{slot_add, slot_step_elim}

-- ---- a step that fetches moves IP on, or ends the script; any other changes nothing

data Moves (ip : ℕ) (slot : Slot) (flags : Flags) (p : Place) (t : SlotStep) : Type 0 where
  rests : (effect : Effect) → fetched_by effect ≡ 0 → t ≡ same_slot_step slot flags p effect → Moves ip slot flags p t
  goes_on : fetched_by t.effect ≡ 1 → ip < t.slot.ip.0 → Moves ip slot flags p t
  exits : fetched_by t.effect ≡ 1 → t.slot.mode ≡ Mode.Idle → Moves ip slot flags p t

-- an instruction that was fetched is counted, written or not
pub action_fetched : (action : Action) (enable : Bool) (addr word : ℕ) → fetched_by (effect_of action enable addr word) ≡ 1
action_fetched (Action.Wait n) enable addr word = refl
action_fetched (Action.Ewait event value) enable addr word = refl
action_fetched (Action.Flag change flag) enable addr word = refl
action_fetched (Action.Load part operand) enable addr word = refl
action_fetched (Action.Poke part operand) true addr word = refl
action_fetched (Action.Poke part operand) false addr word = refl
action_fetched Action.Exit enable addr word = refl

-- IP moves past the instruction, or the slot is idle
onward : (action : Action) (enable finished : Bool) (at n : ℕ) → 0 < n → (at < ip_after action at (at + n)) ⊎ (mode_after action enable finished ≡ Mode.Idle)
onward (Action.Wait m) enable finished at n h = inl (omega arith)
onward (Action.Ewait event value) enable finished at n h = inl (omega arith)
onward (Action.Flag change flag) enable finished at n h = inl (omega arith)
onward (Action.Load part operand) enable finished at n h = inl (omega arith)
onward (Action.Poke part operand) enable finished at n h = inl (omega arith)
onward Action.Exit enable finished at n h = inr refl

module _ (family : ℕ) (enable : Bool) (slot : Slot) (flags : Flags) (log : Log) (p : Place) where
  perform_moves : (action : Action) (n : ℕ) → 0 < n → Moves slot.ip.0 slot flags p (perform_of enable slot flags action n (elapsed_of action log p))
  unfolding perform_of
  perform_moves action n h = by (onward action enable (elapsed_of action log p).finished slot.ip.0 n h)
    where
      counted : fetched_by (effect_of action enable slot.addr.0 slot.«data») ≡ 1
      counted = action_fetched action enable slot.addr.0 slot.«data»

      by : (slot.ip.0 < ip_after action slot.ip.0 (slot.ip.0 + n)) ⊎ (mode_after action enable (elapsed_of action log p).finished ≡ Mode.Idle)
          → Moves slot.ip.0 slot flags p (perform_of enable slot flags action n (elapsed_of action log p))
      by (inl l) = goes_on counted l
      by (inr m) = exits counted m

  slot_step_moves : (d : Decoded) → Lies family slot.ip.0 d → Moves slot.ip.0 slot flags p (slot_step_of family enable slot flags log p d)
  slot_step_moves (Ok (instruction, n)) h = perform_moves (action_of instruction) n h.1
  slot_step_moves (Err Unreadable.Family) h = rests (Effect.Stopped Unreadable.Family) refl refl
  slot_step_moves (Err Unreadable.Empty) h = rests (Effect.Stopped Unreadable.Empty) refl refl
  slot_step_moves (Err Unreadable.Unknown) h = goes_on refl (omega arith)
  slot_step_moves (Err Unreadable.Short) h = rests (Effect.Stopped Unreadable.Short) refl refl
  slot_step_moves (Err Unreadable.NotUploaded) h = rests (Effect.Stopped Unreadable.NotUploaded) refl refl

  -- a step that fetched nothing stopped
  slot_step_stops : (d : Decoded) → fetched_by (slot_step_of family enable slot flags log p d).effect ≡ 0
      → (why : Unreadable) × ((slot_step_of family enable slot flags log p d).effect ≡ Effect.Stopped why)
  unfolding perform_of
  slot_step_stops (Ok (instruction, n)) h = absurd (omega (arith, action_fetched (action_of instruction) enable slot.addr.0 slot.«data»))
  slot_step_stops (Err Unreadable.Family) h = (Unreadable.Family, refl)
  slot_step_stops (Err Unreadable.Empty) h = (Unreadable.Empty, refl)
  slot_step_stops (Err Unreadable.Unknown) h = absurd (omega arith)
  slot_step_stops (Err Unreadable.Short) h = (Unreadable.Short, refl)
  slot_step_stops (Err Unreadable.NotUploaded) h = (Unreadable.NotUploaded, refl)

-- ---- runs

took_still : (r : SlotRun) (effect : Effect) → fetched_by effect ≡ 0 → took_slot_step r (same_slot_step r.slot r.flags r.place effect) ≡ r
took_still r (Effect.Refused why) z = simp (append-nil, add-zero)
took_still r Effect.Nothing z = simp (append-nil, add-zero)
took_still r (Effect.Stopped why) z = simp (append-nil, add-zero)
took_still r Effect.Unknown z = absurd (omega arith)
took_still r Effect.Done z = absurd (omega arith)
took_still r (Effect.Wrote address word) z = absurd (omega arith)

module _ (x : Scene) where
  -- the next step fetches nothing
  abbrev pub Settled : SlotRun → Type 0
  Settled r = fetched_by (next_slot_step x r).effect ≡ 0

  abbrev Moved : SlotRun → SlotStep → Type 0
  Moved r = Moves r.slot.ip.0 r.slot r.flags r.place

  next_moves : (r : SlotRun) → Moved r (next_slot_step x r)
  next_moves r =
      slot_step_elim x (Moved r) r
      (λ _.
      slot_step_moves x.family _ r.slot r.flags x.log r.place (fetch_in x r.slot.ip.0)
      (fetch_lies x.family x.code x.marks r.slot.ip.0))
      (rests Effect.Nothing refl refl)

  pub settled_next : (r : SlotRun) → Settled r → took_slot_step r (next_slot_step x r) ≡ r
  settled_next r z = by (next_moves r)
    where
      by : Moved r (next_slot_step x r) → took_slot_step r (next_slot_step x r) ≡ r
      by (rests effect y e) = ap (took_slot_step r) e ∙ took_still r effect y
      by (goes_on c l) = absurd (omega arith)
      by (exits c m) = absurd (omega arith)

  -- then further steps change nothing: slot, flags, place, writes, count and sums
  pub settled_run : (m : ℕ) (r : SlotRun) → Settled r → slot_run_for x m r ≡ r
  unfolding slot_run_for
  settled_run zero r z = refl
  settled_run (suc m) r z = rw (settled_next r z) (settled_run m r z)

  pub settled_more : (n m : ℕ) (r : SlotRun) → Settled (slot_run_for x n r) → slot_run_for x (n + m) r ≡ slot_run_for x n r
  settled_more n m r z = slot_add x n m r ∙ settled_run m (slot_run_for x n r) z

  -- a slot that does not run has settled
  pub rest_settled : (r : SlotRun) → is_running r.slot.mode ≡ false → Settled r
  rest_settled r m = rw m refl

  past_settled : (r : SlotRun) → code_size x.family ≤ r.slot.ip.0 → Settled r
  past_settled r h = slot_step_elim x (λ (t : SlotStep). fetched_by t.effect ≡ 0) r (λ _. rw (fetch_past x.family x.code x.marks
      r.slot.ip.0 h)) refl

  -- each step moves IP on by one byte at least, until the run has settled
  progress : (n : ℕ) (r : SlotRun) → (r.slot.ip.0 + n ≤ (slot_run_for x n r).slot.ip.0) ⊎ (Settled (slot_run_for x n r))
  unfolding slot_run_for
  progress zero r = inl (omega arith)
  progress (suc n) r = by (next_moves r) (progress n next)
    where
      next : SlotRun
      next = took_slot_step r (next_slot_step x r)

      stays : Settled next → Settled (slot_run_for x n next)
      stays z = subst Settled (sym (settled_run n next z)) z

      by : Moved r (next_slot_step x r) → (next.slot.ip.0 + n ≤ (slot_run_for x n next).slot.ip.0) ⊎ (Settled (slot_run_for x n next))
          → (r.slot.ip.0 + suc n ≤ (slot_run_for x n next).slot.ip.0) ⊎ (Settled (slot_run_for x n next))
      by (rests effect z e) later =
          let still : Settled r = ap (λ (t : SlotStep). fetched_by t.effect) e ∙ z in
          inr (stays (subst Settled (sym (settled_next r still)) still))
      by (goes_on c l) (inl h) = inl (omega arith)
      by (goes_on c l) (inr z) = inr z
      by (exits c m) later = inr (stays (rest_settled next (ap is_running m)))

  -- one step more than the code RAM has bytes settles every run
  pub settled : (slot : Slot) (flags : Flags) → Settled (full_slot_run x slot flags)
  settled slot flags = by (progress (full_steps x.family) (slot_begun slot flags))
    where
      last : SlotRun
      last = full_slot_run x slot flags

      by : (slot.ip.0 + full_steps x.family ≤ last.slot.ip.0) ⊎ (Settled last) → Settled last
      by (inl h) = past_settled last (omega arith)
      by (inr z) = z

  -- a slot that still runs then is stopped by the next step
  pub stops : (slot : Slot) (flags : Flags)
      → (let r = full_slot_run x slot flags in r.slot.mode ≡ Mode.Running → (why : Unreadable) × ((next_slot_step x r).effect ≡ Effect.Stopped why))
  stops slot flags m =
      let r = full_slot_run x slot flags in
      let e : next_slot_step x r ≡ slot_step_from x r = rw m refl in
      let stop = slot_step_stops x.family _ r.slot r.flags x.log r.place (fetch_in x r.slot.ip.0) (rw e at (settled slot flags)) in
      (stop.0, ap (λ (t : SlotStep). t.effect) e ∙ stop.1)
