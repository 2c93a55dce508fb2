-- The replay loop against the run of its steps. Assumes nothing.
use Prim.Native.Nat.{ℕ, zero, suc, ◌+◌, ◌-◌, ◌*◌, ◌^◌, ◌≤◌, ◌<◌}
use mathlib.Core.Path.{◌≡◌, refl, sym, ap, ap₂, ◌∙◌}
use mathlib.Core.Bool.{true, false}
use mathlib.Core.List.{List, [], ◌++◌}
use native.Mathlib.Omega.{arith}
use lib.ListN.{length, drop, length-append}
use lib.Seq.{sets}
use Rattle.isa_fetch.proofs.Places.{size_small}
use Rattle.event_log.specs.Rows.{column_into}
use Rattle.event_log.specs.Validity.{valid_log, log_start}
use Rattle.event_log.proofs.Columns.{column_length, column_more}
use Rattle.log_waits.proofs.LeftLaws.{left_most}
use Rattle.machine_state.specs.Slot.{is_running}
use Rattle.machine_slot.specs.SlotStep.{slot_step_of}
use Rattle.machine_flags.specs.declared.flags.Flags.{Flags}
use Rattle.machine_state.specs.declared.slots.Slot.{Slot}
use Rattle.machine_slot.specs.declared.slot_steps.Effect.{Effect}
use Rattle.machine_slot.specs.declared.slot_steps.SlotStep.{SlotStep}
use Rattle.run.specs.Run.{Write, wrote_by, fetched_by}
use Rattle.run.specs.SlotRun.{Scene, fetch_in, SlotRun, slot_begun, took_slot_step, slot_step_from, next_slot_step, slot_run_for}
use Rattle.run.specs.Replay.{entries_of, written_into, full_steps, full_slot_run, progress_of}
use Rattle.run.specs.declared.answers.Progress.{Progress}
use Rattle.run.proofs.Entries.{entries_length, entries_append}
use Rattle.run.proofs.Room.{slot_room}
use Rattle.run.proofs.SlotRuns.{slot_snoc, slot_clocks}
use Rattle.run.proofs.Settled.{Settled, settled_more, rest_settled}
use Rattle.run_replay.specs.Progress.{progress_after, RunsThrough}

-- ---- effects

pub fetched_small : (e : Effect) → fetched_by e ≤ 1
fetched_small (Effect.Refused why) = omega arith
fetched_small Effect.Nothing = omega arith
fetched_small (Effect.Stopped why) = omega arith
fetched_small Effect.Unknown = omega arith
fetched_small Effect.Done = omega arith
fetched_small (Effect.Wrote address word) = omega arith

abbrev pub write_count : Effect → ℕ
write_count e = length (wrote_by e)

pub wrote_small : (e : Effect) → write_count e ≤ 1
wrote_small (Effect.Refused why) = omega arith
wrote_small Effect.Nothing = omega arith
wrote_small (Effect.Stopped why) = omega arith
wrote_small Effect.Unknown = omega arith
wrote_small Effect.Done = omega arith
wrote_small (Effect.Wrote address word) = omega arith

-- ---- the lent entries

module _ (lent : List ℕ) (ws : List Write) where
  pub written_none : lent ≡ written_into lent []
  written_none = refl

  written_is : written_into lent ws ≡ column_into lent (entries_of ws)
  written_is = ap (λ (n : ℕ). entries_of ws ++ drop n lent) (sym (entries_length ws))

  pub written_length : 2 * length ws ≤ length lent → length (written_into lent ws) ≡ length lent
  written_length h = ap length written_is ∙ column_length lent (entries_of ws) (omega (arith, entries_length ws))

-- more writes are stored after those that are there
pub written_more : (lent : List ℕ) (ws more : List Write) → 2 * length (ws ++ more) ≤ length lent
    → sets (written_into lent ws) (2 * length ws) (entries_of more) ≡ written_into lent (ws ++ more)
written_more lent ws more h =
    let n = entries_length ws in
    ap₂ (λ (now : List ℕ) (at : ℕ). sets now at (entries_of more)) (written_is lent ws) (sym n)
    ∙ column_more lent (entries_of ws) (entries_of more) (omega (arith, n, entries_length more, length-append ws more))
    ∙ ap (column_into lent) (sym (entries_append ws more))
    ∙ sym (written_is lent (ws ++ more))

-- ---- one step

progress_took : (r : SlotRun) (t : SlotStep) → progress_of (took_slot_step r t) ≡ progress_after (progress_of r) t
progress_took r t = rw length-append refl

-- the step that a progress asks for
abbrev pub slot_step_on : Scene → Progress → SlotStep
slot_step_on x p = slot_step_of x.family x.enable p.slot p.flags x.log p.place (fetch_in x p.slot.ip.0)

module _ (x : Scene) (slot : Slot) (flags : Flags) where
  abbrev pub run_to : ℕ → SlotRun
  run_to n = slot_run_for x n (slot_begun slot flags)

  run_next : (n : ℕ) → is_running (run_to n).slot.mode ≡ true → run_to (suc n) ≡ took_slot_step (run_to n) (slot_step_from x (run_to n))
  run_next n m =
      slot_snoc x n (slot_begun slot flags)
      ∙ ap (took_slot_step (run_to n)) (let e : next_slot_step x (run_to n) ≡ slot_step_from x (run_to n) = rw m refl in e)

  -- a run that has settled has come to its end
  run_settled : (n : ℕ) → Settled x (run_to n) → n ≤ full_steps x.family → run_to n ≡ full_slot_run x slot flags
  run_settled n z h =
      let left = full_steps x.family - n in
      let all : n + left ≡ full_steps x.family = omega arith in
      sym (settled_more x n left (slot_begun slot flags) z) ∙ ap run_to all

  -- so has a slot that does not run
  pub run_rests : (n : ℕ) → is_running (run_to n).slot.mode ≡ false → n ≤ full_steps x.family → run_to n ≡ full_slot_run x slot flags
  run_rests n m = run_settled n (rest_settled x (run_to n) m)

  count_small : (n : ℕ) → (run_to n).count ≤ n
  unfolding slot_run_for
  count_small zero = omega arith
  count_small (suc n) =
      let e = ap (λ (r : SlotRun). r.count) (slot_snoc x n (slot_begun slot flags)) in
      omega (arith, e, count_small n, fetched_small (next_slot_step x (run_to n)).effect)

  module _ (low : slot.ip.0 ≤ 512) (valid : valid_log x.log ≡ true) where
    steps_small : (n : ℕ) → n ≤ 513 → (run_to n).count < 1024
    steps_small n h = omega (arith, count_small n)

    pub writes_small : (n : ℕ) → 2 * length (run_to n).writes ≤ 340
    writes_small n = omega (arith, slot_room x slot flags low n)

    sums_small : (n : ℕ) → ((run_to n).waits < 2 ^ 64) × ((run_to n).ewaits < 2 ^ 64)
    sums_small n =
        let c = slot_clocks x valid slot flags n in
        let m = left_most x.log valid log_start in
        (omega arith, omega arith)

  -- the loop's end: the run has come to its own
  pub runs_through : (n : ℕ) {lent now : List ℕ} {p : Progress} → run_to n ≡ full_slot_run x slot flags → p ≡ progress_of (run_to n)
      → now ≡ written_into lent (run_to n).writes → RunsThrough x slot flags lent now p
  runs_through n {lent} e is held = record {
    at_run = is ∙ ap progress_of e;
    lent = held ∙ ap (λ (r : SlotRun). written_into lent r.writes) e;
  }

-- one turn of the loop: the run so far, as its progress and the lent entries hold it, and the step that the slot takes
pub record Turn (x : Scene) (slot : Slot) (flags : Flags) (lent : List ℕ) (n : ℕ) (p : Progress) (now : List ℕ) (t : SlotStep) : Type 0 where
  pub low : slot.ip.0 ≤ 512
  pub valid : valid_log x.log ≡ true
  pub enough : 340 ≤ length lent
  pub more : n < full_steps x.family
  pub is : p ≡ progress_of (run_to x slot flags n)
  pub held : now ≡ written_into lent (run_to x slot flags n).writes
  pub runs_on : is_running p.slot.mode ≡ true
  pub taken : t ≡ slot_step_on x p

module _ {x : Scene} {slot : Slot} {flags : Flags} {lent : List ℕ} {n : ℕ} {p : Progress} {now : List ℕ} {t : SlotStep}
    (turn : Turn x slot flags lent n p now t) where
  -- the run before the step, and after it
  abbrev run_before : SlotRun
  run_before = run_to x slot flags n

  abbrev run_after : SlotRun
  run_after = run_to x slot flags (suc n)

  running : is_running run_before.slot.mode ≡ true
  running = rw turn.is at turn.runs_on

  taken_is : t ≡ slot_step_from x run_before
  taken_is = turn.taken ∙ ap (slot_step_on x) turn.is

  -- a step that fetched nothing was stopped, and so is every later one
  pub run_stopped : fetched_by t.effect ≡ 0 → run_before ≡ full_slot_run x slot flags
  run_stopped none =
      let next : next_slot_step x run_before ≡ t =
      (let e : next_slot_step x run_before ≡ slot_step_from x run_before = rw running refl in e) ∙ sym taken_is in
      run_settled x slot flags n (ap (λ (u : SlotStep). fetched_by u.effect) next ∙ none) (omega (arith, turn.more))

  pub progress_after_lem : progress_after p t ≡ progress_of run_after
  progress_after_lem =
      rw (taken_is, turn.is) (sym (progress_took run_before (slot_step_from x run_before)) ∙ sym (ap progress_of (run_next x slot flags n running)))

  writes_counted : p.writes ≡ length run_before.writes
  writes_counted = ap (λ (q : Progress). q.writes) turn.is

  writes_are : run_after.writes ≡ run_before.writes ++ wrote_by t.effect
  writes_are =
      ap (λ (r : SlotRun). r.writes) (run_next x slot flags n running)
      ∙ ap (λ (u : SlotStep). run_before.writes ++ wrote_by u.effect) (sym taken_is)

  room_before : 2 * length run_before.writes ≤ 340
  room_before = writes_small x slot flags turn.low turn.valid n

  room_after : 2 * length (run_before.writes ++ wrote_by t.effect) ≤ 340
  room_after = omega (arith, writes_small x slot flags turn.low turn.valid (suc n), ap length writes_are)

  sized : length now ≡ length lent
  sized = ap length turn.held ∙ written_length lent run_before.writes (omega (arith, room_before, turn.enough))

  pub store_room : 2 * p.writes + 2 * length (wrote_by t.effect) ≤ length now
  store_room = omega (arith, writes_counted, sized, room_after, length-append run_before.writes (wrote_by t.effect), turn.enough)

  pub store_is : sets now (2 * p.writes) (entries_of (wrote_by t.effect)) ≡ written_into lent run_after.writes
  store_is =
      rw (turn.held, writes_counted)
      (written_more lent run_before.writes (wrote_by t.effect) (omega (arith, room_after, turn.enough))
      ∙ ap (written_into lent) (sym writes_are))

  pub slot_step_fits : (p.steps < 1024) × (p.writes < 1024) × (p.waited + t.waited < 2 ^ 64) × (p.searched + t.searched < 2 ^ 64)
  slot_step_fits =
      let next = sums_small x slot flags turn.low turn.valid (suc n) in
      let few : n ≤ 512 = omega (arith, turn.more, size_small x.family) in (
        omega (arith, ap (λ (q : Progress). q.steps) turn.is, steps_small x slot flags turn.low turn.valid n (omega (arith, few))),
        omega (arith, writes_counted, room_before),
        omega (arith, ap (λ (q : Progress). q.waited) progress_after_lem, next.0),
        omega (arith, ap (λ (q : Progress). q.searched) progress_after_lem, next.1),
      )
