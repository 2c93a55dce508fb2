-- More log, never fewer writes: of a slot's run, and of any state's. Assumes nothing.
use Prim.Native.Nat.{ℕ, zero, suc}
use mathlib.Core.Path.{◌≡◌, refl, sym, ap, subst, ◌∙◌}
use mathlib.Core.Logic.{inl, inr}
use mathlib.Core.Bool.{Bool, true, false, ◌&&◌, true≢false}
use mathlib.Core.List.{List, []}
use native.Mathlib.Omega.{arith}
use Rattle.families.specs.Family.{known_family}
use Rattle.families.proofs.Tests.{both_left, cond_elim}
use Rattle.event_log.specs.Log.{Log}
use Rattle.event_log.specs.Validity.{valid_log, log_start, valid_place}
use Rattle.event_log.proofs.ValidLaws.{valid_row_start}
use Rattle.log_waits.specs.Left.{left_of}
use Rattle.machine_flags.specs.declared.flags.Flags.{Flags}
use Rattle.machine_state.specs.Slot.{has_slot, is_running, slot_of}
use Rattle.machine_state.specs.declared.slots.Mode.{Mode}
use Rattle.machine_state.specs.declared.slots.Slot.{Slot}
use Rattle.machine_state.specs.declared.slots.SlotName.{SlotName}
use Rattle.machine_state.specs.declared.state.State.{State}
use Rattle.machine_state.proofs.SlotLaws.{known_slot, slot_back}
use Rattle.machine_step.specs.Step.{advance_of, step_of}
use Rattle.machine_step.specs.declared.steps.Stepped.{Stepped}
use Rattle.run.specs.Run.{noted, begun, run_for}
use Rattle.run.specs.SlotRun.{Scene, with_log, SlotRun, slot_begun, slot_run_for, scene_of, in_state}
use Rattle.run.specs.MoreLog.{with_rows, FilledIn, SaysMore, KeepsWrites, NoLater, Unfinished, AddsOnly, KeepsUp, RowsAdded, ReadingsFilled}
use Rattle.run.proofs.SlotRuns.{Clocked, slot_clocks}
use Rattle.run.proofs.InState.{run_in_state, begun_in_state}
use Rattle.run.proofs.TwoLogs.{RunsBeside, slots_beside, kept_writes}
use Rattle.run.proofs.AddedRows.{SamePlace, added_left, added_logs}
use Rattle.run.proofs.FilledReadings.{NoLess, filled_logs}

-- ---- of a slot's run

module _ (x : Scene) (slot : Slot) (flags : Flags) (valid : valid_log x.log ≡ true) (n : ℕ) where
  -- so many steps under a log
  abbrev ran : Log → SlotRun
  ran log = slot_run_for (with_log x log) n (slot_begun slot flags)

  added_beside : (more : Log) → valid_log (with_rows x.log more) ≡ true
      → RunsBeside x (with_rows x.log more) (SamePlace x.log) (ran x.log) (ran (with_rows x.log more))
  added_beside more valid' = slots_beside x (with_rows x.log more) (SamePlace x.log) (added_logs x more valid valid') slot flags n

  filled_beside : (log' : Log) → valid_log log' ≡ true → FilledIn x.log log' → RunsBeside x log' (NoLess x.log.clocks) (ran x.log) (ran log')
  filled_beside log' valid' filled = slots_beside x log' (NoLess x.log.clocks) (filled_logs x log' valid valid' filled) slot flags n

  -- whichever way the second log says more
  pub slot_keeps : (log' : Log) → valid_log log' ≡ true → SaysMore x.log log' → KeepsWrites (ran x.log).writes (ran log').writes
  slot_keeps log' valid' (inl (more, e)) =
      subst (λ (log' : Log). valid_log log' ≡ true → KeepsWrites (ran x.log).writes (ran log').writes) (sym e)
      (λ valid'. kept_writes x (with_rows x.log more) (SamePlace x.log) (ran x.log) (ran (with_rows x.log more)) (added_beside more valid')) valid'
  slot_keeps log' valid' (inr filled) =
      kept_writes x log' (NoLess x.log.clocks) (ran x.log) (ran log') (filled_beside log' valid' filled)

-- ---- of a state's run

module _ (name : SlotName) (s : State) where
  -- a family that lacks the slot takes no step of it
  no_step : (log : Log) → has_slot s.family name ≡ false → noted (begun s) (step_of s name log log_start) ≡ begun s
  unfolding step_of advance_of
  no_step log lacks =
      cond_elim Still (known_family s.family)
      (λ _. cond_elim Still (valid_log log && valid_place log.clocks log_start)
      (λ _. cond_elim Still (has_slot s.family name && is_running (slot_of s name).mode)
      (λ runs. absurd (true≢false (sym (both_left (has_slot s.family name) (is_running (slot_of s name).mode) runs) ∙ lacks)))
      (λ _. refl))
      (λ _. refl))
      (λ _. refl)
    where
      Still : Stepped → Type 0
      Still t = noted (begun s) t ≡ begun s

  no_run : (log : Log) → has_slot s.family name ≡ false → (n : ℕ) → run_for name log n (begun s) ≡ begun s
  unfolding run_for
  no_run log lacks zero = refl
  no_run log lacks (suc n) = ap (run_for name log n) (no_step log lacks) ∙ no_run log lacks n

  module _ (has : has_slot s.family name ≡ true) where
    -- what its slot does in so many steps under a log
    abbrev slot_run : Log → ℕ → SlotRun
    slot_run log n = slot_run_for (scene_of s log) n (slot_begun (slot_of s name) s.flags)

    -- one that has it runs as its slot does
    in_state_lem : (log : Log) → valid_log log ≡ true → (n : ℕ) → run_for name log n (begun s) ≡ in_state s name (slot_run log n)
    in_state_lem log valid n =
        let family = known_slot s.family name has in
        ap (run_for name log n) (begun_in_state s log family valid name)
        ∙ run_in_state s log family valid name has n (slot_begun (slot_of s name) s.flags) (valid_row_start log valid 0 (omega arith))

    -- a slot's unfinished wait is one of its state's run
    waits_too : (r : SlotRun) → (Unfinished name (in_state s name r) → ⊥) → r.slot.mode ≡ Mode.Waiting → ⊥
    waits_too r free m = free (ap (λ (slot : Slot). slot.mode) (slot_back name s r.slot r.flags) ∙ m)

    module _ (log more : Log) (valid : valid_log log ≡ true) (valid' : valid_log (with_rows log more) ≡ true) (n : ℕ) where
      lies_beside : RunsBeside (scene_of s log) (with_rows log more) (SamePlace log) (slot_run log n) (slot_run (with_rows log more) n)
      lies_beside = added_beside (scene_of s log) (slot_of s name) s.flags valid n more valid'

      added_in : AddsOnly name (in_state s name (slot_run log n)) (in_state s name (slot_run (with_rows log more) n))
      added_in = record {
        keeps_writes = kept_writes (scene_of s log) (with_rows log more) (SamePlace log) (slot_run log n) (slot_run (with_rows log more) n) lies_beside;
        same = λ free. by (slot_run log n) (slot_run (with_rows log more) n) lies_beside free
            (slot_clocks (scene_of s log) valid (slot_of s name) s.flags n)
            (slot_clocks (scene_of s (with_rows log more)) valid' (slot_of s name) s.flags n);
      }
        where
          by : (r r' : SlotRun) → RunsBeside (scene_of s log) (with_rows log more) (SamePlace log) r r' → (Unfinished name (in_state s name r) → ⊥)
              → Clocked log.clocks r → Clocked (with_rows log more).clocks r' → in_state s name r' ≡ in_state s name r
          by r r' (RunsBeside.both slot flags writes count waits near) free clocked clocked' =
              let from_start = added_left log more valid valid' log_start (valid_row_start log valid 0 (omega arith)) in
              let from_place = added_left log more valid valid' r.place near.1 in
              let ewaits : r'.ewaits ≡ r.ewaits = omega (arith, ap (left_of (with_rows log more).clocks) near.0) in
              rw (slot, flags, near.0, writes, count, waits, ewaits) refl
          by r r' (RunsBeside.unfinished m more) free clocked clocked' = absurd (waits_too r free m)

    module _ (log log' : Log) (valid : valid_log log ≡ true) (valid' : valid_log log' ≡ true) (filled : FilledIn log log') (n : ℕ) where
      filled_in : KeepsUp name log.clocks (in_state s name (slot_run log n)) (in_state s name (slot_run log' n))
      filled_in =
          let lies_beside = filled_beside (scene_of s log) (slot_of s name) s.flags valid n log' valid' filled in
          record {
            keeps_writes = kept_writes (scene_of s log) log' (NoLess log.clocks) (slot_run log n) (slot_run log' n) lies_beside;
            no_later = λ free. by (slot_run log n) (slot_run log' n) lies_beside free
                (slot_clocks (scene_of s log) valid (slot_of s name) s.flags n)
                (subst (λ (clocks : List ℕ). Clocked clocks (slot_run log' n)) filled.clocks
                (slot_clocks (scene_of s log') valid' (slot_of s name) s.flags n));
            gone_by = omega (arith, slot_clocks (scene_of s log) valid (slot_of s name) s.flags n);
          }
        where
          by : (r r' : SlotRun) → RunsBeside (scene_of s log) log' (NoLess log.clocks) r r' → (Unfinished name (in_state s name r) → ⊥)
              → Clocked log.clocks r → Clocked log.clocks r' → NoLater log.clocks (in_state s name r) (in_state s name r')
          by r r' (RunsBeside.both slot flags writes count waits near) free clocked clocked' = record {
            state = rw (slot, flags) refl;
            writes = writes;
            count = count;
            waits = waits;
            ewaits = omega (arith, waits, near.left);
            gone = omega (arith, near.left);
          }
          by r r' (RunsBeside.unfinished m more) free clocked clocked' = absurd (waits_too r free m)

  -- ---- the two claims

  pub rows_added : RowsAdded name s
  rows_added log more valid valid' n = by (has_slot s.family name) refl
    where
      by : (has : Bool) → has_slot s.family name ≡ has → AddsOnly name (run_for name log n (begun s)) (run_for name (with_rows log more) n (begun s))
      by true has = rw (in_state_lem has log valid n, in_state_lem has (with_rows log more) valid' n) (added_in has log more valid valid' n)
      by false lacks = rw (no_run log lacks n, no_run (with_rows log more) lacks n) (record { keeps_writes = ([], refl); same = λ _. refl })

  pub readings_filled : ReadingsFilled name s
  readings_filled log log' valid valid' filled n = by (has_slot s.family name) refl
    where
      by : (has : Bool) → has_slot s.family name ≡ has → KeepsUp name log.clocks (run_for name log n (begun s)) (run_for name log' n (begun s))
      by true has = rw (in_state_lem has log valid n, in_state_lem has log' valid' n) (filled_in has log log' valid valid' filled n)
      by false lacks =
          rw (no_run log lacks n, no_run log' lacks n)
          (record {
            keeps_writes = ([], refl);
            no_later = λ _. record { state = refl; writes = refl; count = refl; waits = refl; ewaits = omega arith; gone = omega arith };
            gone_by = omega arith;
          })
