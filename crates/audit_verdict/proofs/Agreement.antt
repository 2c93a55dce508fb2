-- A run that is not held up agrees with what the auditor knows at the same place, and one action judged fine keeps that. Assumes nothing.
use Prim.Native.Nat.{ℕ, ◌+◌, ◌/◌}
use mathlib.Core.Path.{◌≡◌, refl, ◌∙◌}
use mathlib.Core.Bool.{Bool, true, false, cond, ◌&&◌}
use mathlib.Core.List.{List, [], ◌∷◌, ◌++◌, append-nil}
use native.Mathlib.Omega.{arith}
use lib.Dec.{eqb}
use lib.ListN.{length, length-append}
use Rattle.families.specs.Family.{pauses_memory}
use Rattle.machine_actions.specs.Action.{merge_of}
use Rattle.event_log.specs.Log.{Log}
use Rattle.event_log.specs.Validity.{valid_place}
use Rattle.machine_flags.specs.Flags.{overrides1, paused_of}
use Rattle.machine_time.specs.Time.{elapsed_of}
use Rattle.machine_slot.specs.SlotStep.{data_after, flags_after, effect_of, perform_of}
use Rattle.machine_actions.specs.declared.actions.Action.{Action}
use Rattle.machine_actions.specs.declared.actions.Part.{Part}
use Rattle.machine_flags.specs.declared.flags.Flags.{Flags}
use Rattle.machine_state.specs.declared.slots.Mode.{Mode}
use Rattle.machine_time.specs.declared.elapsed.Elapsed.{Elapsed}
use Rattle.audit_verdict.specs.Auditor.{is_set1, loads_both, known_data, known_paused, poke_count, know_next}
use Rattle.audit_verdict.specs.Demand3.{AllListed}
use Rattle.run.specs.Run.{Write, wrote_by}
use Rattle.run.specs.SlotRun.{SlotRun, next_slot_step}
use Rattle.audit_verdict.specs.declared.verdicts.Knowledge.{Knowledge}
use Rattle.script.specs.Script.{Script}
use Rattle.script.proofs.Scripts.{Formed, Reads}
use Rattle.audit_verdict.proofs.FlagLaws.{flag_law}
use Rattle.run.proofs.Settled.{action_fetched}
use Rattle.audit_verdict.proofs.Going.{scene_under, after_step, Going, performs, mode_then, going_then}
use Rattle.audit_verdict.proofs.Lapse.{Lapse, lapse}
use Rattle.audit_verdict.proofs.Judging.{held_addr, Fine}

-- ---- what an action does, against what the auditor notes of it

written : (action : Action) (addr word : ℕ) → length (wrote_by (effect_of action true addr word)) ≡ poke_count action
written (Action.Wait n) addr word = refl
written (Action.Ewait event value) addr word = refl
written (Action.Flag change flag) addr word = refl
written (Action.Load part operand) addr word = refl
written (Action.Poke part operand) addr word = refl
written Action.Exit addr word = refl

-- without both halves of DATA set, its high half is the start's
load_high : (part : Part) (operand word start : ℕ) (halves : Bool) → (halves ≡ false → word / 65536 ≡ start / 65536) → loads_both part halves ≡ false
    → merge_of part word operand / 65536 ≡ start / 65536
load_high Part.Whole operand word start halves h e = cc
load_high Part.Low operand word start halves h e = let g = h e in omega arith

high_kept : (action : Action) (halves : Bool) (word start : ℕ) → (halves ≡ false → word / 65536 ≡ start / 65536) → known_data action halves ≡ false
    → data_after action word / 65536 ≡ start / 65536
high_kept (Action.Wait n) halves word start h = h
high_kept (Action.Ewait event value) halves word start h = h
high_kept (Action.Flag change flag) halves word start h = h
high_kept (Action.Load part operand) halves word start h = load_high part operand word start halves h
high_kept (Action.Poke part operand) halves word start h = h
high_kept Action.Exit halves word start h = h

module _ (family : ℕ) where
  paused_kept : (action : Action) (k : Knowledge) (flags : Flags) → Formed action → paused_of family flags ≡ (pauses_memory family && k.paused)
      → paused_of family (flags_after action flags) ≡ (pauses_memory family && known_paused action k.paused)
  paused_kept (Action.Wait n) k flags f e = e
  paused_kept (Action.Ewait event value) k flags f e = e
  paused_kept (Action.Flag change flag) k flags f e = rw (flag_law change flag flags f) (by (eqb flag 16))
    where
      by : (own : Bool)
          → (pauses_memory family && cond own (is_set1 change) (overrides1 16 flags)) ≡ (pauses_memory family && cond own (is_set1 change) k.paused)
      by true = refl
      by false = e
  paused_kept (Action.Load part operand) k flags f e = e
  paused_kept (Action.Poke part operand) k flags f e = e
  paused_kept Action.Exit k flags f e = e

listed_append : (ranges : List ℕ) (ws vs : List Write) → AllListed ranges ws → AllListed ranges vs → AllListed ranges (ws ++ vs)
listed_append ranges [] vs a b = b
listed_append ranges (w ∷ ws) vs a b = (a.0, listed_append ranges ws vs a.1 b)

-- addr and word: what ADDR and DATA held at the start
pub record Agree (x : Script) (ranges : List ℕ) (addr word p : ℕ) (k : Knowledge) (r : SlotRun) : Type 0 where
  pub going : Going p r
  pub held : r.slot.addr.0 ≡ held_addr k.addr addr
  pub high : k.«data» ≡ false → r.slot.«data» / 65536 ≡ word / 65536
  pub paused : paused_of x.family r.flags ≡ (pauses_memory x.family && k.paused)
  pub count : r.count ≡ k.count
  pub writes : length r.writes ≡ k.writes
  pub waits : r.waits ≡ k.clocks
  pub listed : AllListed ranges r.writes

-- held up: in a wait, with the log at its end
pub record Held (ranges : List ℕ) (log : Log) (r : SlotRun) : Type 0 where
  pub waiting : r.slot.mode ≡ Mode.Waiting
  pub row : r.place.row ≡ length log.clocks
  pub used : r.place.used ≡ 0
  pub listed : AllListed ranges r.writes

-- whatever the log says, an action judged fine leads to agreement or is held up
module _ {x : Script} {ranges : List ℕ} (log : Log) {addr word p n : ℕ} {k : Knowledge} {r : SlotRun} {action : Action}
    (g : Agree x ranges addr word p k r) (e : Reads x p action n) (f : Fine x.family ranges action k) where
  abbrev elapsed : Elapsed
  elapsed = elapsed_of action log r.place

  lapsed : Lapse log.clocks action r.place elapsed
  lapsed = lapse log action r.place

  step : next_slot_step (scene_under x log) r ≡ perform_of true r.slot r.flags action n elapsed
  step = performs x true log g.going e

  pub goes_on : elapsed.finished ≡ true → Agree x ranges addr word (p + n) (know_next action k) (after_step (scene_under x log) r)
  unfolding perform_of
  goes_on d = rw step (record {
    going = rw step at (going_then x true log g.going e (rw d f.goes) f.moves);
    held = f.addr addr r.slot.addr.0 g.held;
    high = high_kept action k.«data» r.slot.«data» word g.high;
    paused = paused_kept x.family action k r.flags e.formed g.paused;
    count = omega (arith, g.count, action_fetched action true r.slot.addr.0 r.slot.«data»);
    writes = simp length-append (omega (arith, g.writes, written action r.slot.addr.0 r.slot.«data»));
    waits = omega (arith, g.waits, lapsed.waited d);
    listed =
        listed_append ranges r.writes (wrote_by (effect_of action true r.slot.addr.0 r.slot.«data»)) g.listed
        (f.listed addr r.slot.addr.0 r.slot.«data» g.held);
  })

  pub waits_then : elapsed.finished ≡ false → (after_step (scene_under x log) r).slot.mode ≡ Mode.Waiting
  waits_then d = mode_then x true log g.going e ∙ rw d (lapsed.mode d)

  pub held_up : valid_place log.clocks r.place ≡ true → elapsed.finished ≡ false → Held ranges log (after_step (scene_under x log) r)
  unfolding perform_of
  held_up v d = rw step (record {
    waiting = rw step at (waits_then d);
    row = (lapsed.end v d).0;
    used = (lapsed.end v d).1;
    listed = rw (lapsed.quiet d r.slot.addr.0 r.slot.«data», append-nil) g.listed;
  })
