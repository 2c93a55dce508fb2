-- Starts: every start agrees with an auditor that knows nothing and holds the audited script, and there is one for each ADDR and DATA. Assumes nothing.
use Prim.Native.Nat.{ℕ, zero, suc, ◌-◌, ◌^◌, ◌<◌}
use mathlib.Core.Path.{◌≡◌, refl, sym, ap, ◌∙◌}
use mathlib.Core.Bool.{true, and-false}
use mathlib.Core.List.{List, [], ◌∷◌, ◌++◌}
use native.Mathlib.Omega.{arith}
use lib.Dec.{leb, lit<}
use lib.ListN.{length, get_or, replicate}
use borrow.Author.Tests.{leb-true}
use Rattle.families.specs.Family.{known_family, pauses_memory}
use Rattle.families.proofs.Tests.{both_left, both_right, bounds}
use Rattle.isa_fetch.proofs.FetchLaws.{same_fetch}
use Rattle.isa_fetch.proofs.Places.{size_small}
use Rattle.event_log.specs.Log.{Log, log_of}
use Rattle.event_log.specs.Validity.{valid_log}
use Rattle.machine_flags.specs.Flags.{overrides1}
use Rattle.machine_state.specs.Slot.{has_slot, other_of, slot_of, with_slot}
use Rattle.machine_state.specs.declared.slots.Mode.{Mode}
use Rattle.machine_state.specs.declared.slots.Slot.{Slot}
use Rattle.machine_state.specs.declared.slots.SlotName.{SlotName}
use Rattle.machine_state.specs.declared.state.State.{State}
use Rattle.machine_state.proofs.SlotLaws.{has_a}
use Rattle.audit_verdict.specs.Auditor.{know_nothing}
use Rattle.script.specs.Input.{marks_plain}
use Rattle.machine_step.specs.declared.steps.Stepped.{Stepped}
use Rattle.run.specs.Run.{begun, next_step, run_for}
use Rattle.audit_verdict.specs.Demand3.{with_addr, with_data}
use Rattle.audit_verdict.specs.Start.{SlotInType, StateInType, Start}
use Rattle.script.specs.Script.{Script}
use Rattle.script.proofs.Scripts.{Fits, Auditable}
use Rattle.run.specs.SlotRun.{slot_begun, next_slot_step, slot_run_for, slot_at_entry, state_with, slot_run_of, Holds}
use Rattle.run.proofs.Held.{filled_size, filled_scene, filled_marks, filled_code}
use Rattle.run.proofs.InState.{run_back, follows, next_follows}
use Rattle.audit_verdict.proofs.Going.{scene_under}
use Rattle.audit_verdict.proofs.Agreement.{Agree}

-- ---- every start

module _ {x : Script} {name : SlotName} {s : State} (start : Start x name s) where
  pub begun_agrees : {ranges : List ℕ}
      → Agree x ranges (slot_of s name).addr.0 (slot_of s name).«data» x.entry know_nothing (slot_begun (slot_of s name) s.flags)
  begun_agrees = record {
    going = record { runs = start.executing; ip = start.at_entry };
    held = refl;
    high = λ _. refl;
    paused = start.not_paused ∙ sym (and-false (pauses_memory x.family));
    count = refl;
    writes = refl;
    waits = refl;
    listed = tt;
  }

  -- its steps read the script, whatever bytes were never uploaded
  module _ (fit : Fits x) (log : Log) where
    pub holds : Holds (scene_under x log) (slot_of s name) s.flags name s
    holds =
        let fetches = same_fetch x.family x.code x.marks s.code s.marks (omega (arith, fit.code_sized))
        (omega (arith, size_small x.family, start.in_type.code_sized)) start.uploaded start.as_audited in
        record {
          names_family = ap known_family start.same_family ∙ fit.known;
          slot_there = rw start.same_family start.slot_there;
          same_scene = record { family = start.same_family; enable = start.enabled; log = refl; fetches = λ at. rw start.same_family (fetches at) };
          same_slot = refl;
          same_flags = refl;
        }

    module _ (valid : valid_log log ≡ true) (n : ℕ) where
      -- so its steps show the slot's own run
      pub slot_follows : slot_run_of name (run_for name log n (begun s)) ≡ slot_run_for (scene_under x log) n (slot_begun (slot_of s name) s.flags)
      slot_follows = ap (slot_run_of name) (follows (scene_under x log) (slot_of s name) s.flags name s holds valid n) ∙ run_back s name _

      -- and do what its steps do
      pub effect_follows : (next_step name log (run_for name log n (begun s))).effect
          ≡ (next_slot_step (scene_under x log) (slot_run_for (scene_under x log) n (slot_begun (slot_of s name) s.flags))).effect
      effect_follows = ap (λ (t : Stepped). t.effect) (next_follows (scene_under x log) (slot_of s name) s.flags name s holds valid n)

-- ---- some start

replicate_bytes : (n i : ℕ) → get_or (replicate n 0) i 0 < 256
replicate_bytes zero i = omega arith
replicate_bytes (suc n) zero = omega arith
replicate_bytes (suc n) (suc i) = replicate_bytes n i

filled_bytes : (l : List ℕ) (n : ℕ) → ((i : ℕ) → get_or l i 0 < 256) → (i : ℕ) → get_or (l ++ replicate n 0) i 0 < 256
filled_bytes [] n b i = replicate_bytes n i
filled_bytes (y ∷ l) n b zero = b 0
filled_bytes (y ∷ l) n b (suc i) = filled_bytes l n (λ j. b (suc j)) i

plain_bytes : (marks : List ℕ) → marks_plain marks ≡ true → (i : ℕ) → get_or marks i 0 < 256
plain_bytes [] p i = omega arith
plain_bytes (m ∷ marks) p zero = omega (arith, leb-true m 1 (both_left (leb m 1) (marks_plain marks) p))
plain_bytes (m ∷ marks) p (suc i) = plain_bytes marks (both_right (leb m 1) (marks_plain marks) p) i

-- slot A runs the script with this ADDR and DATA, all else is fresh
abbrev pub some_state : Script → ℕ → ℕ → State
some_state x addr word = state_with (filled_scene (scene_under x (log_of [] [] []))) (slot_at_entry x.entry addr word) (record { values = 0; enables = 0 })

module _ {x : Script} (fit : Auditable x) (addr word : ℕ) (small_addr : addr < 2 ^ 32) (small_word : word < 2 ^ 32) where
  some_in_type : StateInType (some_state x addr word)
  some_in_type =
      let fam = bounds 1 x.family 4 fit.fits.known in
      let size = size_small x.family in
      record {
        family = omega (arith, fam.1);
        code_sized = filled_size x.code (omega (arith, fit.fits.code_sized));
        code_bytes = filled_bytes x.code (512 - length x.code) fit.bytes;
        marks_sized = filled_size x.marks (omega (arith, fit.fits.marks_sized));
        marks_bytes = filled_bytes x.marks (512 - length x.marks) (plain_bytes x.marks fit.fits.plain);
        values = omega arith;
        enables = omega arith;
        entries = omega arith;
        entries_high = omega arith;
        a = record { ip = omega (arith, fit.fits.entry_low); addr = small_addr; word = small_word };
        b = record { ip = omega arith; addr = omega arith; word = omega arith };
      }

  pub some_start : Start x SlotName.A (some_state x addr word)
  unfolding overrides1
  some_start = record {
    in_type = some_in_type;
    same_family = refl;
    slot_there = has_a x.family fit.fits.known;
    uploaded = filled_marks x fit.fits;
    as_audited = λ i h _. filled_code x fit.fits i h;
    executing = refl;
    at_entry = refl;
    other_idle = λ _. refl;
    enabled = refl;
    not_paused = and-false (pauses_memory x.family);
  }

-- ---- a start with other slots

abbrev with_slots : State → Slot → Slot → State
with_slots s a b = record {
  family = s.family;
  code = s.code;
  marks = s.marks;
  flags = s.flags;
  enable = s.enable;
  override_mode = s.override_mode;
  entries = s.entries;
  entries_high = s.entries_high;
  a = a;
  b = b;
}

in_type_with : {s : State} {a b : Slot} → StateInType s → SlotInType a → SlotInType b → StateInType (with_slots s a b)
in_type_with i small_a small_b = record {
  family = i.family;
  code_sized = i.code_sized;
  code_bytes = i.code_bytes;
  marks_sized = i.marks_sized;
  marks_bytes = i.marks_bytes;
  values = i.values;
  enables = i.enables;
  entries = i.entries;
  entries_high = i.entries_high;
  a = small_a;
  b = small_b;
}

abbrev registers_set : Slot → ℕ → ℕ → Slot
registers_set slot addr word = record { mode = slot.mode; ip = slot.ip; addr = record { 0 = addr }; «data» = word }

module _ {x : Script} where
  start_with : {name : SlotName} {s : State} {a b : Slot} → Start x name s → SlotInType a → SlotInType b
      → (name' : SlotName) → has_slot x.family name' ≡ true
      → (slot_of (with_slots s a b) name').mode ≡ Mode.Running → (slot_of (with_slots s a b) name').ip.0 ≡ x.entry
      → (has_slot x.family (other_of name') ≡ true → (slot_of (with_slots s a b) (other_of name')).mode ≡ Mode.Idle)
      → Start x name' (with_slots s a b)
  start_with start small_a small_b name' there runs at idle = record {
    in_type = in_type_with start.in_type small_a small_b;
    same_family = start.same_family;
    slot_there = there;
    uploaded = start.uploaded;
    as_audited = start.as_audited;
    executing = runs;
    at_entry = at;
    other_idle = idle;
    enabled = start.enabled;
    not_paused = start.not_paused;
  }

  -- the same in slot B
  start_exchanged : {s : State} → Start x SlotName.A s → has_slot x.family SlotName.B ≡ true
      → Start x SlotName.B (with_slots s s.b s.a)
  start_exchanged start there =
      start_with start start.in_type.b start.in_type.a SlotName.B there start.executing start.at_entry (λ _. start.other_idle there)

  -- and with another number in ADDR, or in DATA
  start_registers : (name : SlotName) {s : State} {addr word : ℕ} → Start x name s
      → (SlotInType (slot_of s name) → (addr < 2 ^ 32) × (word < 2 ^ 32))
      → Start x name (with_slot s name (registers_set (slot_of s name) addr word) s.flags)
  start_registers SlotName.A start small =
      let i = start.in_type in
      let h = small i.a in
      start_with start (record { ip = i.a.ip; addr = h.0; word = h.1 }) i.b
      SlotName.A start.slot_there start.executing start.at_entry start.other_idle
  start_registers SlotName.B start small =
      let i = start.in_type in
      let h = small i.b in
      start_with start i.a (record { ip = i.b.ip; addr = h.0; word = h.1 })
      SlotName.B start.slot_there start.executing start.at_entry start.other_idle

  module _ {name : SlotName} {s : State} (start : Start x name s) where
    pub start_addr : (addr : ℕ) → addr < 2 ^ 32 → Start x name (with_addr name s addr)
    start_addr addr h = start_registers name start (λ i. (h, i.word))

    pub start_data : (word : ℕ) → word < 2 ^ 32 → Start x name (with_data name s word)
    start_data word h = start_registers name start (λ i. (i.addr, h))

-- every slot of the family has a start
pub starts_in : (x : Script) → Auditable x → (name : SlotName) → has_slot x.family name ≡ true → (s : State) × (Start x name s)
starts_in x fit SlotName.A there = (some_state x 0 0, some_start fit 0 0 (lit< tt) (lit< tt))
starts_in x fit SlotName.B there = (with_slots (some_state x 0 0) _ _, start_exchanged (some_start fit 0 0 (lit< tt) (lit< tt)) there)
