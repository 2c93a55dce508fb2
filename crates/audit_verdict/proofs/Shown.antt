-- The log made for the auditor's walk shows the verdict, from every start. Assumes nothing.
use Rattle.std.specs.Prelude.{Err, Some, None, Option}
use Prim.Native.Nat.{ℕ, suc, ◌+◌, ◌/◌, ◌<◌}
use mathlib.Core.Path.{◌≡◌, refl, sym, ap, subst, ◌∙◌}
use mathlib.Core.Logic.{inl, inr}
use mathlib.Core.Bool.{true, false, ◌&&◌}
use mathlib.Core.List.{List}
use native.Mathlib.Omega.{arith}
use lib.Dec.{lit<}
use lib.ListN.{length, length-map}
use borrow.Author.Tests.{lt-ltb}
use Rattle.families.specs.Family.{known_family, pauses_memory}
use Rattle.isa.specs.declared.addresses.MmioAddress.{MmioAddress}
use Rattle.refusals.specs.declared.refusals.Fault.{Fault}
use Rattle.refusals.specs.declared.refusals.Unreadable.{Unreadable}
use Rattle.isa_fetch.proofs.Places.{fetch_lies}
use Rattle.event_log.specs.Log.{Log}
use Rattle.event_log.specs.declared.row.Row.{Row}
use Rattle.log_waits.specs.Left.{left_of}
use Rattle.log_ewaits.specs.Ewait.{ewait_of, OnReading}
use Rattle.log_ewaits.specs.declared.ewait.Released.{Released}
use Rattle.log_ewaits.proofs.EwaitLaws.{ewait_on_reading}
use Rattle.machine_actions.specs.Action.{merge_of}
use Rattle.machine_state.specs.Slot.{slot_of}
use Rattle.machine_state.proofs.SlotLaws.{slot_back}
use Rattle.machine_time.specs.Time.{after_ewait}
use Rattle.machine_slot.specs.SlotStep.{perform_of, unfetched}
use Rattle.machine_actions.specs.declared.actions.Action.{Action}
use Rattle.machine_actions.specs.declared.actions.Part.{Part}
use Rattle.machine_state.specs.declared.slots.Mode.{Mode}
use Rattle.machine_state.specs.declared.slots.SlotName.{SlotName}
use Rattle.machine_state.specs.declared.slots.Slot.{Slot}
use Rattle.machine_state.specs.declared.state.State.{State}
use Rattle.machine_slot.specs.declared.slot_steps.Effect.{Effect}
use Rattle.machine_slot.specs.declared.slot_steps.SlotStep.{SlotStep}
use Rattle.run.specs.Run.{Run, begun, next_step, run_for}
use Rattle.run.specs.SlotRun.{Scene, SlotRun, slot_begun, next_slot_step, slot_run_for, slot_run_of}
use Rattle.run.proofs.SlotRuns.{slot_snoc}
use Rattle.script.specs.Script.{Script, fetch_at}
use Rattle.script.proofs.Scripts.{Auditable, Reads}
use Rattle.audit_verdict.specs.Auditor.{fault_of, target_of, can_release, know_nothing}
use Rattle.audit_verdict.specs.Demand3.{AtPlace, Exact, Witness, WriteDifferently, OneAddress, NoneBefore, with_addr, with_data}
use Rattle.audit_verdict.specs.Start.{Start}
use Rattle.audit_verdict.specs.Witness.{writes_over, witness_from, place_of, Differ, Sees, ShowsVerdict, ShownFrom, ShownBy}
use Rattle.audit_verdict.specs.declared.verdicts.Knowledge.{Knowledge}
use Rattle.audit_verdict.specs.declared.verdicts.Verdict.{Verdict}
use Rattle.audit_verdict.proofs.Cases.{never}
use Rattle.audit_verdict.proofs.Going.{scene_under, after_step, Going, refuses, performs, mode_then}
use Rattle.audit_verdict.proofs.Judging.{held_addr, poke_addr, Blame}
use Rattle.audit_verdict.proofs.Walk.{Walk, actions_of, walk_counts, walk_writes, Ends, at_refused, at_bad, at_exit}
use Rattle.audit_verdict.proofs.Agreement.{Agree}
use Rattle.audit_verdict.proofs.Soundness.{Exited, exit_step}
use Rattle.audit_verdict.proofs.WitnessRun.{witness_rows, witness_log, Unheld, Arrived, arrives}
use Rattle.audit_verdict.proofs.SameWrites.{Same, same_through, orderly_through}
use Rattle.audit_verdict.proofs.WitnessLog.{witness_few, witness_valid, witness_masks}
use Rattle.audit_verdict.proofs.Starts.{begun_agrees, slot_follows, effect_follows, start_addr, start_data}

-- ---- an ewait that nothing can release

-- in a wait with the log used up
pub record Stuck (log : Log) (r : SlotRun) : Type 0 where
  pub waits : r.slot.mode ≡ Mode.Waiting
  pub row : r.place.row ≡ length log.clocks
  pub used : r.place.used ≡ 0

-- a row that releases it would have a reading that no row has
ewait_unfinished : (log : Log) (event value rows : ℕ) (r : Released) → OnReading log event value r → can_release event value ≡ false
    → ((after_ewait rows r).finished ≡ false) × ((after_ewait rows r).place.row ≡ rows) × ((after_ewait rows r).place.used ≡ 0)
unfolding can_release
ewait_unfinished log event value rows (Released.At p n) o c =
    let small : value < 2 = omega (arith, o.2) in
    never (cc (lt-ltb event 32 o.0, lt-ltb value 2 small))
ewait_unfinished log event value rows (Released.End n) o c = (refl, refl, refl)

-- so is a run at it, after its step
pub stuck_there : {x : Script} {p t event value : ℕ} → Reads x p (Action.Ewait event value) t → can_release event value ≡ false
    → (log : Log) {r : SlotRun} → Going p r → Stuck log (after_step (scene_under x log) r)
unfolding perform_of
stuck_there {x} {event = event} {value = value} e c log {r} g =
    let cut = ewait_unfinished log event value (length log.clocks) (ewait_of log r.place event value) (ewait_on_reading log event value r.place) c in
    let same = ap (λ (step : SlotStep). step.place) (performs x true log g e) in
    record { waits = mode_then x true log g e ∙ rw cut.0 refl; row = rw same cut.1; used = rw same cut.2 }

-- a low half leaves the high one
merge_high : (addr operand : ℕ) → merge_of Part.Low addr operand / 65536 ≡ addr / 65536
merge_high addr operand = omega arith

-- a state's run at exit, from what it shows of the slot
pub exact_in : {x : Script} {ranges : List ℕ} {q : ℕ} {l : Knowledge} → (pauses_memory x.family && l.paused) ≡ false → (name : SlotName) (r : Run)
    → Exited x ranges q l (slot_run_of name r) → Exact x name q (l.count + 1) l.writes l.clocks r
exact_in unpaused name r h = record {
  exit = record { idle = h.idle; ip = h.ip; memory_runs = h.paused ∙ unpaused };
  counted = h.counted;
  wrote = h.wrote;
  waited = h.waited;
}

-- ---- the run to where the walk ends, from any start

module _ {x : Script} {ranges : List ℕ} (fit : Auditable x) {q : ℕ} {k : Knowledge} (w : Walk x ranges x.entry know_nothing q k) where
  abbrev pub log : Log
  log = witness_log w

  abbrev steps : ℕ
  steps = length (actions_of w)

  abbrev scene : Scene
  scene = scene_under x log

  module _ {name : SlotName} {s : State} (start : Start x name s) where
    abbrev pub witness : Witness x
    witness = witness_from x log (witness_valid w) (witness_masks w) steps start

    -- its slot's run
    abbrev run_of_slot : SlotRun
    run_of_slot = slot_run_for scene steps (slot_begun (slot_of s name) s.flags)

    arrived : Arrived x ranges log (slot_of s name).addr.0 (slot_of s name).«data» q k (length (witness_rows w)) run_of_slot
    arrived = (arrives w (begun_agrees start)).1

    unheld : Unheld log w (slot_begun (slot_of s name) s.flags)
    unheld = (arrives w (begun_agrees start)).0

    agrees : Agree x ranges (slot_of s name).addr.0 (slot_of s name).«data» q k run_of_slot
    agrees = arrived.agrees

    same : slot_run_of name (run_for name log steps (begun s)) ≡ run_of_slot
    same = slot_follows start fit.fits log (witness_valid w) steps

    pub brought : AtPlace name q (run_for name log steps (begun s))
    brought = let g = subst (Going q) (sym same) agrees.going in record { runs = g.runs; ip = g.ip }

    -- what the next step does
    abbrev effect : Effect
    effect = (next_step name log (run_for name log steps (begun s))).effect

    does : {t : SlotStep} → next_slot_step scene run_of_slot ≡ t → effect ≡ t.effect
    does e = effect_follows start fit.fits log (witness_valid w) steps ∙ ap (λ (t : SlotStep). t.effect) e

    stops : (why : Unreadable) → fetch_at x q ≡ Err why
        → effect ≡ (unfetched x.family run_of_slot.slot run_of_slot.flags run_of_slot.place why).effect
    stops why e = does (refuses x true log agrees.going why e)

    pokes : {m : ℕ} (part : Part) (operand : ℕ) → Reads x q (Action.Poke part operand) m
        → effect ≡ Effect.Wrote (record { 0 = merge_of part run_of_slot.slot.addr.0 operand }) run_of_slot.slot.«data»
    unfolding perform_of
    pokes part operand e = does (performs x true log agrees.going e)

    -- one step more
    after : slot_run_of name (run_for name log (suc steps) (begun s)) ≡ after_step scene run_of_slot
    after =
        slot_follows start fit.fits log (witness_valid w) (suc steps)
        ∙ slot_snoc scene steps (slot_begun (slot_of s name) s.flags)

    pub exited : {m : ℕ} → Reads x q Action.Exit m → Exited x ranges q k (slot_run_of name (run_for name log (suc steps) (begun s)))
    exited e = subst (Exited x ranges q k) (sym after) (exit_step x ranges log e agrees)

    -- what it writes at an address with, and a word with, the start's own high half
    own_addr : {m : ℕ} (operand : ℕ) → Reads x q (Action.Poke Part.Low operand) m → k.addr ≡ None
        → (address : ℕ) × (word : ℕ) × (effect ≡ Effect.Wrote (record { 0 = address }) word) × (address / 65536 ≡ (slot_of s name).addr.0 / 65536)
    own_addr operand e unset =
        let held = agrees.held ∙ ap (λ (known : Option MmioAddress). held_addr known (slot_of s name).addr.0) unset in
        (_, _, pokes Part.Low operand e, merge_high run_of_slot.slot.addr.0 operand ∙ ap (λ (a : ℕ). a / 65536) held)

    own_data : {m : ℕ} (part : Part) (operand : ℕ) → Reads x q (Action.Poke part operand) m → k.«data» ≡ false
        → (address : ℕ) × (word : ℕ) × (effect ≡ Effect.Wrote (record { 0 = address }) word) × (word / 65536 ≡ (slot_of s name).«data» / 65536)
    own_data part operand e half = (_, _, pokes part operand e, agrees.high half)

    -- a poke whose address the script has set goes there
    pokes_at : {m : ℕ} (part : Part) (operand : ℕ) (address : MmioAddress) → Reads x q (Action.Poke part operand) m
        → target_of part operand k.addr ≡ Some address
        → effect ≡ Effect.Wrote (record { 0 = address.0 }) run_of_slot.slot.«data»
    pokes_at part operand address e t =
        pokes part operand e
        ∙ ap (λ (a : ℕ). Effect.Wrote (record { 0 = a }) run_of_slot.slot.«data»)
        (poke_addr part operand (slot_of s name).addr.0 run_of_slot.slot.addr.0 address k.addr t agrees.held)

  -- ---- what starts have in common

  together : {name name' : SlotName} {s s' : State} (one : Start x name s) (two : Start x name' s') → Same x ranges log k (run_of_slot one) (run_of_slot two)
  together one two =
      same_through x ranges log w (begun_agrees one) (begun_agrees two) (record { place = refl; writes = refl; held = λ h. never (cc) }) (unheld one)

  module _ {name : SlotName} {s : State} (start : Start x name s) where
    pub none_before : NoneBefore x ranges (witness start)
    none_before = record {
      orderly = λ name' s' other n h.
          rw (effect_follows other fit.fits log (witness_valid w) n) (orderly_through x ranges log w (begun_agrees other) (unheld other) n h);
      same_writes = λ name' s' other.
          ap (λ (r : SlotRun). r.writes) (same other) ∙ (together other start).writes ∙ sym (ap (λ (r : SlotRun). r.writes) (same start));
      listed = rw (ap (λ (r : SlotRun). r.writes) (same start)) (agrees start).listed;
    }

    -- with ADDR set by the script every start writes at one address, and with DATA set too one word
    module _ {m : ℕ} (part : Part) (operand : ℕ) (address : MmioAddress) (e : Reads x q (Action.Poke part operand) m)
        (t : target_of part operand k.addr ≡ Some address) where
      pub one_address : OneAddress x (witness start)
      one_address = (address.0, λ name' s' other. ((run_of_slot other).slot.«data», pokes_at other part operand address e t))

      pub one_write : k.«data» ≡ true → (name' : SlotName) (s' : State) (other : Start x name' s')
          → effect other ≡ Effect.Wrote (record { 0 = address.0 }) (run_of_slot start).slot.«data»
      one_write halves name' s' other =
          pokes_at other part operand address e t
          ∙ ap (λ (word : ℕ). Effect.Wrote (record { 0 = address.0 }) word) ((together other start).held halves)

  -- ---- two starts that write differently

  two_writes : {name : SlotName} {s s' : State} (one : Start x name s) (two : Start x name s') {address word address' word' : ℕ}
      → effect one ≡ Effect.Wrote (record { 0 = address }) word → effect two ≡ Effect.Wrote (record { 0 = address' }) word'
      → (address ≡ address' → word ≡ word' → ⊥)
      → WriteDifferently x q (witness one) (witness two)
  two_writes one two writes writes' apart = record {
    same_slot = refl;
    same_log = refl;
    same_steps = refl;
    first = brought one;
    second = brought two;
    address = _;
    word = _;
    address' = _;
    word' = _;
    writes = writes;
    writes' = writes';
    differ = apart;
  }

  abbrev DifferIn : SlotName → State → State → Type 0
  DifferIn = Differ x log (witness_valid w) (witness_masks w) steps q

  module _ {name : SlotName} {s : State} (start : Start x name s) where
    addr_differs : {m : ℕ} (operand : ℕ) → Reads x q (Action.Poke Part.Low operand) m → k.addr ≡ None
        → DifferIn name (with_addr name s 0) (with_addr name s 65536)
    addr_differs operand e unset =
        let one = start_addr start 0 (lit< tt) in
        let two = start_addr start 65536 (lit< tt) in
        let g = own_addr one operand e unset in
        let h = own_addr two operand e unset in
        let low : g.0 / 65536 ≡ 0 = g.3 ∙ ap (λ (slot : Slot). slot.addr.0 / 65536) (slot_back name s _ s.flags) in
        let high : h.0 / 65536 ≡ 1 = h.3 ∙ ap (λ (slot : Slot). slot.addr.0 / 65536) (slot_back name s _ s.flags) in
        (one, two, two_writes one two g.2 h.2 (λ same _. omega (arith, low, high)))

    data_differs : {m : ℕ} (part : Part) (operand : ℕ) → Reads x q (Action.Poke part operand) m → k.«data» ≡ false
        → DifferIn name (with_data name s 0) (with_data name s 65536)
    data_differs part operand e half =
        let one = start_data start 0 (lit< tt) in
        let two = start_data start 65536 (lit< tt) in
        let g = own_data one part operand e half in
        let h = own_data two part operand e half in
        let low : g.1 / 65536 ≡ 0 = g.3 ∙ ap (λ (slot : Slot). slot.«data» / 65536) (slot_back name s _ s.flags) in
        let high : h.1 / 65536 ≡ 1 = h.3 ∙ ap (λ (slot : Slot). slot.«data» / 65536) (slot_back name s _ s.flags) in
        (one, two, two_writes one two g.2 h.2 (λ _ same. omega (arith, low, high)))

    -- ---- the next step

    abbrev pub SeesIt : Fault → Type 0
    SeesIt = Sees x log (witness_valid w) (witness_masks w) steps ranges start q

    -- the fetch fails
    pub refused_sees : (why : Unreadable) → fetch_at x q ≡ Err why → SeesIt (fault_of why)
    refused_sees Unreadable.Family e =
        let unknown : known_family x.family ≡ false = rw e at (fetch_lies x.family x.code x.marks q) in
        never (cc fit.fits.known)
    refused_sees Unreadable.Empty e = inl (stops start Unreadable.Empty e)
    refused_sees Unreadable.Unknown e = stops start Unreadable.Unknown e
    refused_sees Unreadable.Short e = inr (stops start Unreadable.Short e)
    refused_sees Unreadable.NotUploaded e = stops start Unreadable.NotUploaded e

    -- a judgement blames an action
    pub blamed_sees : (action : Action) (m : ℕ) (fault : Fault) → Reads x q action m → Blame x.family ranges action k fault → SeesIt fault
    blamed_sees action m Fault.PastRam e b = absurd b
    blamed_sees action m Fault.NotUploaded e b = absurd b
    blamed_sees action m Fault.Unknown e b = absurd b
    blamed_sees action m Fault.NoAddress e b = let poke = rw b.1 at e in (own_addr start b.0 poke b.2, addr_differs b.0 poke b.2)
    blamed_sees action m Fault.HalfData e b = let poke = rw b.3 at e in (own_data start b.0 b.1 poke b.5, data_differs b.0 b.1 poke b.5)
    blamed_sees action m Fault.Outside e b = (_, _, pokes_at start b.0 b.1 b.2 (rw b.3 at e) b.4, b.6)
    blamed_sees action m Fault.Unreleased e b =
        let h = subst (Stuck log) (sym (after start)) (stuck_there (rw b.2 at e) b.3 log (agrees start).going) in
        record { waits = h.waits; row = h.row; used = h.used }
    blamed_sees action m Fault.Paused e b = let h = exited start (rw b.0 at e) in (h.idle, h.ip, h.paused ∙ b.1)
    blamed_sees action m Fault.Input e b = absurd b

    -- ---- the verdict

    abbrev From : Verdict → Type 0
    From v = ShownFrom x log (witness_valid w) (witness_masks w) steps ranges (writes_over (actions_of w)) v start

    counted : (run_for name log steps (begun s)).count ≡ steps
    counted = ap (λ (r : SlotRun). r.count) (same start) ∙ omega (arith, (agrees start).count, walk_counts w)

    wrote : length (run_for name log steps (begun s)).writes ≡ writes_over (actions_of w)
    wrote = ap (λ (r : SlotRun). length r.writes) (same start) ∙ omega (arith, (agrees start).writes, walk_writes w)

    one_remains : left_of log.clocks (run_for name log steps (begun s)).place ≡ 1
    one_remains = ap (λ (r : SlotRun). left_of log.clocks r.place) (same start) ∙ (arrived start).one_left

    passes_by : suc (run_for name log steps (begun s)).ewaits ≡ length log.clocks
    passes_by =
        ap (λ (r : SlotRun). suc r.ewaits) (same start)
        ∙ (arrived start).passes_by
        ∙ sym (length-map (witness_rows w) (λ (r : Row). r.clocks))

    -- what the next step shows
    shows : {v : Verdict} → Ends x ranges q k v → ShowsVerdict x log (witness_valid w) (witness_masks w) steps ranges start v
    shows (at_refused why e) = refused_sees why e
    shows (at_bad action n fault e b) = blamed_sees action n fault e b
    shows (at_exit n e unpaused) =
        (omega (arith, walk_counts w), exact_in unpaused name (run_for name log (suc steps) (begun s)) (exited start e))

    -- and that the steps before it bring the start there
    there : {v : Verdict} → Ends x ranges q k v → AtPlace name (place_of v) (run_for name log steps (begun s))
    there (at_refused why e) = brought start
    there (at_bad action n fault e b) = brought start
    there (at_exit n e unpaused) = brought start

    shown_from : {v : Verdict} → Ends x ranges q k v → From v
    shown_from ends =
        record { there = there ends; counted = counted; wrote = wrote; one_left = one_remains; passes_by = passes_by; shows = shows ends }

  pub shown_by : {v : Verdict} → Ends x ranges q k v → ShownBy x ranges log steps (writes_over (actions_of w)) v
  shown_by ends = record {
    valid = witness_valid w;
    masks = witness_masks w;
    few = rw (length-map (witness_rows w) (λ (r : Row). r.clocks)) (witness_few w);
    shown = λ start. shown_from start ends;
  }
