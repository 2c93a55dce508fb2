-- Under the log made for the auditor's walk a run from every start comes to where the walk ends, held up nowhere, with one clock to spare. Assumes nothing.
use Prim.Native.Nat.{ℕ, zero, suc, ◌+◌, ◌-◌, ◌%◌, ◌^◌, ◌≤◌, ◌<◌}
use mathlib.Core.Path.{◌≡◌, refl, sym, ap, ◌∙◌}
use mathlib.Core.Bool.{Bool, true, false, cond, ◌&&◌}
use mathlib.Core.List.{List, [], ◌∷◌, ◌++◌}
use native.Mathlib.Omega.{arith}
use lib.Dec.{ltb, lit<}
use lib.ListN.{length, get_or, drop, length-map, length-drop, length-append}
use borrow.Author.Tests.{ltb-true}
use Rattle.families.proofs.Tests.{both_left, both_right}
use Rattle.event_log.specs.Log.{Log}
use Rattle.event_log.specs.Rows.{row_clocks, row_known, row_values, log_of_rows}
use Rattle.event_log.specs.declared.place.Place.{Place}
use Rattle.event_log.specs.declared.row.Row.{Row}
use Rattle.log_waits.specs.Left.{left_in, left_of}
use Rattle.log_waits.proofs.WaitLaws.{wait_in_lem}
use Rattle.log_ewaits.specs.Ewait.{has_reading, ewait_of}
use Rattle.log_ewaits.specs.declared.ewait.Released.{Released}
use Rattle.log_ewaits.proofs.EwaitLaws.{in64_start, in64_here, in64_next}
use Rattle.machine_time.specs.Time.{elapsed_of}
use Rattle.machine_time.specs.declared.elapsed.Elapsed.{Elapsed}
use Rattle.machine_actions.specs.declared.actions.Action.{Action}
use Rattle.machine_flags.specs.declared.flags.Flags.{Flags}
use Rattle.machine_state.specs.declared.slots.Slot.{Slot}
use Rattle.machine_slot.specs.SlotStep.{perform_of}
use Rattle.machine_slot.specs.declared.slot_steps.SlotStep.{SlotStep}
use Rattle.run.specs.SlotRun.{SlotRun, slot_begun, slot_run_for}
use Rattle.script.specs.Script.{Script}
use Rattle.audit_verdict.specs.Auditor.{can_release, Releasable, know_nothing}
use Rattle.audit_verdict.specs.Witness.{first_row, event_row, releases, row_after, rows_ended, rows_over}
use Rattle.audit_verdict.specs.declared.verdicts.Knowledge.{Knowledge}
use Rattle.audit_verdict.proofs.Cases.{never, below_at}
use Rattle.audit_verdict.proofs.Going.{scene_under, after_step, performs}
use Rattle.audit_verdict.proofs.Walk.{Walk, here, further, actions_of}
use Rattle.audit_verdict.proofs.Agreement.{Agree, goes_on}

-- the row that an ewait begins releases it: 64 tests that antt computes
row_releases : (event value : ℕ) → can_release event value ≡ true → releases (event_row event value) event value ≡ true
unfolding can_release has_reading
row_releases event value c =
    by value
    (below_at 32 (λ i. releases (event_row i 0) i 0 && releases (event_row i 1) i 1) refl event (ltb-true event 32 (both_left (ltb event 32) (ltb value 2) c)))
    (ltb-true value 2 (both_right (ltb event 32) (ltb value 2) c))
  where
    by : (v : ℕ) → (releases (event_row event 0) event 0 && releases (event_row event 1) event 1) ≡ true → v < 2 → releases (event_row event v) event v ≡ true
    by zero t l = both_left (releases (event_row event 0) event 0) (releases (event_row event 1) event 1) t
    by (suc zero) t l = both_right (releases (event_row event 0) event 0) (releases (event_row event 1) event 1) t
    by (suc (suc v)) t l = absurd (omega arith)

-- ---- what becomes of a row

-- the rows made from one on begin with what became of it: it may be longer, and reads the same
record Continues (row : Row) (rows : List Row) : Type 0 where
  first : Row
  rest : List Row
  is : rows ≡ first ∷ rest
  longer : row.clocks ≤ first.clocks
  knows : first.known ≡ row.known
  reads : first.values ≡ row.values

continues_before : (action : Action) (row : Row) (later : List Row) → Continues (row_after action row) later → Continues row (rows_ended action row ++ later)
continues_before (Action.Wait n) row later c =
    record { first = c.first; rest = c.rest; is = c.is; longer = omega (arith, c.longer); knows = c.knows; reads = c.reads }
continues_before (Action.Ewait event value) row later c = by (releases row event value) c
  where
    by : (b : Bool) → Continues (cond b row (event_row event value)) later → Continues row (cond b [] (row ∷ []) ++ later)
    by true c = c
    by false c = record { first = row; rest = later; is = refl; longer = omega arith; knows = refl; reads = refl }
continues_before (Action.Flag change flag) row later c = c
continues_before (Action.Load part word) row later c = c
continues_before (Action.Poke part word) row later c = c
continues_before Action.Exit row later c = c

continues : (actions : List Action) (row : Row) → Continues row (rows_over actions row)
continues [] row = record { first = row; rest = []; is = refl; longer = omega arith; knows = refl; reads = refl }
continues (action ∷ actions) row = continues_before action row (rows_over actions (row_after action row)) (continues actions (row_after action row))

-- the first of the rows from a place on
record FirstAt (at : ℕ) (log : List Row) (row : Row) (rows : List Row) : Type 0 where
  lasts : get_or (row_clocks log) at 0 ≡ row.clocks
  knows : get_or (row_known log) at 0 ≡ row.known
  reads : get_or (row_values log) at 0 ≡ row.values
  rest : drop (suc at) log ≡ rows
  inside : at < length (row_clocks log)

first_at : (at : ℕ) (log : List Row) (row : Row) (rows : List Row) → drop at log ≡ row ∷ rows → FirstAt at log row rows
first_at zero [] row rows e = never (cc)
first_at zero (z ∷ zs) row rows e = record { lasts = cc; knows = cc; reads = cc; rest = cc; inside = omega arith }
first_at (suc at) [] row rows e = never (cc)
first_at (suc at) (z ∷ zs) row rows e =
    let r = first_at at zs row rows e in
    record { lasts = r.lasts; knows = r.knows; reads = r.reads; rest = r.rest; inside = omega (arith, r.inside) }

-- ---- one action of the walk

module _ (log : List Row) where
  -- in the row that has become so, all of it used but for one clock, with the rows from it on still to come
  record On (p : Place) (row : Row) (rows : List Row) : Type 0 where
    ahead : drop p.row log ≡ rows
    used : suc p.used ≡ row.clocks

  -- an action is finished, one clock passed by for each row that it ends
  record Finished (ended : List Row) (row : Row) (rows : List Row) (t : Elapsed) : Type 0 where
    passed : t.searched ≡ length ended
    finished : t.finished ≡ true
    on : On t.place row rows

  abbrev elapsed : Action → Place → Elapsed
  elapsed action p = elapsed_of action (log_of_rows log) p

  -- the row releases it, or the next one does
  ewait_finishes : (event value : ℕ) (p : Place) (row : Row) (later : List Row) → can_release event value ≡ true → (b : Bool) → releases row event value ≡ b
      → Continues (cond b row (event_row event value)) later → On p row (cond b [] (row ∷ []) ++ later)
      → Finished (cond b [] (row ∷ [])) (cond b row (event_row event value)) later (elapsed (Action.Ewait event value) p)
  ewait_finishes event value p row later r true t c o =
      let d = first_at p.row log c.first c.rest (o.ahead ∙ c.is) in
      let there : has_reading (get_or (row_known log) p.row 0) (get_or (row_values log) p.row 0) event value ≡ true
      = rw (d.knows, d.reads, c.knows, c.reads) t in
      let e : ewait_of (log_of_rows log) p event value ≡ Released.At (record { row = p.row; used = p.used }) 0
      = sym (in64_start (log_of_rows log) event value p)
      ∙ in64_here (log_of_rows log) event value p.row p.used 0 (lit< tt) d.inside there in
      rw e (record { passed = refl; finished = refl; on = record { ahead = o.ahead; used = o.used } })
  ewait_finishes event value p row later r false t c o =
      let d = first_at p.row log row later o.ahead in
      let after_step : p.row + 1 ≡ suc p.row = omega arith in
      let d' = first_at (p.row + 1) log c.first c.rest (rw after_step d.rest ∙ c.is) in
      let not_here : has_reading (get_or (row_known log) p.row 0) (get_or (row_values log) p.row 0) event value ≡ false = rw (d.knows, d.reads) t in
      let there : has_reading (get_or (row_known log) (p.row + 1) 0) (get_or (row_values log) (p.row + 1) 0) event value ≡ true
      = rw (d'.knows, d'.reads, c.knows, c.reads) (row_releases event value r) in
      let passed = (0 + (get_or (row_clocks log) p.row 0 - p.used)) % 2 ^ 64 in
      let e : ewait_of (log_of_rows log) p event value ≡ Released.At (record { row = p.row + 1; used = 0 }) passed
      = sym (in64_start (log_of_rows log) event value p)
      ∙ in64_next (log_of_rows log) event value p.row p.used 0 d.inside not_here
      ∙ in64_here (log_of_rows log) event value (p.row + 1) 0 passed (omega arith) d'.inside there in
      let one : passed ≡ 1 = omega (arith, d.lasts, o.used) in
      rw e (record { passed = one; finished = refl; on = record { ahead = rw after_step d.rest; used = refl } })

  -- any action judged fine
  finishes : (action : Action) (p : Place) (row : Row) (later : List Row) → Releasable action
      → Continues (row_after action row) later → On p row (rows_ended action row ++ later)
      → Finished (rows_ended action row) (row_after action row) later (elapsed action p)
  finishes (Action.Wait n) p row later f c o =
      let d = first_at p.row log c.first c.rest (o.ahead ∙ c.is) in
      rw (wait_in_lem (row_clocks log) p.row p.used n d.inside (omega (arith, d.lasts, c.longer, o.used)))
      (record { passed = refl; finished = refl; on = record { ahead = o.ahead; used = omega (arith, o.used) } })
  finishes (Action.Ewait event value) p row later f c o = ewait_finishes event value p row later (f event value refl) (releases row event value) refl c o
  finishes (Action.Flag change flag) p row later f c o = record { passed = refl; finished = refl; on = o }
  finishes (Action.Load part word) p row later f c o = record { passed = refl; finished = refl; on = o }
  finishes (Action.Poke part word) p row later f c o = record { passed = refl; finished = refl; on = o }
  finishes Action.Exit p row later f c o = record { passed = refl; finished = refl; on = o }

  -- in the last row one clock is left
  last_left : (p : Place) (row : Row) → On p row (row ∷ []) → left_of (row_clocks log) p ≡ 1
  unfolding left_in
  last_left p row o =
      let d = first_at p.row log row [] o.ahead in
      let none : length (drop (suc p.row) log) ≡ 0 = ap length d.rest in
      let one : length (row_clocks log) - p.row ≡ 1 = omega (arith, d.inside, none, length-drop (suc p.row) log, length-map log (λ (r : Row). r.clocks)) in
      rw one (omega (arith, d.lasts, o.used))

-- ---- the whole walk

-- the rows made for it
module _ {x : Script} {ranges : List ℕ} {p : ℕ} {k : Knowledge} {q : ℕ} {l : Knowledge} (w : Walk x ranges p k q l) where
  abbrev pub witness_rows : List Row
  witness_rows = rows_over (actions_of w) first_row

  abbrev pub witness_log : Log
  witness_log = log_of_rows witness_rows

-- a run at the end of the walk, with one clock of the log left, where ewaits passed by so many but for one
pub record Arrived (x : Script) (ranges : List ℕ) (log : Log) (addr word q : ℕ) (l : Knowledge) (passed : ℕ) (r : SlotRun) : Type 0 where
  pub agrees : Agree x ranges addr word q l r
  pub one_left : left_of log.clocks r.place ≡ 1
  pub passes_by : suc r.ewaits ≡ passed

-- no action of a walk is held up
module _ {x : Script} {ranges : List ℕ} (log : Log) where
  abbrev pub Unheld : {p q : ℕ} {k l : Knowledge} → Walk x ranges p k q l → SlotRun → Type 0
  Unheld here r = Unit {0}
  Unheld (further action n e f w) r = ((elapsed_of action log r.place).finished ≡ true) × Unheld w (after_step (scene_under x log) r)

module _ {x : Script} {ranges : List ℕ} (log : List Row) where
  reach_on : {addr word p q : ℕ} {k l : Knowledge} {r : SlotRun} (w : Walk x ranges p k q l) (row : Row) → Agree x ranges addr word p k r
      → On log r.place row (rows_over (actions_of w) row)
      → (Unheld (log_of_rows log) w r) × (Arrived x ranges (log_of_rows log) addr word q l (length (rows_over (actions_of w) row) + r.ewaits)
      (slot_run_for (scene_under x (log_of_rows log)) (length (actions_of w)) r))
  unfolding slot_run_for perform_of
  reach_on {r = r} here row g o = (tt, record { agrees = g; one_left = last_left log r.place row o; passes_by = omega arith })
  reach_on {r = r} (further action n e f w) row g o =
      let later = row_after action row in
      let t = finishes log action r.place row (rows_over (actions_of w) later) f.event (continues (actions_of w) later) o in
      let does = performs x true (log_of_rows log) g.going e in
      let rest = reach_on w later (goes_on (log_of_rows log) g e f t.finished) (rw (ap (λ (step : SlotStep). step.place) does) t.on) in
      let searched = ap (λ (step : SlotStep). step.searched) does in
      let sum = length-append (rows_ended action row) (rows_over (actions_of w) later) in
      let arrived = rest.1 in (
        (t.finished, rest.0),
        record { agrees = arrived.agrees; one_left = arrived.one_left; passes_by = omega (arith, arrived.passes_by, searched, t.passed, sum) },
      )

-- a start, under the log made for a walk from it, is held up nowhere and comes to where the walk ends
pub arrives : {x : Script} {ranges : List ℕ} {entry q : ℕ} {l : Knowledge} (w : Walk x ranges entry know_nothing q l)
    → {addr word : ℕ} {slot : Slot} {flags : Flags} → Agree x ranges addr word entry know_nothing (slot_begun slot flags)
    → (Unheld (witness_log w) w (slot_begun slot flags)) × (Arrived x ranges (witness_log w) addr word q l (length (witness_rows w))
    (slot_run_for (scene_under x (witness_log w)) (length (actions_of w)) (slot_begun slot flags)))
arrives w g =
    let r = reach_on (witness_rows w) w first_row g (record { ahead = refl; used = refl }) in
    let a = r.1 in
    (r.0, record { agrees = a.agrees; one_left = a.one_left; passes_by = omega (arith, a.passes_by) })
