-- The log that is made row by row, against the rows that the script's way asks for. Assumes nothing.
use Rattle.std.specs.Prelude.{Ok, Err}
use Rattle.std.proofs.lemmas.Bool.{leb-true}
use Prim.Native.Nat.{ℕ, ◌+◌, ◌*◌, ◌≤◌, ◌<◌}
use mathlib.Core.Path.{◌≡◌, refl, sym, ap, ap₂, subst, ◌∙◌}
use mathlib.Core.Bool.{true}
use mathlib.Core.List.{List, [], ◌∷◌, ◌++◌, append_assoc}
use native.Mathlib.Omega.{arith}
use lib.ListN.{length, get_or, length-append}
use Rattle.families.specs.Family.{code_size}
use Rattle.isa.specs.declared.instructions.Instruction.{Instruction}
use Rattle.isa.specs.Answers.{Decoded}
use Rattle.families.proofs.Tests.{both_left, both_right}
use Rattle.refusals.specs.declared.refusals.Unreadable.{Unreadable}
use Rattle.isa_fetch.specs.Fetch.{Fetches}
use Rattle.isa_fetch.proofs.Places.{size_small}
use Rattle.event_log.specs.Log.{Log}
use Rattle.event_log.specs.Rows.{rows_into, with_rows_at}
use Rattle.event_log.specs.declared.row.Row.{Row}
use Rattle.event_log.proofs.Columns.{Room, SameLengths, rows_lengths, rows_more}
use Rattle.machine_actions.specs.Action.{action_of}
use Rattle.machine_actions.specs.declared.actions.Action.{Action}
use Rattle.script.specs.Script.{Script, fetch_at}
use Rattle.script.specs.Input.{script_fits, ranges_fit, input_fits}
use Rattle.script.proofs.Scripts.{fits_script, Reads}
use Rattle.audit_verdict.specs.Auditor.{know_next, know_nothing, audit_of}
use Rattle.audit_verdict.specs.Witness.{first_row, row_after, rows_ended, rows_over, writes_over, place_of, max_shown}
use Rattle.audit_verdict.specs.declared.verdicts.Knowledge.{Knowledge}
use Rattle.audit_script.proofs.Walking.{poke_small}
use Rattle.audit_verdict.proofs.Cases.{never}
use Rattle.audit_verdict.proofs.Judging.{Fine}
use Rattle.audit_verdict.proofs.Walk.{Walk, here, further, actions_of, walk_forward, way_is}
use Rattle.audit_verdict.proofs.Claim.{audit_walked}
use Rattle.audit_verdict.proofs.WitnessLog.{StaysBelow, bounded_next, bounded_start, RowFits, wait_short, first_fits, row_fits_after, reads_size}
use Rattle.audit_witness.specs.Witnesses.{lent_enough, way}
use Rattle.audit_witness.specs.Inside.{has_entry, CanExtend, with_row, nothing_made, made_after, Extends, Follows}
use Rattle.audit_witness.specs.declared.rows.Timeline.{Timeline}

-- ---- the walk to the place, one instruction at a time

module _ {x : Script} {ranges : List ℕ} where
  -- at the place nothing is left of it
  walked_over : {p q : ℕ} {k l : Knowledge} (w : Walk x ranges p k q l) → p ≡ q → actions_of w ≡ []
  walked_over here same = refl
  walked_over (further action n e f w) same = absurd (omega (arith, walk_forward w, e.some))

  -- before it there is an instruction, judged fine
  record Next {p q : ℕ} {k l : Knowledge} (w : Walk x ranges p k q l) (action : Action) (n : ℕ) : Type 0 where
    reads : Reads x p action n
    fine : Fine x.family ranges action k
    rest : Walk x ranges (p + n) (know_next action k) q l
    is : actions_of w ≡ action ∷ actions_of rest

  next_of : {p q : ℕ} {k l : Knowledge} (w : Walk x ranges p k q l) → (p ≡ q → ⊥) → (i : Instruction) (n : ℕ)
      → fetch_at x p ≡ Ok (i, n) → Next w (action_of i) n
  next_of here apart i n f = absurd (apart refl)
  next_of (further action m e g w) apart i n f =
      let same : (i, n) ≡ (e.instruction, m) = cc e.found in
      let which : i ≡ e.instruction = ap (λ (p : Instruction × ℕ). p.0) same in
      let size : n ≡ m = ap (λ (p : Instruction × ℕ). p.1) same in
      let acts : action_of i ≡ action = ap action_of which ∙ e.acts in
      rw (acts, size) (record { reads = e; fine = g; rest = w; is = refl })

  pub never_refused : {p q : ℕ} {k l : Knowledge} (w : Walk x ranges p k q l) → (p ≡ q → ⊥) → (why : Unreadable) → fetch_at x p ≡ Err why → ⊥
  never_refused here apart why f = apart refl
  never_refused (further action m e g w) apart why f = never (cc e.found)

-- ---- the loop

less_room : {m n : ℕ} {lent : Log} → Room n lent → m ≤ n → Room m lent
less_room r h = record { clocks = omega (arith, r.clocks); known = omega (arith, r.known); values = omega (arith, r.values) }

room_in : (lent : Log) → lent_enough lent ≡ true → Room max_shown lent
room_in lent e = let later = both_right _ _ e in record {
  clocks = leb-true _ _ (both_left _ _ e);
  known = leb-true _ _ (both_left _ _ later);
  values = leb-true _ _ (both_right _ _ later);
}

-- at a place: the rows that were put, and those that the rest of the walk asks for, are the log; and what is counted stays small
pub record Making (x : Script) (ranges : List ℕ) (place : ℕ) (way : List Action) (lent log : Log) (at : ℕ) (made : Timeline) : Type 0 where
  pub room : Room max_shown lent
  pub knows : Knowledge
  pub last : Knowledge
  pub walk : Walk x ranges at knows place last
  pub before : List Row
  pub same_rows : before ++ rows_over (actions_of walk) made.row ≡ rows_over way first_row
  pub same_steps : made.steps + length (actions_of walk) ≡ length way
  pub same_writes : made.writes + writes_over (actions_of walk) ≡ writes_over way
  pub counted : made.before ≡ length before
  pub three_bytes : 3 * length before ≤ at
  pub low : at ≤ 512
  pub few_steps : made.steps ≤ at
  pub few_writes : made.writes ≤ made.steps
  pub bounded : StaysBelow at knows
  pub row_fits : RowFits knows.clocks made.row
  pub put : log ≡ rows_into lent before

pub making_first : {x : Script} {ranges : List ℕ} {place entry : ℕ} {l : Knowledge} (w : Walk x ranges entry know_nothing place l) {lent : Log}
    → Room max_shown lent → entry ≤ 511 → Making x ranges place (actions_of w) lent lent entry nothing_made
making_first {l = l} w room h = record {
  room = room;
  knows = know_nothing;
  last = l;
  walk = w;
  before = [];
  same_rows = refl;
  same_steps = omega arith;
  same_writes = omega arith;
  counted = refl;
  three_bytes = omega arith;
  low = omega arith;
  few_steps = omega arith;
  few_writes = omega arith;
  bounded = bounded_start;
  row_fits = first_fits;
  put = refl;
}

-- the loop begins so, on its way to the verdict's place
pub making_begins : (x : Script) (ranges : List ℕ) {place : ℕ} (lent : Log)
    → (input_fits x ranges ≡ true) × (place ≡ place_of (audit_of x ranges))
    × (lent_enough lent ≡ true)
    × ((i : ℕ) → get_or x.code i 0 < 256)
    → {made : Timeline} → made ≡ nothing_made → Making x ranges place (way x ranges) lent lent x.entry made
making_begins x ranges lent needs nothing =
    let w = (audit_walked x ranges needs.3 needs.0).walk in
    let low = (fits_script x (both_left (script_fits x) (ranges_fit ranges) needs.0)).entry_low in
    rw (needs.1, nothing, way_is (code_size x.family) w (omega arith)) (making_first w (room_in lent needs.2) low)

module _ {x : Script} {ranges : List ℕ} {place : ℕ} {all : List Action} {lent log : Log} {at : ℕ} {made : Timeline}
    (g : Making x ranges place all lent log at made) where
  few : length g.before ≤ 170
  few = omega (arith, g.three_bytes, g.low)

  same_lengths : SameLengths lent log
  same_lengths = subst (SameLengths lent) (sym g.put) (rows_lengths lent g.before (less_room g.room (omega (arith, few))))

  -- the present row has an entry
  row_entry : has_entry log made.before
  row_entry =
      let s = same_lengths in
      let r = g.room in (
        omega (arith, g.counted, few, s.clocks, r.clocks),
        omega (arith, g.counted, few, s.known, r.known),
        omega (arith, g.counted, few, s.values, r.values),
      )

  put_after : (rows : List Row) → length g.before + length rows ≤ max_shown → with_rows_at log made.before rows ≡ rows_into lent (g.before ++ rows)
  put_after rows h = ap₂ (λ (l : Log) (n : ℕ). with_rows_at l n rows) g.put g.counted ∙ rows_more lent g.before rows (less_room g.room h)

  -- at the place the present row is the last
  pub making_over : at ≡ place → {new : Log} → new ≡ with_row log made.before made.row → Follows all lent new made
  making_over same {new} p =
      let none_left = walked_over g.walk same in
      let rows_are : g.before ++ (made.row ∷ []) ≡ rows_over all first_row
      = ap (λ (actions : List Action). g.before ++ rows_over actions made.row) (sym none_left) ∙ g.same_rows in
      record {
        counted = omega (arith, ap length rows_are, length-append g.before (made.row ∷ []), g.counted);
        stepped = omega (arith, ap length none_left, g.same_steps);
        wrote = omega (arith, ap writes_over none_left, g.same_writes);
        put = p ∙ put_after (made.row ∷ []) (omega (arith, few)) ∙ ap (rows_into lent) rows_are;
      }

  -- before it the fetch gives an instruction
  module _ (apart : at ≡ place → ⊥) {answer : Decoded} (fetched : Fetches x.family x.code x.marks at answer) where
    pub making_fetched : {why : Unreadable} → answer ≡ Err why → ⊥
    making_fetched {why} is = never_refused g.walk apart why (sym fetched.answered ∙ is)

    module _ {i : Instruction} {n : ℕ} (is : answer ≡ Ok (i, n)) where
      abbrev action : Action
      action = action_of i

      step : Next g.walk action n
      step = next_of g.walk apart i n (sym fetched.answered ∙ is)

      pub inside : (0 < n) × (at + n ≤ 512)
      inside = let e = step.reads in (e.some, omega (arith, e.inside, size_small x.family))

      -- what `extend` asks for
      pub extend_fits : {did : Action} → did ≡ action → CanExtend did made log
      extend_fits same =
          let short = wait_short action step.reads.formed in
          let b = g.bounded in
          rw same (
            row_entry,
            omega (arith, g.counted, few),
            omega (arith, g.few_steps, inside),
            omega (arith, g.few_steps, g.few_writes, inside),
            omega (arith, short, g.row_fits.most, b.clocks, b.count, inside),
            step.fine.event,
          )

      making_on : {new : Log} → new ≡ with_rows_at log made.before (rows_ended action made.row)
          → Making x ranges place all lent new (at + n) (made_after action made)
      making_on p =
          let left = rows_ended action made.row in
          let later = rows_over (actions_of step.rest) (row_after action made.row) in
          let size = reads_size step.reads made.row in
          let here : rows_over (actions_of g.walk) made.row ≡ left ++ later = ap (λ (actions : List Action). rows_over actions made.row) step.is in
          let sum = length-append g.before left in
          record {
            room = g.room;
            knows = know_next action g.knows;
            last = g.last;
            walk = step.rest;
            before = g.before ++ left;
            same_rows = append_assoc g.before left later ∙ ap (λ (l : List Row). g.before ++ l) (sym here) ∙ g.same_rows;
            same_steps = omega (arith, ap length step.is, g.same_steps);
            same_writes = omega (arith, ap writes_over step.is, g.same_writes);
            counted = omega (arith, sum, g.counted);
            three_bytes = omega (arith, sum, g.three_bytes, size);
            low = inside.1;
            few_steps = omega (arith, g.few_steps, inside.0);
            few_writes = omega (arith, g.few_writes, poke_small action);
            bounded = bounded_next action step.reads.formed step.reads.some g.bounded;
            row_fits = row_fits_after action made.row g.knows.clocks step.fine.event g.row_fits;
            put = p ∙ put_after left (omega (arith, g.three_bytes, size, inside.1));
          }

      -- the same of what the loop's calls gave
      pub making_next : {new : Log} {did : Action} {made' : Timeline} → did ≡ action → Extends did made log new made'
          → Making x ranges place all lent new (at + n) made'
      making_next {new} {did} {made'} same e =
          let becomes : made' ≡ made_after action made = e.made_is ∙ ap (λ (a : Action). made_after a made) same in
          subst (Making x ranges place all lent new (at + n)) (sym becomes)
          (making_on (e.put ∙ ap (λ (a : Action). with_rows_at log made.before (rows_ended a made.row)) same))
