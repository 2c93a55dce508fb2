-- The log made for the auditor's walk is a log: at most 171 rows, clocks in range, masks of 32 bits. Assumes nothing.
use Prim.Native.Nat.{ℕ, zero, suc, ◌+◌, ◌-◌, ◌*◌, ◌^◌, ◌≤◌, ◌<◌}
use mathlib.Core.Path.{◌≡◌, refl}
use mathlib.Core.Bool.{Bool, true, false, cond}
use mathlib.Core.List.{List, [], ◌∷◌, ◌++◌}
use native.Mathlib.Omega.{arith}
use lib.Dec.{ltb, lit<}
use lib.ListN.{length, get_or, length-map, length-append}
use borrow.Author.Tests.{ltb-true, le-leb, eq-eqb}
use Rattle.families.specs.Family.{code_size}
use Rattle.isa.specs.Opcode.{size_of}
use Rattle.isa.specs.Writer.{opcode_of}
use Rattle.isa.specs.declared.instructions.Instruction.{Instruction}
use Rattle.families.proofs.Tests.{both_left, both_right}
use Rattle.isa_fetch.proofs.Places.{size_small, fetch_lies}
use Rattle.event_log.specs.Rows.{row_clocks, row_known, row_values, log_of_rows}
use Rattle.event_log.specs.Validity.{rows_in_range, valid_log}
use Rattle.event_log.specs.declared.row.Row.{Row}
use Rattle.machine_actions.specs.Action.{action_of}
use Rattle.machine_actions.specs.declared.actions.Action.{Action}
use Rattle.script.specs.Script.{Script}
use Rattle.script.proofs.Scripts.{Formed, Reads}
use Rattle.audit_verdict.specs.Auditor.{can_release, Releasable, wait_length, know_next, know_nothing}
use Rattle.audit_verdict.specs.Start.{MasksInType}
use Rattle.audit_verdict.specs.Witness.{first_row, event_row, releases, row_after, rows_ended, rows_over, max_shown}
use Rattle.audit_verdict.specs.declared.verdicts.Knowledge.{Knowledge}
use Rattle.audit_verdict.proofs.Cases.{below_at}
use Rattle.audit_verdict.proofs.Walk.{Walk, here, further, actions_of}
use Rattle.audit_verdict.proofs.WitnessRun.{witness_rows, witness_log}

-- ---- waits are short

pub wait_short : (action : Action) → Formed action → wait_length action ≤ 103079215104
wait_short (Action.Wait n) f = f
wait_short (Action.Ewait event value) f = omega arith
wait_short (Action.Flag change flag) f = omega arith
wait_short (Action.Load part word) f = omega arith
wait_short (Action.Poke part word) f = omega arith
wait_short Action.Exit f = omega arith

-- each action takes a byte at least, and waits no longer than a wait can
pub record StaysBelow (p : ℕ) (k : Knowledge) : Type 0 where
  pub count : k.count ≤ p
  pub clocks : k.clocks ≤ k.count * 103079215104

pub bounded_next : {p n : ℕ} {k : Knowledge} (action : Action) → Formed action → 0 < n → StaysBelow p k → StaysBelow (p + n) (know_next action k)
bounded_next action f h b = let short = wait_short action f in record { count = omega (arith, b.count); clocks = omega (arith, b.clocks) }

pub bounded : {x : Script} {ranges : List ℕ} {p q : ℕ} {k l : Knowledge} → Walk x ranges p k q l → StaysBelow p k → StaysBelow q l
bounded here b = b
bounded (further action n e f w) b = bounded w (bounded_next action e.formed e.some b)

-- the auditor begins so, at every entry
pub bounded_start : {entry : ℕ} → StaysBelow entry know_nothing
bounded_start = record { count = omega arith; clocks = omega arith }

-- ---- what holds of a row as it is made

pub row_mask_lem : (event value : ℕ) → can_release event value ≡ true → ((event_row event value).known < 2 ^ 32) × ((event_row event value).values < 2 ^ 32)
unfolding can_release
row_mask_lem event value c =
    let event_small = ltb-true event 32 (both_left (ltb event 32) (ltb value 2) c) in
    let small = ltb-true (2 ^ event) (2 ^ 32) (below_at 32 (λ i. ltb (2 ^ i) (2 ^ 32)) refl event event_small) in
    (small, by value (ltb-true value 2 (both_right (ltb event 32) (ltb value 2) c)) small)
  where
    by : (v : ℕ) → v < 2 → 2 ^ event < 2 ^ 32 → v * 2 ^ event < 2 ^ 32
    by zero l h = omega arith
    by (suc zero) l h = omega arith
    by (suc (suc v)) l h = absurd (omega arith)

-- clocks that were waited in it and one to spare, and masks of 32 bits; c were waited by now
pub record RowFits (c : ℕ) (row : Row) : Type 0 where
  pub least : 1 ≤ row.clocks
  pub most : row.clocks ≤ suc c
  pub known_bits : row.known < 2 ^ 32
  pub value_bits : row.values < 2 ^ 32

pub first_fits : RowFits 0 first_row
first_fits = record { least = omega arith; most = omega arith; known_bits = lit< tt; value_bits = lit< tt }

longer : {c : ℕ} {row : Row} (n : ℕ) → RowFits c row → RowFits (c + n) (record { clocks = row.clocks + n; known = row.known; values = row.values })
longer n m = record { least = omega (arith, m.least); most = omega (arith, m.most); known_bits = m.known_bits; value_bits = m.value_bits }

same_row : {c : ℕ} {row : Row} → RowFits c row → RowFits (c + 0) row
same_row m = record { least = m.least; most = omega (arith, m.most); known_bits = m.known_bits; value_bits = m.value_bits }

pub row_fits_after : (action : Action) (row : Row) (c : ℕ) → Releasable action → RowFits c row
    → RowFits (c + wait_length action) (row_after action row)
row_fits_after (Action.Wait n) row c r m = longer n m
row_fits_after (Action.Ewait event value) row c r m = by (releases row event value)
  where
    by : (b : Bool) → RowFits (c + 0) (cond b row (event_row event value))
    by true = same_row m
    by false =
        let h = row_mask_lem event value (r event value refl) in
        record { least = omega arith; most = omega arith; known_bits = h.0; value_bits = h.1 }
row_fits_after (Action.Flag change flag) row c r m = same_row m
row_fits_after (Action.Load part word) row c r m = same_row m
row_fits_after (Action.Poke part word) row c r m = same_row m
row_fits_after Action.Exit row c r m = same_row m

-- ---- what holds of the rows of a log

record InLog (rows : List Row) : Type 0 where
  range : rows_in_range (row_clocks rows) ≡ true
  masks : MasksInType (log_of_rows rows)

no_rows : InLog []
no_rows = record { range = refl; masks = record { known_bits = λ i. lit< tt; value_bits = λ i. lit< tt } }

-- one mask more
mask_more : (mask : ℕ) (rest : List ℕ) → mask < 2 ^ 32 → ((i : ℕ) → get_or rest i 0 < 2 ^ 32) → (i : ℕ) → get_or (mask ∷ rest) i 0 < 2 ^ 32
mask_more mask rest h r zero = h
mask_more mask rest h r (suc i) = r i

-- the clocks of 512 longest waits
abbrev longest : ℕ
longest = 52776558133248

rows_and_one : {c : ℕ} (row : Row) (rows : List Row) → RowFits c row → c ≤ longest → InLog rows → InLog (row ∷ rows)
rows_and_one row rows m h r = record {
  range = rw (le-leb 1 row.clocks m.least, le-leb row.clocks (2 ^ 48) (omega (arith, m.most)), r.range) refl;
  masks = record {
    known_bits = mask_more row.known (row_known rows) m.known_bits r.masks.known_bits;
    value_bits = mask_more row.values (row_values rows) m.value_bits r.masks.value_bits;
  };
}

left_more : {c : ℕ} (action : Action) (row : Row) (later : List Row) → RowFits c row → c ≤ longest → InLog later → InLog (rows_ended action row ++ later)
left_more (Action.Wait n) row later m h r = r
left_more (Action.Ewait event value) row later m h r = by (releases row event value)
  where
    by : (b : Bool) → InLog (cond b [] (row ∷ []) ++ later)
    by true = r
    by false = rows_and_one row later m h r
left_more (Action.Flag change flag) row later m h r = r
left_more (Action.Load part word) row later m h r = r
left_more (Action.Poke part word) row later m h r = r
left_more Action.Exit row later m h r = r

-- ---- how many rows

-- a row is left behind for three bytes
pub left_size : (i : Instruction) (n : ℕ) (row : Row) → n ≡ size_of (opcode_of i) → 3 * length (rows_ended (action_of i) row) ≤ n
left_size (Instruction.Wait l s) n row e = omega arith
left_size (Instruction.AddrLo a) n row e = omega arith
left_size (Instruction.DataLo d) n row e = omega arith
left_size (Instruction.Ewait event value) n row e = by (releases row event value)
  where
    by : (b : Bool) → 3 * length (cond b [] (row ∷ [])) ≤ n
    by true = omega arith
    by false = omega (arith, e)
left_size Instruction.Exit n row e = omega arith
left_size (Instruction.Unset f) n row e = omega arith
left_size (Instruction.Set1 f) n row e = omega arith
left_size (Instruction.Set0 f) n row e = omega arith
left_size (Instruction.Addr a) n row e = omega arith
left_size (Instruction.Data d) n row e = omega arith

pub reads_size : {x : Script} {p n : ℕ} {action : Action} (e : Reads x p action n) (row : Row) → 3 * length (rows_ended action row) ≤ n
reads_size {x} {p} {n} e row =
    let lies = rw e.found at (fetch_lies x.family x.code x.marks p) in
    rw e.acts at (left_size e.instruction n row lies.0)

module _ {x : Script} {ranges : List ℕ} where
  rows_most : {p q : ℕ} {k l : Knowledge} (w : Walk x ranges p k q l) (row : Row) → 3 * length (rows_over (actions_of w) row) ≤ 3 + (code_size x.family - p)
  rows_most here row = omega arith
  rows_most (further action n e f w) row =
      let next = row_after action row in
      omega (arith, length-append (rows_ended action row) (rows_over (actions_of w) next), reads_size e row, rows_most w next, e.inside)

  pub witness_few : {p q : ℕ} {k l : Knowledge} (w : Walk x ranges p k q l) → length (witness_rows w) ≤ max_shown
  witness_few w = omega (arith, rows_most w first_row, size_small x.family)

  in_log : {p q : ℕ} {k l : Knowledge} (w : Walk x ranges p k q l) (row : Row) → StaysBelow p k → k.clocks ≤ longest → RowFits k.clocks row
      → InLog (rows_over (actions_of w) row)
  in_log here row b h m = rows_and_one row [] m h no_rows
  in_log {k = k} (further action n e f w) row b h m =
      let next = bounded_next action e.formed e.some b in
      left_more action row (rows_over (actions_of w) (row_after action row)) m h
      (in_log w (row_after action row) next (omega (arith, next.count, next.clocks, e.inside, size_small x.family))
      (row_fits_after action row k.clocks f.event m))

  module _ {entry q : ℕ} {l : Knowledge} (w : Walk x ranges entry know_nothing q l) where
    rows_in_log : InLog (witness_rows w)
    rows_in_log = in_log w first_row bounded_start (omega arith) first_fits

    pub witness_valid : valid_log (witness_log w) ≡ true
    unfolding valid_log
    witness_valid =
        let rows = witness_rows w in
        let n = length rows in
        rw (
          length-map rows (λ (r : Row). r.clocks),
          length-map rows (λ (r : Row). r.known),
          length-map rows (λ (r : Row). r.values),
          le-leb n 1024 (omega (arith, witness_few w)),
          eq-eqb n n refl,
          rows_in_log.range,
        ) refl

    pub witness_masks : MasksInType (witness_log w)
    witness_masks = rows_in_log.masks
