-- The reading of records, one after the other. Assumes nothing.
use Prim.Native.Nat.{ℕ, zero, suc, ◌+◌, ◌-◌, ◌%◌, ◌≤◌, ◌<◌}
use mathlib.Core.Path.{◌≡◌, refl, ap, sym, ◌∙◌}
use mathlib.Core.Bool.{Bool, true, false}
use mathlib.Core.List.{List, [], ◌∷◌}
use native.Mathlib.Omega.{arith}
use lib.ListN.{length, get_or, take, drop, set, length-drop}
use lib.Seq.{take_all, set-get_or}
use borrow.Author.Tests.{eq-eqb, ne_eqb, eqb-true, eqb-false}
use lib.Dec.{eqb}
use Rattle.event_log.specs.Log.{Log, log_of}
use Rattle.machine_state.specs.declared.state.State.{State}
use Rattle.job_records.specs.Inside.{unless_refused, RangeRead, RowStored, GateStored, CaptureStored}
use Rattle.job_records.specs.Job.{counted, state_after, bounds_after, column_after, probes_after, after_record}
use Rattle.job_records.specs.Reader.{JobRead, read_at, read_in}
use Rattle.job_records.specs.Records.{kind_of}
use Rattle.job_records.specs.Refusals.{refusal_of}
use Rattle.words.specs.Numbers.{byte_at}
use Rattle.job_records.specs.declared.contents.Counts.{Counts}
use Rattle.job_records.specs.declared.contents.Job.{Job}
use Rattle.probe_captures.specs.Probes.{no_gate, no_extent, with_gate, with_capture, with_row}
use Rattle.probe_captures.specs.Records.{gate_in, capture_in}
use Rattle.probe_captures.specs.declared.extents.Extent.{Extent}
use Rattle.probe_captures.specs.declared.gates.EventGate.{EventGate}
use Rattle.probe_captures.specs.declared.masks.Masks.{Masks}
use Rattle.probe_captures.specs.declared.probes.Probes.{Probes}
use Rattle.job_records.proofs.Clear.{clear, gate_event, capture_event}
use Rattle.job_records.proofs.KindTests.{NoKind}

-- the input from an offset on, as it is lent
pub from : (s : List ℕ) (at : ℕ) → take (length s - at) (drop at s) ≡ drop at s
from s at = take_all (length s - at) (drop at s) (omega (arith, length-drop at s))

module _ (bytes : List ℕ) (at : ℕ) (j : Job) (x : JobRead) where
  abbrev rest_at : List ℕ
  rest_at = drop at bytes

  abbrev number_at : ℕ
  number_at = refusal_of rest_at j.counts j.probes.masks j.state

  abbrev next_at : ℕ
  next_at = at + (1 + (kind_of j.counts (byte_at rest_at 0)).body)

  -- a record without fault that is no end: the same answer from the next one on
  pub read_next : (f : ℕ) → at ≤ length bytes → length bytes < at + f → number_at ≡ 0 → (byte_at rest_at 0 ≡ 0 → ⊥) → read_in f bytes at j ≡ x
      → (g : ℕ) × (length bytes < next_at + g) × (read_in g bytes next_at (after_record rest_at j) ≡ x)
  unfolding read_in
  read_next zero h l e n r = absurd (let z : ⊥ = omega arith in z)
  read_next (suc g) h l e n r = (g, omega arith, simp (eq-eqb number_at 0 e, ne_eqb (byte_at rest_at 0) 0 n) at r)

  -- a record at fault
  pub read_fault : (f : ℕ) → at ≤ length bytes → length bytes < at + f → (number_at ≡ 0 → ⊥) → read_in f bytes at j ≡ x → read_at number_at at j ≡ x
  unfolding read_in
  read_fault zero h l n r = absurd (let z : ⊥ = omega arith in z)
  read_fault (suc g) h l n r = simp (ne_eqb number_at 0 n) at r

  -- the end
  pub read_end : (f : ℕ) → at ≤ length bytes → length bytes < at + f → number_at ≡ 0 → byte_at rest_at 0 ≡ 0 → read_in f bytes at j ≡ x → read_at 0 at j ≡ x
  unfolding read_in
  read_end zero h l e z r = absurd (let w : ⊥ = omega arith in w)
  read_end (suc g) h l e z r = simp (eq-eqb number_at 0 e, eq-eqb (byte_at rest_at 0) 0 z) at r

  -- either, where reading stops
  pub read_stop : (number f : ℕ) → at ≤ length bytes → length bytes < at + f → number ≡ number_at → (number ≡ 0 → byte_at rest_at 0 ≡ 0)
      → read_in f bytes at j ≡ x
      → read_at number at j ≡ x
  read_stop number f h l t ends r = by (eqb number 0) refl
    where
      by : (none : Bool) → eqb number 0 ≡ none → read_at number at j ≡ x
      by true e =
          let zero = eqb-true number 0 e in
          ap (λ (n : ℕ). read_at n at j) zero ∙ read_end f h l (sym t ∙ zero) (ends zero) r
      by false e = ap (λ (n : ℕ). read_at n at j) t ∙ read_fault f h l (λ z. eqb-false number 0 e (t ∙ z)) r

-- an element that there is, whatever is told where there is none
same_element : {A : Type 0} (l : List A) (i : ℕ) (d e : A) → i < length l → get_or l i d ≡ get_or l i e
same_element [] i d e h = absurd (let z : ⊥ = omega arith in z)
same_element (x ∷ l) zero d e h = refl
same_element (x ∷ l) (suc i) d e h = same_element l i d e (omega arith)

-- the place of an event that 33 does not refuse
below_32 : {event : ℕ} → event < 32 → event % 32 ≡ event
below_32 h = omega arith

-- ---- what a record's call leaves

abbrev pub with_counts : Job → Counts → Job
with_counts j counts =
    record { counts = counts; bounds = j.bounds; state = j.state; clocks = j.clocks; known = j.known; values = j.values; probes = j.probes }

-- a kind that changes the state alone
pub record StateKind (kind : ℕ) : Type 0 where
  pub gate : eqb kind 6 ≡ false
  pub capture : eqb kind 5 ≡ false
  pub range : eqb kind 3 ≡ false
  pub row : eqb kind 1 ≡ false

-- a kind that stores nothing
pub record Storeless (kind : ℕ) : Type 0 where
  pub gate : kind ≡ 6 → ⊥
  pub capture : kind ≡ 5 → ⊥
  pub family : kind ≡ 4 → ⊥
  pub range : kind ≡ 3 → ⊥
  pub write : kind ≡ 2 → ⊥
  pub row : kind ≡ 1 → ⊥

pub storeless : {kind : ℕ} → NoKind kind → Storeless kind
storeless none =
    record { gate = none.gate; capture = none.capture; family = none.family; range = none.range; write = none.write; row = none.row }

-- the listing's number, and the job after the record unless it is refused or the end
pub record Reached (rest : List ℕ) (j : Job) (number : ℕ) (i : Job) : Type 0 where
  pub tested : number ≡ refusal_of rest j.counts j.probes.masks j.state
  pub stored : number ≡ 0 → with_counts i (counted (byte_at rest 0) j.counts) ≡ after_record rest j
  pub kept : (number ≡ 0 → byte_at rest 0 ≡ 0) → i ≡ j

-- a number that is not 0, where only an end could be kept
refused : {kind number k : ℕ} → kind ≡ k → 0 < k → (number ≡ 0 → kind ≡ 0) → number ≡ 0 → ⊥
refused is some h z = omega (arith, h z)

module _ (rest : List ℕ) (j : Job) (number : ℕ) where
  abbrev counts : Counts
  counts = j.counts

  pub row_reached : byte_at rest 0 ≡ 1 → {new : Log} {masks : Masks}
      → RowStored rest counts j.probes.masks masks (log_of j.clocks j.known j.values) new number
      → Reached rest j number (record {
        counts = counts;
        bounds = j.bounds;
        state = j.state;
        clocks = new.clocks;
        known = new.known;
        values = new.values;
        probes = record { masks = masks; gates = j.probes.gates; extents = j.probes.extents };
      })
  unfolding after_record bounds_after state_after column_after probes_after with_row
  row_reached is r = record {
    tested = r.tested j.probes.masks j.state;
    stored = λ z. simp (r.clocks, r.known, r.values, r.masks, z, is);
    kept = λ h. simp (r.clocks, r.known, r.values, r.masks, ne_eqb number 0 (refused is (omega arith) h));
  }

  -- the job with other probes
  abbrev with_probes : Probes → Job
  with_probes p =
      record { counts = counts; bounds = j.bounds; state = j.state; clocks = j.clocks; known = j.known; values = j.values; probes = p }

  -- of a gate, and of a capture: the event stands where it is stored, since one above 31 is refused
  module _ {event : ℕ} (place : event ≡ byte_at rest 1 % 32) where
    pub gate_reached : byte_at rest 0 ≡ 6 → (old : EventGate) {masks : Masks} {gate : EventGate}
        → GateStored rest counts j.probes.masks masks (get_or j.probes.gates event old) gate number
        → Reached rest j number (with_probes (record {
          masks = masks;
          gates = set j.probes.gates event gate;
          extents = j.probes.extents;
        }))
    unfolding after_record bounds_after state_after column_after probes_after with_gate gate_in
    gate_reached is old r =
        let tested = r.tested j.state in
        record {
          tested = tested;
          stored = λ z.
              let at = place ∙ below_32 (gate_event rest j.probes.masks is (clear rest counts j.probes.masks j.state (sym tested ∙ z)).probe) in
              simp (r.masks, r.gate, z, is, at);
          kept = λ h. rw (r.masks, r.gate, ne_eqb number 0 (refused is (omega arith) h), set-get_or j.probes.gates event old) refl;
        }

    pub capture_reached : byte_at rest 0 ≡ 5 → event < length j.probes.gates → event < length j.probes.extents
        → (by : EventGate) (old : Extent) {masks : Masks} {extent : Extent}
        → CaptureStored rest counts (get_or j.probes.gates event by) j.probes.masks masks (get_or j.probes.extents event old) extent number
        → Reached rest j number (with_probes (record {
          masks = masks;
          gates = j.probes.gates;
          extents = set j.probes.extents event extent;
        }))
    unfolding after_record bounds_after state_after column_after probes_after with_capture capture_in
    capture_reached is in_gates in_extents by old r =
        let tested = r.tested j.state in
        record {
          tested = tested;
          stored = λ z.
              let at = place ∙ below_32 (capture_event rest j.probes.masks is (clear rest counts j.probes.masks j.state (sym tested ∙ z)).probe) in
              let gate = same_element j.probes.gates (byte_at rest 1) by no_gate (omega (arith, at, in_gates)) in
              let extent = same_element j.probes.extents (byte_at rest 1) old no_extent (omega (arith, at, in_extents)) in
              simp (r.masks, r.extent, z, is, at, gate, extent);
          kept = λ h. rw (r.masks, r.extent, ne_eqb number 0 (refused is (omega arith) h), set-get_or j.probes.extents event old) refl;
        }

  pub range_reached : byte_at rest 0 ≡ 3 → {bounds : List ℕ} → RangeRead rest counts j.bounds bounds number
      → Reached rest j number (record {
        counts = counts;
        bounds = bounds;
        state = j.state;
        clocks = j.clocks;
        known = j.known;
        values = j.values;
        probes = j.probes;
      })
  unfolding after_record bounds_after state_after column_after probes_after
  range_reached is r = record {
    tested = r.tested j.probes.masks j.state;
    stored = λ z. simp (r.bounds, z, is);
    kept = λ h. simp (r.bounds, ne_eqb number 0 (refused is (omega arith) h));
  }

  -- of a family, or a host write
  pub state_reached : (k : ℕ) → byte_at rest 0 ≡ k → 0 < k → StateKind k → {s : State} → number ≡ refusal_of rest counts j.probes.masks j.state
      → s ≡ unless_refused number (state_after (byte_at rest 0) rest j.state) j.state
      → Reached rest j number (record {
        counts = counts;
        bounds = j.bounds;
        state = s;
        clocks = j.clocks;
        known = j.known;
        values = j.values;
        probes = j.probes;
      })
  unfolding after_record bounds_after column_after probes_after
  state_reached k is some alone t e = record {
    tested = t;
    stored = λ z. simp (e, z, is, alone.row, alone.range, alone.gate, alone.capture);
    kept = λ h. simp (e, ne_eqb number 0 (refused is some h));
  }

  -- of an end, or a kind that there is not
  pub none_reached : Storeless (byte_at rest 0) → number ≡ refusal_of rest counts j.probes.masks j.state → Reached rest j number j
  unfolding after_record bounds_after state_after column_after probes_after
  none_reached none t =
      let k = byte_at rest 0 in
      record {
        tested = t;
        stored = λ z.
            simp (
              ne_eqb k 6 none.gate,
              ne_eqb k 5 none.capture,
              ne_eqb k 4 none.family,
              ne_eqb k 3 none.range,
              ne_eqb k 2 none.write,
              ne_eqb k 1 none.row,
            );
        kept = λ h. refl;
      }

  pub end_reached : byte_at rest 0 ≡ 0 → number ≡ refusal_of rest counts j.probes.masks j.state → Reached rest j number j
  end_reached is t =
      let other : (k : ℕ) → 0 < k → byte_at rest 0 ≡ k → ⊥ = λ k some e. omega arith in
      none_reached (record {
        gate = other 6 (omega arith);
        capture = other 5 (omega arith);
        family = other 4 (omega arith);
        range = other 3 (omega arith);
        write = other 2 (omega arith);
        row = other 1 (omega arith);
      }) t
