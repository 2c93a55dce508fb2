use Rattle.std.proofs.Common.{rules, Result, Ok, Err}
use Rattle.std.specs.Result.{is_err}
use Prim.Native.Nat.{ℕ, suc, ◌+◌, ◌-◌, ◌≤◌, ◌<◌}
use mathlib.Core.Bool.{true, false, false≢true}
use mathlib.Core.Path.{◌≡◌, refl, ap, sym, subst, ◌∙◌}
use mathlib.Core.List.{List}
use native.Mathlib.Omega.{arith}
use borrow.Author.Tests.{eqb-false}
use lib.ListN.{length, take, drop, replicate, length-drop}
use Rattle.host_registers.specs.declared.access.Access.{Access}
use Rattle.event_log.specs.Log.{log_of}
use Rattle.machine_state.specs.declared.state.State.{State}
use Rattle.words.specs.Numbers.{byte_at}
use Rattle.job_records.specs.Inside.{RecordsRead}
use Rattle.job_records.specs.Kinds.{byte_of}
use Rattle.job_records.specs.Number.{refusal_number, refused_number}
use Rattle.job_records.specs.Records.{kind_of}
use Rattle.job_records.specs.Job.{counted, empty_job, after_record}
use Rattle.job_records.specs.Reader.{max_bytes, CountsWithin, read_at, read_in}
use Rattle.job_records.specs.declared.contents.Counts.{Counts}
use Rattle.job_records.specs.declared.contents.Job.{Job}
use Rattle.job_records.specs.declared.kinds.Kind.{Kind}
use Rattle.job_records.specs.declared.refusal.Refusal.{Refusal}
use Rattle.probe_captures.specs.declared.extents.Extent.{Extent}
use Rattle.probe_captures.specs.declared.gates.EventGate.{EventGate}
use Rattle.probe_captures.specs.declared.masks.Masks.{Masks}
use Rattle.job_records.proofs.Clear.{Clear, clear, end_started, end_used_up}
use Rattle.job_records.proofs.Counting.{counts_empty, counts_on}
use Rattle.job_records.proofs.Growth.{Going, going_empty, going_on, going_sound}
use Rattle.job_records.proofs.KindTests.{NoKind, no_kind, numbered}
use Rattle.job_records.proofs.Reading.{from, read_next, read_stop, with_counts}
use Rattle.job_records.proofs.Reading.{StateKind, storeless, Reached, row_reached, range_reached, state_reached, gate_reached, capture_reached}
use Rattle.job_records.proofs.Reading.{end_reached, none_reached}
use Rattle.job_records.proofs.Starting.{started}
use Rattle.job_records.proofs.jobs.read_records.Invariants.{Inv, from_start, probes_of, job_of}
use Rattle.job_records.proofs.jobs.read_records.Goals.{in-Family, in-Range, in-HostWrite, in-Gate, in-Capture, in-Row}
use Rattle.job_records.proofs.jobs.read_records.Goals as goal

of_state_4 : StateKind 4
of_state_4 = record { gate = refl; capture = refl; range = refl; row = refl }

of_state_2 : StateKind 2
of_state_2 = record { gate = refl; capture = refl; range = refl; row = refl }

-- no kind starts with a byte above 6
no_kind_above : {kind : ℕ} → 6 < kind → NoKind kind
no_kind_above above = record {
  gate = λ e. omega arith;
  capture = λ e. omega arith;
  family = λ e. omega arith;
  range = λ e. omega arith;
  write = λ e. omega arith;
  row = λ e. omega arith;
  end = λ e. omega arith;
}

-- an outcome has number 0 where it is no refusal, and only there
refused_some : (o : Result Unit Refusal) → is_err o ≡ true → refused_number o ≡ 0 → ⊥
refused_some (Ok done) e z = false≢true e
refused_some (Err why) e z = eqb-false (refusal_number why) 0 (numbered why) z

refused_none : (o : Result Unit Refusal) → is_err o ≡ false → refused_number o ≡ 0
refused_none (Ok done) e = refl
refused_none (Err why) e = absurd (false≢true (sym e))

-- the same of variables that are equal, and of the bytes as they are lent; and the record is no end
module _ {given rest : List ℕ} {j : Job} (same : given ≡ rest) where
  turned : {b b' : List ℕ} {s s' : State} {k k' n n' v v' : List ℕ} {e e' : Masks} {g g' : List EventGate} {x x' : List Extent}
      {o o' : Result Unit Refusal} {kind : ℕ}
      → b ≡ b' → s ≡ s' → k ≡ k' → n ≡ n' → v ≡ v' → e ≡ e' → g ≡ g' → x ≡ x' → o ≡ o' → byte_at given 0 ≡ kind → 0 < kind
      → Reached given j (refused_number o') (job_of j.counts b' s' (log_of k' n' v') (probes_of e' g' x'))
      → Reached rest j (refused_number o) (job_of j.counts b s (log_of k n v) (probes_of e g x)) × (byte_at rest 0 ≡ 0 → ⊥)
  turned b s k n v e g x o is some r =
      (rw (b, s, k, n, v, e, g, x, o, ← same) r, λ z. let never : ⊥ = omega (arith, is, some, ap (λ (r : List ℕ). byte_at r 0) same, z) in never)

-- what is promised where reading stops
stops : (input : List ℕ) (at : ℕ) (job : Job) (number : ℕ) {after : Job} → Inv input at job → length input ≤ max_bytes
    → Reached (drop at input) job number after → (number ≡ 0 → byte_at (drop at input) 0 ≡ 0) → RecordsRead input (read_at number at after)
stops input at job number inv short reached ends =
    let rest : List ℕ = drop at input in
    let kept = reached.kept ends in
    let fuel = inv.3 in
    let within : CountsWithin max_bytes job.probes = λ event. omega (arith, inv.2 event, inv.0, short) in
    let passed : number ≡ 0 → Clear rest job.counts job.probes.masks job.state = λ z. clear rest job.counts job.probes.masks job.state (sym reached.tested
    ∙ z) in
    subst (λ (j : Job). RecordsRead input (read_at number at j)) (sym kept) (record {
      answered = read_stop input at job (from_start input) number fuel.0 inv.0 fuel.1 reached.tested ends fuel.2;
      sound = going_sound job inv.1 within;
      started = λ z. started job inv.1 (end_started rest job.state (passed z).end (ends z));
      used_up = λ z. end_used_up rest job.probes.masks (passed z).probe (ends z);
    })

-- where it goes on, what holds holds of the next record
goes_on : (input : List ℕ) (at : ℕ) (job : Job) {after : Job} {number body : ℕ} {more : Counts} → Inv input at job → number ≡ 0
    → Reached (drop at input) job number after → (byte_at (drop at input) 0 ≡ 0 → ⊥) → body ≡ (kind_of job.counts (byte_at (drop at input) 0)).body
    → more ≡ counted (byte_at (drop at input) 0) job.counts → Inv input (at + (1 + body)) (with_counts after more)
goes_on input at job {after} {number} {body} {more} inv none reached on body_is counts =
    let rest : List ℕ = drop at input in
    let fuel = inv.3 in
    let clear_of : Clear rest job.counts job.probes.masks job.state = clear rest job.counts job.probes.masks job.state (sym reached.tested ∙ none) in
    let e : with_counts after more ≡ after_record rest job = ap (with_counts after) counts ∙ reached.stored none in
    let next = read_next input at job (from_start input) fuel.0 inv.0 fuel.1 (sym reached.tested ∙ none) on fuel.2 in
    let later : ℕ = at + (1 + (kind_of job.counts (byte_at rest 0)).body) in
    rw body_is (
      omega (arith, clear_of.whole, length-drop at input, inv.0),
      subst Going (sym e) (going_on rest job clear_of inv.1),
      subst (λ (j : Job). CountsWithin later j.probes) (sym e) (counts_on rest job at later (omega arith) inv.2),
      (next.0, next.1, ap (read_in next.0 input later) e ∙ next.2),
    )

pub loop-kind-init : goal.loop-kind-init
unfolding empty_job
loop-kind-init c =
    let bytes = c.args.bytes.now in
    let probes = c.no_probes-none.result in
    let e : job_of c.no_counts-counts.result (replicate 128 0) c.fresh_state.result.state
    (log_of (replicate 1024 0) (replicate 1024 0) (replicate 1024 0)) (probes_of probes.masks probes.gates probes.extents)
    ≡ empty_job = simp (c.no_counts-counts.ensures, ap (λ (a : Access). a.state) c.fresh_state.ensures.answered, c.no_probes-none.ensures) in (
      search rules,
      subst Going (sym e) going_empty,
      subst (λ (j : Job). CountsWithin 0 j.probes) (sym e) (counts_empty 0),
      (suc (length bytes), omega arith, ap (read_in (suc (length bytes)) bytes 0) e),
    )

pub loop-kind-preserved : goal.loop-kind-preserved
loop-kind-preserved c =
    let input : List ℕ = c.args.bytes.now in
    let at = c.loop-kind.at in
    let rest : List ℕ = drop at input in
    let lent : List ℕ = take (length input - at) rest in
    let same = from input at in
    let job : Job = job_of c.loop-kind.counts c.loop-kind.bounds c.loop-kind.state
    (log_of c.loop-kind.clocks c.loop-kind.known c.loop-kind.values) (probes_of c.loop-kind.masks c.loop-kind.gates c.loop-kind.extents) in
    let m = c.match-kind in
    let after : Job = job_of c.loop-kind.counts m.bounds m.state (log_of m.clocks m.known m.values)
    (probes_of m.masks m.gates m.extents) in
    let size = c.loop-kind.invariant.1.size in
    let is = sym (c.in-Ok.ensures ∙ c.byte_at.ensures) in
    let turn : Reached rest job (refused_number m.outcome) after × (byte_at rest 0 ≡ 0 → ⊥) =
    elim m.branch [
      | in-Family w ↦ turned same w.bounds-is w.state-is w.clocks-is w.known-is w.values-is w.masks-is w.gates-is w.extents-is
          w.outcome-is
          (is ∙ ap byte_of w.in-Family.is) (omega arith)
          (state_reached lent job _ 4 (is ∙ ap byte_of w.in-Family.is) (omega arith) of_state_4 (w.read_family-outcome.ensures.tested job.probes.masks)
          w.read_family-outcome.ensures.state)
      | in-Range w ↦ turned same w.bounds-is w.state-is w.clocks-is w.known-is w.values-is w.masks-is w.gates-is w.extents-is
          w.outcome-is
          (is ∙ ap byte_of w.in-Range.is) (omega arith)
          (range_reached lent job _ (is ∙ ap byte_of w.in-Range.is) w.read_range-outcome.ensures)
      | in-HostWrite w ↦ turned same w.bounds-is w.state-is w.clocks-is w.known-is w.values-is w.masks-is w.gates-is w.extents-is
          w.outcome-is
          (is ∙ ap byte_of w.in-HostWrite.is) (omega arith)
          (state_reached lent job _ 2 (is ∙ ap byte_of w.in-HostWrite.is) (omega arith) of_state_2 (w.read_write-outcome.ensures.tested job.probes.masks)
          w.read_write-outcome.ensures.state)
      | in-Gate w ↦ turned same w.bounds-is w.state-is w.clocks-is w.known-is w.values-is w.masks-is w.gates-is w.extents-is
          w.outcome-is
          (is ∙ ap byte_of w.in-Gate.is) (omega arith)
          (gate_reached lent job _ w.event-event.ensures.value (is ∙ ap byte_of w.in-Gate.is) _ w.read_gate-outcome.ensures)
      | in-Capture w ↦ turned same w.bounds-is w.state-is w.clocks-is w.known-is w.values-is w.masks-is w.gates-is w.extents-is
          w.outcome-is
          (is ∙ ap byte_of w.in-Capture.is) (omega arith)
          (capture_reached lent job _ w.event-event-in-Capture.ensures.value (is ∙ ap byte_of w.in-Capture.is) (omega
          (arith, w.event-event-in-Capture.ensures.upper_bound, size.gates)) (omega (
            arith,
            w.event-event-in-Capture.ensures.upper_bound,
            size.extents,
          )) _ _ w.read_capture-outcome.ensures)
      | in-Row w ↦ turned same w.bounds-is w.state-is w.clocks-is w.known-is w.values-is w.masks-is w.gates-is w.extents-is
          w.outcome-is
          (is ∙ ap byte_of w.in-Row.is) (omega arith)
          (row_reached lent job _ (is ∙ ap byte_of w.in-Row.is) w.read_row-outcome.ensures)
    ] in
    let kind : byte_of c.in-Ok.kind ≡ byte_at rest 0 = sym is ∙ ap (λ (r : List ℕ). byte_at r 0) same in
    goes_on input at job c.loop-kind.invariant (refused_none m.outcome (sym c.is_err.ensures.value ∙ c.if-is_err.false)) turn.0 turn.1
    (ap (λ (k : Kind). k.body) (c.kind_of.ensures.value ∙ ap (kind_of c.loop-kind.counts) kind))
    (c.counted-counts.ensures ∙ ap (λ (k : ℕ). counted k c.loop-kind.counts) kind)

pub returns-in_default : goal.returns-in_default
returns-in_default c =
    let input : List ℕ = c.args.bytes.now in
    let at = c.loop-kind.at in
    let rest : List ℕ = drop at input in
    let lent : List ℕ = take (length input - at) rest in
    let same = from input at in
    let job : Job = job_of c.loop-kind.counts c.loop-kind.bounds c.loop-kind.state
    (log_of c.loop-kind.clocks c.loop-kind.known c.loop-kind.values) (probes_of c.loop-kind.masks c.loop-kind.gates c.loop-kind.extents) in
    let unnamed = no_kind_above (subst (λ (n : ℕ). 6 < n) c.byte_at.ensures c.in_default.ensures) in
    let r = none_reached lent job 21 (storeless unnamed) (no_kind lent c.loop-kind.counts unnamed c.loop-kind.masks job.state) in
    stops input at job 21 c.loop-kind.invariant c.requires (subst (λ (b : List ℕ). Reached b job 21 job) same r)
    (λ z. absurd (let never : ⊥ = omega (arith, z) in never))

pub returns-in-End : goal.returns-in-End
returns-in-End c =
    let input : List ℕ = c.args.bytes.now in
    let at = c.loop-kind.at in
    let rest : List ℕ = drop at input in
    let lent : List ℕ = take (length input - at) rest in
    let same = from input at in
    let job : Job = job_of c.loop-kind.counts c.loop-kind.bounds c.loop-kind.state
    (log_of c.loop-kind.clocks c.loop-kind.known c.loop-kind.values) (probes_of c.loop-kind.masks c.loop-kind.gates c.loop-kind.extents) in
    let is : byte_at lent 0 ≡ 0 = sym (c.in-Ok.ensures ∙ c.byte_at.ensures) ∙ ap byte_of c.in-End.is in
    let number = refused_number c.read_end-outcome.result in
    let r = end_reached lent job number is c.read_end-outcome.ensures in
    stops input at job number c.loop-kind.invariant c.requires (subst (λ (b : List ℕ). Reached b job number job) same r)
    (λ _. sym (ap (λ (b : List ℕ). byte_at b 0) same) ∙ is)

pub returns-then-is_err : goal.returns-then-is_err
returns-then-is_err c =
    let input : List ℕ = c.args.bytes.now in
    let at = c.loop-kind.at in
    let rest : List ℕ = drop at input in
    let lent : List ℕ = take (length input - at) rest in
    let same = from input at in
    let job : Job = job_of c.loop-kind.counts c.loop-kind.bounds c.loop-kind.state
    (log_of c.loop-kind.clocks c.loop-kind.known c.loop-kind.values) (probes_of c.loop-kind.masks c.loop-kind.gates c.loop-kind.extents) in
    let m = c.match-kind in
    let after : Job = job_of c.loop-kind.counts m.bounds m.state (log_of m.clocks m.known m.values)
    (probes_of m.masks m.gates m.extents) in
    let size = c.loop-kind.invariant.1.size in
    let is = sym (c.in-Ok.ensures ∙ c.byte_at.ensures) in
    let turn : Reached rest job (refused_number m.outcome) after × (byte_at rest 0 ≡ 0 → ⊥) =
    elim m.branch [
      | in-Family w ↦ turned same w.bounds-is w.state-is w.clocks-is w.known-is w.values-is w.masks-is w.gates-is
          w.extents-is w.outcome-is
          (is ∙ ap byte_of w.in-Family.is) (omega arith)
          (state_reached lent job _ 4 (is ∙ ap byte_of w.in-Family.is) (omega arith) of_state_4
          (w.read_family-outcome.ensures.tested job.probes.masks) w.read_family-outcome.ensures.state)
      | in-Range w ↦ turned same w.bounds-is w.state-is w.clocks-is w.known-is w.values-is w.masks-is w.gates-is
          w.extents-is w.outcome-is
          (is ∙ ap byte_of w.in-Range.is) (omega arith)
          (range_reached lent job _ (is ∙ ap byte_of w.in-Range.is) w.read_range-outcome.ensures)
      | in-HostWrite w ↦ turned same w.bounds-is w.state-is w.clocks-is w.known-is w.values-is w.masks-is w.gates-is
          w.extents-is w.outcome-is
          (is ∙ ap byte_of w.in-HostWrite.is) (omega arith)
          (state_reached lent job _ 2 (is ∙ ap byte_of w.in-HostWrite.is) (omega arith) of_state_2
          (w.read_write-outcome.ensures.tested job.probes.masks) w.read_write-outcome.ensures.state)
      | in-Gate w ↦ turned same w.bounds-is w.state-is w.clocks-is w.known-is w.values-is w.masks-is w.gates-is
          w.extents-is w.outcome-is
          (is ∙ ap byte_of w.in-Gate.is) (omega arith)
          (gate_reached lent job _ w.event-event.ensures.value (is ∙ ap byte_of w.in-Gate.is) _ w.read_gate-outcome.ensures)
      | in-Capture w ↦ turned same w.bounds-is w.state-is w.clocks-is w.known-is w.values-is w.masks-is w.gates-is
          w.extents-is w.outcome-is
          (is ∙ ap byte_of w.in-Capture.is) (omega arith)
          (capture_reached lent job _ w.event-event-in-Capture.ensures.value (is ∙ ap byte_of w.in-Capture.is) (omega
          (arith, w.event-event-in-Capture.ensures.upper_bound, size.gates)) (omega (
            arith,
            w.event-event-in-Capture.ensures.upper_bound,
            size.extents,
          )) _ _ w.read_capture-outcome.ensures)
      | in-Row w ↦ turned same w.bounds-is w.state-is w.clocks-is w.known-is w.values-is w.masks-is w.gates-is
          w.extents-is w.outcome-is
          (is ∙ ap byte_of w.in-Row.is) (omega arith)
          (row_reached lent job _ (is ∙ ap byte_of w.in-Row.is) w.read_row-outcome.ensures)
    ] in
    stops input at job (refused_number m.outcome) c.loop-kind.invariant c.requires turn.0
    (λ z. absurd (refused_some m.outcome (sym c.is_err.ensures.value ∙ c.if-is_err.true) z))
