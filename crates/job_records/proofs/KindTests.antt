-- The listing of one kind: the tests that every kind has, then its own. Assumes nothing.
use Prim.Native.Nat.{ℕ, ◌+◌, ◌*◌, ◌≤◌, ◌<◌}
use mathlib.Core.Path.{◌≡◌, refl, ap, sym, ◌∙◌}
use mathlib.Core.Bool.{Bool, true, false, cond, not, or-true}
use mathlib.Core.List.{List}
use Rattle.std.specs.Prelude.{Result, Ok, Err}
use Rattle.refusals.specs.declared.refusals.Inaccessible.{Inaccessible}
use native.Mathlib.Omega.{arith}
use lib.Dec.{ltb, eqb}
use lib.ListN.{length, drop, set}
use borrow.Author.Tests.{ltb-false, leb-false, eqb-false, ne_eqb}
use Rattle.families.specs.Family.{known_family}
use Rattle.machine_execution.specs.Execution.{some_slot_executes}
use Rattle.event_log.specs.Validity.{clocks_in_range}
use Rattle.host_registers.specs.Access.{fresh_of, write_of}
use Rattle.host_registers.specs.Promises.{outcome_number, Unmoved, WritesInPlace}
use Rattle.host_registers.specs.declared.access.Access.{Access}
use Rattle.machine_state.specs.declared.state.State.{State}
use Rattle.job_records.specs.Inside.{Tested, shape_number, unless_refused, write_tests, StateStored}
use Rattle.job_records.specs.Job.{state_after, bounds_after, column_after}
use Rattle.job_records.specs.Number.{refusal_number}
use Rattle.job_records.specs.declared.refusal.Refusal.{Refusal}
use Rattle.job_records.specs.Records.{kind_of, is_out_of_order}
use Rattle.job_records.specs.Refusals.{is_unknown, is_cut_short, is_too_many, is_bad_family, is_bad_range, write_number, is_bad_row, is_bad_probe, is_unusable}
use Rattle.job_records.specs.Refusals.{has_bytes_after, ends_idle, listing, refusal_of}
use Rattle.probe_captures.specs.Masks.{is_bad_gate, is_bad_capture}
use Rattle.probe_captures.specs.Records.{gate_in}
use Rattle.probe_captures.specs.declared.masks.Masks.{Masks}
use Rattle.probe_gates.specs.Refusal.{usable_of}
use Rattle.refusals.specs.Listing.{Test, first_of}
use Rattle.words.specs.Numbers.{byte_at, word_at, long_at}
use Rattle.job_records.specs.declared.contents.Counts.{Counts}
use Rattle.job_records.specs.declared.kinds.Kind.{Kind}

-- the four tests, and what comes after them
abbrev shapes : Bool → Bool → Bool → Bool → ℕ → ℕ
shapes unknown short order many later = cond unknown 21 (cond short 20 (cond order 22 (cond many 23 later)))

refused : (a b c d : Bool) (later : ℕ) → (shapes a b c d 0 ≡ 0 → ⊥) → shapes a b c d 0 ≡ shapes a b c d later
refused true b c d later h = refl
refused false true c d later h = refl
refused false false true d later h = refl
refused false false false true later h = refl
refused false false false false later h = absurd (h refl)

record Passed (a b c d : Bool) : Type 0 where
  unknown : a ≡ false
  short : b ≡ false
  order : c ≡ false
  many : d ≡ false

passed : (a b c d : Bool) → shapes a b c d 0 ≡ 0 → Passed a b c d
passed true b c d e = absurd (let z : ⊥ = omega arith in z)
passed false true c d e = absurd (let z : ⊥ = omega arith in z)
passed false false true d e = absurd (let z : ⊥ = omega arith in z)
passed false false false true e = absurd (let z : ⊥ = omega arith in z)
passed false false false false e = record { unknown = refl; short = refl; order = refl; many = refl }

-- the tests that ask for a kind come after those four
abbrev own_tests : List ℕ → Counts → Masks → State → List Test
own_tests rest counts m s = drop 4 (listing rest counts m s)

-- no refusal has number 0
pub numbered : (why : Refusal) → eqb (refusal_number why) 0 ≡ false
numbered Refusal.Gate = refl
numbered Refusal.CutShort = refl
numbered Refusal.Unknown = refl
numbered Refusal.OutOfOrder = refl
numbered Refusal.TooMany = refl
numbered Refusal.BytesAfter = refl
numbered Refusal.Family = refl
numbered Refusal.Range = refl
numbered Refusal.Register = refl
numbered Refusal.Executing = refl
numbered Refusal.Clocks = refl
numbered Refusal.TooLong = refl
numbered Refusal.Idle = refl
numbered Refusal.Probe = refl

-- a record of this kind
module _ (rest : List ℕ) (counts : Counts) (k : ℕ) (is : byte_at rest 0 ≡ k) where
  abbrev kind : Kind
  kind = kind_of counts k

  abbrev shape : ℕ
  shape = shape_number rest k counts

  -- whose shape is at fault
  pub shape_refused : (shape ≡ 0 → ⊥) → (m : Masks) (s : State) → shape ≡ refusal_of rest counts m s
  unfolding refusal_of
  shape_refused h m s =
      rw is (refused (is_unknown rest kind) (is_cut_short rest kind) (is_out_of_order counts.rank kind) (is_too_many kind)
      (first_of (own_tests rest counts m s)) h)

  pub shape_told : (why : Refusal) → refusal_number why ≡ shape → Tested rest counts (refusal_number why)
  shape_told why e m s = e ∙ shape_refused (λ z. eqb-false (refusal_number why) 0 (numbered why) (e ∙ z)) m s

  -- or is not
  module _ (fine : shape ≡ 0) where
    tests : Passed (is_unknown rest kind) (is_cut_short rest kind) (is_out_of_order counts.rank kind) (is_too_many kind)
    tests = passed (is_unknown rest kind) (is_cut_short rest kind) (is_out_of_order counts.rank kind) (is_too_many kind) fine

    pub whole_body : 1 + kind.body ≤ length rest
    unfolding is_cut_short
    whole_body = ltb-false _ _ tests.short

    pub has_room : kind.read < kind.most
    unfolding is_too_many
    has_room = leb-false _ _ tests.many

    own : (m : Masks) (s : State) → refusal_of rest counts m s ≡ first_of (own_tests rest counts m s)
    unfolding refusal_of
    own m s = rw (is, tests.unknown, tests.short, tests.order, tests.many)

-- a kind that there is not
pub record NoKind (kind : ℕ) : Type 0 where
  pub gate : kind ≡ 6 → ⊥
  pub capture : kind ≡ 5 → ⊥
  pub family : kind ≡ 4 → ⊥
  pub range : kind ≡ 3 → ⊥
  pub write : kind ≡ 2 → ⊥
  pub row : kind ≡ 1 → ⊥
  pub end : kind ≡ 0 → ⊥

pub no_kind : (rest : List ℕ) (counts : Counts) → NoKind (byte_at rest 0) → (m : Masks) (s : State) → 21 ≡ refusal_of rest counts m s
unfolding refusal_of is_unknown kind_of
no_kind rest counts none m s =
    let k = byte_at rest 0 in
    simp (
      ne_eqb k 6 none.gate,
      ne_eqb k 5 none.capture,
      ne_eqb k 4 none.family,
      ne_eqb k 3 none.range,
      ne_eqb k 2 none.write,
      ne_eqb k 1 none.row,
      ne_eqb k 0 none.end,
      or-true,
    )

-- ---- what each kind is asked beside its shape

module _ (rest : List ℕ) (counts : Counts) where
  module _ (is : byte_at rest 0 ≡ 4) (fine : shape_number rest 4 counts ≡ 0) where
    pub family_fits : 2 ≤ length rest
    unfolding kind_of
    family_fits = whole_body rest counts 4 is fine

    pub family_own : (m : Masks) (s : State) → refusal_of rest counts m s ≡ cond (not (known_family (byte_at rest 1))) 25 0
    unfolding is_bad_family is_bad_range write_number is_bad_row is_bad_probe is_unusable has_bytes_after ends_idle
    family_own m s = rw (own rest counts 4 is fine m s, is) refl

  module _ (is : byte_at rest 0 ≡ 3) (fine : shape_number rest 3 counts ≡ 0) where
    pub range_fits : (9 ≤ length rest) × (counts.ranges < 64)
    unfolding kind_of
    range_fits = (whole_body rest counts 3 is fine, has_room rest counts 3 is fine)

    pub range_own : (m : Masks) (s : State) → refusal_of rest counts m s ≡ cond (ltb (word_at rest 5) (word_at rest 1)) 26 0
    unfolding is_bad_family is_bad_range write_number is_bad_row is_bad_probe is_unusable has_bytes_after ends_idle
    range_own m s = rw (own rest counts 3 is fine m s, is) refl

  module _ (is : byte_at rest 0 ≡ 2) (fine : shape_number rest 2 counts ≡ 0) where
    pub write_fits : 9 ≤ length rest
    unfolding kind_of
    write_fits = whole_body rest counts 2 is fine

    pub write_own : (m : Masks) (s : State)
        → let n = outcome_number (write_of s (record { 0 = word_at rest 1 }) (word_at rest 5)).outcome in
        refusal_of rest counts m s ≡ cond (eqb n 27) 27 (cond (eqb n 28) 28 0)
    unfolding is_bad_family is_bad_range write_number is_bad_row is_bad_probe is_unusable has_bytes_after ends_idle
    write_own m s = rw (own rest counts 2 is fine m s, is) refl

  module _ (is : byte_at rest 0 ≡ 6) (fine : shape_number rest 6 counts ≡ 0) where
    pub gate_own : (m : Masks) (s : State) → refusal_of rest counts m s
        ≡ cond (is_bad_gate (byte_at rest 1) (byte_at rest 2) m) 33 (cond (not (usable_of (gate_in rest).gate (gate_in rest).calibration)) 16 0)
    unfolding is_bad_family is_bad_range write_number is_bad_row is_bad_probe is_unusable has_bytes_after ends_idle
    gate_own m s = rw (own rest counts 6 is fine m s, is) refl

  module _ (is : byte_at rest 0 ≡ 5) (fine : shape_number rest 5 counts ≡ 0) where
    pub capture_own : (m : Masks) (s : State) → refusal_of rest counts m s ≡ cond (is_bad_capture (byte_at rest 1) m) 33 0
    unfolding is_bad_family is_bad_range write_number is_bad_row is_bad_probe is_unusable has_bytes_after ends_idle
    capture_own m s = rw (own rest counts 5 is fine m s, is) refl

  module _ (is : byte_at rest 0 ≡ 1) (fine : shape_number rest 1 counts ≡ 0) where
    pub row_fits : (17 ≤ length rest) × (counts.rows < 1024)
    unfolding kind_of
    row_fits = (whole_body rest counts 1 is fine, has_room rest counts 1 is fine)

    pub row_own : (m : Masks) (s : State) → refusal_of rest counts m s ≡ cond (not (clocks_in_range (long_at rest 1))) 30 0
    unfolding is_bad_family is_bad_range write_number is_bad_row is_bad_probe is_unusable has_bytes_after ends_idle
    row_own m s = rw (own rest counts 1 is fine m s, is) refl

  module _ (is : byte_at rest 0 ≡ 0) (fine : shape_number rest 0 counts ≡ 0) where
    pub end_own : (m : Masks) (s : State) → refusal_of rest counts m s
        ≡ cond (not (eqb m.captured 0)) 33 (cond (ltb 1 (length rest)) 24 (cond (not (some_slot_executes s)) 32 0))
    unfolding is_bad_family is_bad_range write_number is_bad_row is_bad_probe is_unusable has_bytes_after ends_idle
    end_own m s = rw (own rest counts 0 is fine m s, is) refl

-- ---- what is stored

-- a refused record stores nothing
pub unstored : {A : Type 0} (why : Refusal) (stored before : A) → before ≡ unless_refused (refusal_number why) stored before
unstored why stored before = rw (numbered why)

pub row_stored : (rest column : List ℕ) (n entry : ℕ) {word : ℕ} → byte_at rest 0 ≡ 1 → word ≡ entry
    → set column n word ≡ column_after (byte_at rest 0) n entry column
unfolding column_after
row_stored rest column n entry is e = rw (is, e)

pub range_stored : (rest bounds : List ℕ) (n : ℕ) {first last : ℕ} → byte_at rest 0 ≡ 3 → first ≡ word_at rest 1 → last ≡ word_at rest 5
    → set (set bounds (2 * n) first) (2 * n + 1) last ≡ bounds_after (byte_at rest 0) rest n bounds
unfolding bounds_after
range_stored rest bounds n is f l = rw (is, f, l)

pub family_stored : (rest : List ℕ) (s : State) → byte_at rest 0 ≡ 4 → {fresh : Access} → fresh ≡ fresh_of (byte_at rest 1)
    → fresh.state ≡ state_after (byte_at rest 0) rest s
unfolding state_after
family_stored rest s is e = rw (e, is)

-- a refused write leaves the state as it is
unmoved_as : (s t : State) (outcome : Result Unit Inaccessible) → Unmoved s t outcome → (outcome_number outcome ≡ 0 → ⊥) → t ≡ s
unmoved_as s t (Ok tt) u h = absurd (h refl)
unmoved_as s t (Err why) u h = u

module _ (rest : List ℕ) (s : State) (is : byte_at rest 0 ≡ 2) {address word number : ℕ} {answer : Access}
    (a : address ≡ word_at rest 1) (w : word ≡ word_at rest 5) (made : WritesInPlace s (record { 0 = address }) word answer)
    (e : number ≡ write_tests (outcome_number answer.outcome)) where
  answered : answer ≡ write_of s (record { 0 = word_at rest 1 }) (word_at rest 5)
  answered = made.answered ∙ rw (a, w)

  write_stored : answer.state ≡ unless_refused number (state_after (byte_at rest 0) rest s) s
  unfolding state_after
  write_stored = by (eqb number 0) refl
    where
      by : (taken : Bool) → eqb number 0 ≡ taken → answer.state ≡ unless_refused number (state_after (byte_at rest 0) rest s) s
      by true t = rw (t, is) (ap (λ (x : Access). x.state) answered)
      by false t = rw t (unmoved_as s answer.state answer.outcome made.unmoved (λ z. eqb-false number 0 t (rw z at e)))

  pub write_read : (counts : Counts) → shape_number rest 2 counts ≡ 0 → StateStored rest counts s answer.state number
  write_read counts fine = record {
    tested = λ m. e ∙ ap (λ (x : Access). write_tests (outcome_number x.outcome)) answered ∙ sym (write_own rest counts is fine m s);
    state = write_stored;
  }
