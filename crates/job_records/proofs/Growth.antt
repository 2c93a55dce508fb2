-- What a job holds after one more record. Assumes nothing.
use Prim.Native.Nat.{ℕ, suc, ◌*◌, ◌≤◌, ◌<◌}
use mathlib.Core.Path.{◌≡◌, refl, subst, ◌∙◌}
use mathlib.Core.Bool.{Bool, true, false, not, ◌&&◌, false≢true}
use mathlib.Core.List.{List, [], ◌∷◌, ◌++◌, append_assoc}
use native.Mathlib.Numerals.{add-one}
use native.Mathlib.Omega.{arith}
use lib.Dec.{leb, ltb, eqb}
use lib.ListN.{length, take, set, length-set, length-replicate}
use lib.Seq.{take-suc-set, length-take-le}
use borrow.Author.Tests.{eqb-true, eqb-false, eq-eqb, ne_eqb, le-leb, ltb-false, not-false}
use Rattle.families.proofs.Tests.{cond_elim, both_left, both_right}
use Rattle.host_registers.proofs.HostMade.{HostMade, fresh_made, write_made}
use Rattle.event_log.specs.Validity.{clocks_in_range, rows_in_range, valid_log}
use Rattle.script.specs.Input.{ranges_paired}
use Rattle.machine_state.specs.declared.state.State.{State}
use Rattle.job_records.specs.Job.{CountsFit, one_more_of, counted, empty_job, state_after, bounds_after, column_after, probes_after, after_record}
use Rattle.job_records.specs.Job.{ranges_of, clocks_of, known_of, values_of}
use Rattle.job_records.specs.Reader.{max_bytes, GatesStand, CountsWithin, Sound}
use Rattle.job_records.specs.Records.{kind_of}
use Rattle.job_records.specs.Refusals.{is_bad_range, is_bad_row}
use Rattle.words.specs.Numbers.{byte_at, word_at, long_at}
use Rattle.probe_captures.specs.Masks.{row_known, row_values}
use Rattle.probe_captures.specs.Probes.{no_gate, no_extent, no_probes, extent_at, with_gate, with_capture, with_row, ProbesHold}
use Rattle.probe_captures.specs.Records.{gate_in, capture_in}
use Rattle.probe_captures.proofs.ProbeLaws.{hold_none, hold_gate, hold_capture, hold_row}
use Rattle.probe_captures.specs.declared.probes.Probes.{Probes}
use Rattle.job_records.specs.declared.contents.Counts.{Counts}
use Rattle.job_records.specs.declared.contents.Job.{Job}
use Rattle.job_records.proofs.Clear.{Clear}
use Rattle.job_records.specs.Inside.{HasRoom}
use Rattle.job_records.proofs.Counting.{exact_below}
use Rattle.job_records.proofs.Gating.{gates_empty, gates_after}

-- ---- counts

more_fits : (wanted kind n most : ℕ) → n ≤ most → (kind ≡ wanted → n < most) → one_more_of wanted kind n ≤ most
unfolding one_more_of
more_fits wanted kind n most h room = cond_elim (λ (m : ℕ). m ≤ most) (eqb kind wanted) (λ t. omega (arith, room (eqb-true kind wanted t))) (λ _. h)

-- room for one of a kind is room for that kind
module _ (kind : ℕ) (counts : Counts) (room : HasRoom kind counts) where
  room_at : (wanted : ℕ) → kind ≡ wanted → HasRoom wanted counts
  room_at wanted e = subst (λ (k : ℕ). HasRoom k counts) e room

  counts_fit : CountsFit counts → CountsFit (counted kind counts)
  unfolding kind_of
  counts_fit fit = record {
    families = more_fits 4 kind counts.families 1 fit.families (room_at 4);
    ranges = more_fits 3 kind counts.ranges 64 fit.ranges (room_at 3);
    writes = more_fits 2 kind counts.writes 512 fit.writes (room_at 2);
    rows = more_fits 1 kind counts.rows 1024 fit.rows (room_at 1);
  }

  pub range_room : kind ≡ 3 → counts.ranges < 64
  unfolding kind_of
  range_room e = room_at 3 e

  pub row_room : kind ≡ 1 → counts.rows < 1024
  unfolding kind_of
  row_room e = room_at 1 e

-- one more of its own kind, and of no other
one_more_is : (wanted kind n : ℕ) → kind ≡ wanted → one_more_of wanted kind n ≡ suc n
unfolding one_more_of
one_more_is wanted kind n is = rw (eq-eqb kind wanted is) (add-one n)

none_more : (wanted kind n : ℕ) → (kind ≡ wanted → ⊥) → one_more_of wanted kind n ≡ n
unfolding one_more_of
none_more wanted kind n other = rw (ne_eqb kind wanted other)

-- ---- the arrays' lengths

pub record Sizes (j : Job) : Type 0 where
  pub bounds : length j.bounds ≡ 128
  pub clocks : length j.clocks ≡ 1024
  pub known : length j.known ≡ 1024
  pub values : length j.values ≡ 1024
  pub gates : length j.probes.gates ≡ 32
  pub extents : length j.probes.extents ≡ 32

bounds_size : (kind : ℕ) (rest : List ℕ) (n : ℕ) (bounds : List ℕ) → length (bounds_after kind rest n bounds) ≡ length bounds
unfolding bounds_after
bounds_size kind rest n bounds = cond_elim (λ (b : List ℕ). length b ≡ length bounds) (eqb kind 3) (λ _. simp length-set) (λ _. refl)

column_size : (kind n entry : ℕ) (column : List ℕ) → length (column_after kind n entry column) ≡ length column
unfolding column_after
column_size kind n entry column = cond_elim (λ (c : List ℕ). length c ≡ length column) (eqb kind 1) (λ _. length-set column n entry) (λ _. refl)

gates_size : (kind : ℕ) (rest : List ℕ) (p : Probes) → length (probes_after kind rest p).gates ≡ length p.gates
unfolding probes_after with_gate with_capture with_row
gates_size kind rest p = cond_elim (λ (q : Probes). length q.gates ≡ length p.gates) (eqb kind 6) (λ _. length-set p.gates _ _)
    (λ _. cond_elim (λ (q : Probes). length q.gates ≡ length p.gates) (eqb kind 5) (λ _. refl)
    (λ _. cond_elim (λ (q : Probes). length q.gates ≡ length p.gates) (eqb kind 1) (λ _. refl) (λ _. refl)))

extents_size : (kind : ℕ) (rest : List ℕ) (p : Probes) → length (probes_after kind rest p).extents ≡ length p.extents
unfolding probes_after with_gate with_capture with_row
extents_size kind rest p = cond_elim (λ (q : Probes). length q.extents ≡ length p.extents) (eqb kind 6) (λ _. refl)
    (λ _. cond_elim (λ (q : Probes). length q.extents ≡ length p.extents) (eqb kind 5) (λ _. length-set p.extents _ _)
    (λ _. cond_elim (λ (q : Probes). length q.extents ≡ length p.extents) (eqb kind 1) (λ _. refl) (λ _. refl)))

-- ---- rows

row_more : (cs : List ℕ) (c : ℕ) → rows_in_range cs ≡ true → clocks_in_range c ≡ true → rows_in_range (cs ++ (c ∷ [])) ≡ true
row_more [] c h e = rw e
row_more (x ∷ cs) c h e =
    rw (both_left (clocks_in_range x) (rows_in_range cs) h, row_more cs c (both_right (clocks_in_range x) (rows_in_range cs) h) e)

good_row : (kind : ℕ) (clocks : ℕ) → kind ≡ 1 → (eqb kind 1 && not (clocks_in_range clocks)) ≡ false → clocks_in_range clocks ≡ true
good_row kind clocks e h = not-false (clocks_in_range clocks) (rw (eq-eqb kind 1 e) at h)

module _ (kind : ℕ) (rest : List ℕ) (j : Job) (size : Sizes j) (room : HasRoom kind j.counts) where
  rows_after : (eqb kind 1 && not (clocks_in_range (long_at rest 1))) ≡ false → rows_in_range (clocks_of j) ≡ true
      → rows_in_range (take (one_more_of 1 kind j.counts.rows) (column_after kind j.counts.rows (long_at rest 1) j.clocks)) ≡ true
  unfolding column_after
  rows_after good h = by (eqb kind 1) refl
    where
      n : ℕ
      n = j.counts.rows

      by : (is : Bool) → eqb kind 1 ≡ is → rows_in_range (take (one_more_of 1 kind n) (column_after kind n (long_at rest 1) j.clocks)) ≡ true
      by true e =
          let is = eqb-true kind 1 e in
          rw (e, one_more_is 1 kind n is, take-suc-set j.clocks n (long_at rest 1) (omega (arith, size.clocks, row_room kind j.counts room is)))
          (row_more (clocks_of j) (long_at rest 1) h (good_row kind (long_at rest 1) is good))
      by false e = rw (e, none_more 1 kind n (eqb-false kind 1 e)) h

-- ---- ranges

pair_more : (ranges : List ℕ) (first last : ℕ) → ranges_paired ranges ≡ true → first ≤ last → ranges_paired (ranges ++ (first ∷ last ∷ [])) ≡ true
pair_more [] first last h l = rw (le-leb first last l)
pair_more (a ∷ []) first last h l = absurd (false≢true h)
pair_more (a ∷ b ∷ ranges) first last h l =
    rw (both_left (leb a b) (ranges_paired ranges) h, pair_more ranges first last (both_right (leb a b) (ranges_paired ranges) h) l)

two_more : (l : List ℕ) (i a b : ℕ) → suc i < length l → take (suc (suc i)) (set (set l i a) (suc i) b) ≡ take i l ++ (a ∷ b ∷ [])
two_more l i a b h =
    take-suc-set (set l i a) (suc i) b (omega (arith, length-set l i a)) ∙ rw (take-suc-set l i a (omega arith)) (append_assoc (take i l) (a ∷ []) (b ∷ []))

good_range : (kind first last : ℕ) → kind ≡ 3 → (eqb kind 3 && ltb last first) ≡ false → first ≤ last
good_range kind first last is h = ltb-false last first (rw (eq-eqb kind 3 is) at h)

module _ (kind : ℕ) (rest : List ℕ) (j : Job) (size : Sizes j) (room : HasRoom kind j.counts) where
  ranges_after : (eqb kind 3 && ltb (word_at rest 5) (word_at rest 1)) ≡ false → ranges_paired (ranges_of j) ≡ true
      → ranges_paired (take (2 * one_more_of 3 kind j.counts.ranges) (bounds_after kind rest j.counts.ranges j.bounds)) ≡ true
  unfolding bounds_after
  ranges_after good h = by (eqb kind 3) refl
    where
      n : ℕ
      n = j.counts.ranges

      by : (is : Bool) → eqb kind 3 ≡ is → ranges_paired (take (2 * one_more_of 3 kind n) (bounds_after kind rest n j.bounds)) ≡ true
      by true e =
          let is = eqb-true kind 3 e in
          let two : 2 * one_more_of 3 kind n ≡ suc (suc (2 * n)) = omega (arith, one_more_is 3 kind n is) in
          let fits : suc (2 * n) < length j.bounds = omega (arith, size.bounds, range_room kind j.counts room is) in
          rw (e, two, add-one (2 * n), two_more j.bounds (2 * n) (word_at rest 1) (word_at rest 5) fits)
          (pair_more (ranges_of j) (word_at rest 1) (word_at rest 5) h (good_range kind (word_at rest 1) (word_at rest 5) is good))
      by false e = rw (e, none_more 3 kind n (eqb-false kind 3 e)) h

-- ---- all of it

-- what every job holds, however many of its records were read
pub record Going (j : Job) : Type 0 where
  pub fit : CountsFit j.counts
  pub size : Sizes j
  pub rows : rows_in_range (clocks_of j) ≡ true
  pub paired : ranges_paired (ranges_of j) ≡ true
  pub made : HostMade j.state
  pub probes : ProbesHold j.probes
  pub gates : GatesStand j.probes

pub going_empty : Going empty_job
unfolding empty_job no_probes
going_empty = record {
  fit = record { families = omega arith; ranges = omega arith; writes = omega arith; rows = omega arith };
  size = record {
    bounds = length-replicate {A = ℕ} 128 0;
    clocks = length-replicate {A = ℕ} 1024 0;
    known = length-replicate {A = ℕ} 1024 0;
    values = length-replicate {A = ℕ} 1024 0;
    gates = length-replicate 32 no_gate;
    extents = length-replicate 32 no_extent;
  };
  rows = refl;
  paired = refl;
  made = fresh_made 0;
  probes = hold_none;
  gates = gates_empty;
}

made_after : (kind : ℕ) (rest : List ℕ) (s : State) → HostMade s → HostMade (state_after kind rest s)
unfolding state_after
made_after kind rest s made =
    cond_elim HostMade (eqb kind 4) (λ _. fresh_made (byte_at rest 1))
    (λ _. cond_elim HostMade (eqb kind 2) (λ _. write_made s (record { 0 = word_at rest 1 }) (word_at rest 5) made) (λ _. made))

hold_after : (kind : ℕ) (rest : List ℕ) (p : Probes) → ProbesHold p → ProbesHold (probes_after kind rest p)
unfolding probes_after
hold_after kind rest p held =
    cond_elim ProbesHold (eqb kind 6) (λ _. hold_gate (gate_in rest) p held)
    (λ _. cond_elim ProbesHold (eqb kind 5) (λ _. hold_capture (capture_in rest) p held)
    (λ _. cond_elim ProbesHold (eqb kind 1) (λ _. hold_row p held) (λ _. held)))

-- a record without fault
pub going_on : (rest : List ℕ) (j : Job) → Clear rest j.counts j.probes.masks j.state → Going j → Going (after_record rest j)
unfolding after_record is_bad_row is_bad_range
going_on rest j clear g =
    let kind = byte_at rest 0 in
    record {
      fit = counts_fit kind j.counts clear.room g.fit;
      size = record {
        bounds = bounds_size kind rest j.counts.ranges j.bounds ∙ g.size.bounds;
        clocks = column_size kind j.counts.rows (long_at rest 1) j.clocks ∙ g.size.clocks;
        known = column_size kind j.counts.rows (row_known j.probes.masks (word_at rest 9)) j.known ∙ g.size.known;
        values = column_size kind j.counts.rows (row_values j.probes.masks (word_at rest 13)) j.values ∙ g.size.values;
        gates = gates_size kind rest j.probes ∙ g.size.gates;
        extents = extents_size kind rest j.probes ∙ g.size.extents;
      };
      rows = rows_after kind rest j g.size clear.room clear.row g.rows;
      paired = ranges_after kind rest j g.size clear.room clear.range g.paired;
      made = made_after kind rest j.state g.made;
      probes = hold_after kind rest j.probes g.probes;
      gates = gates_after rest j.probes g.size.gates clear.probe clear.usable g.gates;
    }

-- its rows are a log, whose columns are as long as there are rows; its counts are below the bytes that it may have
pub going_sound : (j : Job) → Going j → CountsWithin max_bytes j.probes → Sound j
unfolding valid_log
going_sound j g within =
    let n = j.counts.rows in
    let lc : length (clocks_of j) ≡ n = length-take-le n j.clocks (omega (arith, g.size.clocks, g.fit.rows)) in
    let lk : length (known_of j) ≡ n = length-take-le n j.known (omega (arith, g.size.known, g.fit.rows)) in
    let lv : length (values_of j) ≡ n = length-take-le n j.values (omega (arith, g.size.values, g.fit.rows)) in
    let most = g.fit.rows in
    record {
      fit = g.fit;
      valid = rw (lc, lk, lv, le-leb n 1024 most, eq-eqb n n refl, g.rows);
      within = (omega (arith, g.size.clocks), omega (arith, g.size.known), omega (arith, g.size.values));
      events = (g.size.gates, g.size.extents);
      probes = g.probes;
      gates = g.gates;
      counted = within;
      exact = λ event. exact_below (extent_at j.probes event).between (within event);
    }
