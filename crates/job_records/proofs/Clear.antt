-- A record that is not refused passes each test of the listing. Assumes nothing.
use Prim.Native.Nat.{ℕ, ◌+◌, ◌≤◌, ◌<◌}
use mathlib.Core.Path.{◌≡◌, refl}
use mathlib.Core.Bool.{Bool, true, false, cond, ◌&&◌, ◌||◌}
use mathlib.Core.List.{List, [], ◌∷◌}
use native.Mathlib.Omega.{arith}
use lib.Dec.{leb, ltb, eqb}
use lib.ListN.{length}
use borrow.Author.Tests.{ltb-true, ltb-false, leb-false, eqb-true, eq-eqb, not-false}
use Rattle.machine_execution.specs.Execution.{some_slot_executes}
use Rattle.families.proofs.Tests.{cond_elim, both_left, both_right}
use Rattle.machine_state.specs.declared.state.State.{State}
use Rattle.job_records.specs.Inside.{HasRoom}
use Rattle.job_records.specs.Records.{kind_of}
use Rattle.job_records.specs.Refusals.{is_cut_short, is_too_many, is_bad_range, is_bad_row, is_bad_probe, is_unusable, ends_idle, listing, refusal_of}
use Rattle.refusals.specs.Listing.{Test, first_of}
use Rattle.words.specs.Numbers.{byte_at}
use Rattle.probe_captures.specs.Masks.{has_event, is_bad_gate, is_bad_capture}
use Rattle.probe_captures.specs.Records.{gate_in}
use Rattle.probe_captures.specs.declared.masks.Masks.{Masks}
use Rattle.probe_floats.proofs.Comparison.{or_left}
use Rattle.probe_gates.specs.Refusal.{usable_of}
use Rattle.job_records.specs.declared.contents.Counts.{Counts}

-- no refusal has number 0
abbrev numbered : List Test → Bool
numbered [] = true
numbered (test ∷ later) = ltb 0 test.number && numbered later

-- whether the test with a number fails
abbrev failing : ℕ → List Test → Bool
failing number [] = false
failing number (test ∷ later) = cond (eqb number test.number) test.fails (failing number later)

passes : (b : Bool) (n m : ℕ) → ltb 0 n ≡ true → cond b n m ≡ 0 → (b ≡ false) × (m ≡ 0)
passes true n m h e = absurd (let z : ⊥ = omega (arith, ltb-true 0 n h) in z)
passes false n m h e = (refl, e)

-- a test is named by its number
passed : (tests : List Test) → numbered tests ≡ true → first_of tests ≡ 0 → (number : ℕ) → failing number tests ≡ false
passed [] h e number = refl
passed (test ∷ later) h e number =
    let p = passes test.fails test.number (first_of later) (both_left (ltb 0 test.number) (numbered later) h) e in
    cond_elim (λ (b : Bool). b ≡ false) (eqb number test.number) (λ _. p.0)
    (λ _. passed later (both_right (ltb 0 test.number) (numbered later) h) p.1 number)

-- what the rest of the reading needs of that
pub record Clear (rest : List ℕ) (counts : Counts) (m : Masks) (s : State) : Type 0 where
  pub whole : 1 + (kind_of counts (byte_at rest 0)).body ≤ length rest
  pub room : HasRoom (byte_at rest 0) counts
  pub range : is_bad_range rest ≡ false
  pub row : is_bad_row rest ≡ false
  pub probe : is_bad_probe rest m ≡ false
  pub usable : is_unusable rest ≡ false
  pub end : ends_idle rest s ≡ false

pub clear : (rest : List ℕ) (counts : Counts) (m : Masks) (s : State) → refusal_of rest counts m s ≡ 0 → Clear rest counts m s
unfolding refusal_of is_cut_short is_too_many
clear rest counts m s e =
    let pass = passed (listing rest counts m s) refl e in
    record {
      whole = ltb-false _ _ (pass 20);
      room = leb-false _ _ (pass 23);
      range = pass 26;
      row = pass 30;
      probe = pass 33;
      usable = pass 16;
      end = pass 32;
    }

-- an end that is not refused has a slot executing
pub end_started : (rest : List ℕ) (s : State) → ends_idle rest s ≡ false → byte_at rest 0 ≡ 0 → some_slot_executes s ≡ true
unfolding ends_idle
end_started rest s h z = not-false (some_slot_executes s) (rw (eq-eqb (byte_at rest 0) 0 z) at h)

-- and no capture left
pub end_used_up : (rest : List ℕ) (m : Masks) → is_bad_probe rest m ≡ false → byte_at rest 0 ≡ 0 → m.captured ≡ 0
unfolding is_bad_probe
end_used_up rest m h z = eqb-true m.captured 0 (not-false (eqb m.captured 0) (rw z at h))

-- the event of a gate, and of a capture, that 33 does not refuse
pub gate_event : (rest : List ℕ) (m : Masks) → byte_at rest 0 ≡ 6 → is_bad_probe rest m ≡ false → byte_at rest 1 < 32
unfolding is_bad_probe is_bad_gate
gate_event rest m is h =
    let above = leb 32 (byte_at rest 1) in
    let kind = leb 3 (byte_at rest 2) in
    leb-false 32 (byte_at rest 1) (or_left above kind (or_left (above || kind) (has_event m.gated (byte_at rest 1)) (rw is at h)))

pub capture_event : (rest : List ℕ) (m : Masks) → byte_at rest 0 ≡ 5 → is_bad_probe rest m ≡ false → byte_at rest 1 < 32
unfolding is_bad_probe is_bad_capture
capture_event rest m is h =
    ltb-true (byte_at rest 1) 32 (both_left (ltb (byte_at rest 1) 32) _ (not-false (has_event m.gated (byte_at rest 1)) (or_left _ _ (rw is at h))))

-- and a gate that 16 does not
pub gate_usable : (rest : List ℕ) → byte_at rest 0 ≡ 6 → is_unusable rest ≡ false → usable_of (gate_in rest).gate (gate_in rest).calibration ≡ true
unfolding is_unusable
gate_usable rest is h = not-false (usable_of (gate_in rest).gate (gate_in rest).calibration) (rw is at h)
