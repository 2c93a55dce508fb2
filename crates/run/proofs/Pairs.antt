-- The worked pairs of runs, by computation. Assumes nothing.
use Prim.Native.Nat.{ℕ, zero, suc, ◌^◌}
use mathlib.Core.Path.{◌≡◌, refl}
use mathlib.Core.Logic.{inl, inr}
use mathlib.Core.Bool.{true}
use mathlib.Core.List.{[], ◌∷◌}
use native.Mathlib.Nat.{zero-div}
use native.Mathlib.Omega.{arith}
use lib.ListN.{get_or}
use Rattle.families.specs.Family.{by_family}
use Rattle.isa.specs.Opcode.{opcode_at}
use Rattle.isa.specs.Reader.{decode_of}
use Rattle.isa_fetch.specs.Fetch.{all_marked, fetch_of}
use Rattle.log_waits.specs.Left.{left_in}
use Rattle.log_ewaits.specs.Ewait.{has_reading, search_in}
use Rattle.words.specs.Bits.{bit_of}
use Rattle.event_log.specs.Log.{log_of}
use Rattle.event_log.specs.Validity.{valid_log, valid_place}
use Rattle.machine_slot.specs.SlotStep.{perform_of}
use Rattle.machine_state.specs.declared.slots.SlotName.{SlotName}
use Rattle.machine_step.specs.Step.{advance_of, step_of}
use Rattle.run.specs.Run.{run_for}
use Rattle.run.specs.MoreLog.{FilledIn, Unfinished}
use Rattle.run.specs.Pairs.{holding, steps_under, cut_off, row_added, two_ewaits, unread_log, event_filled, Pairs}
use Rattle.run.proofs.MoreLog.{readings_filled}

-- no bit of 0 is set
no_bit : (event : ℕ) → bit_of 0 event ≡ 1 → ⊥
no_bit event e = let zero_bit : bit_of 0 event ≡ 0 = rw (zero-div (2 ^ event)) refl in omega arith

-- only the first row is another
filled : FilledIn unread_log event_filled
filled = record { clocks = refl; known = known; values = λ event row. values row event }
  where
    known : (row event : ℕ) → bit_of (get_or unread_log.known row 0) event ≡ 1 → bit_of (get_or event_filled.known row 0) event ≡ 1
    known zero event e = absurd (no_bit event e)
    known (suc zero) event e = e
    known (suc (suc row)) event e = e

    values : (row event : ℕ) → bit_of (get_or unread_log.known row 0) event ≡ 1
        → bit_of (get_or unread_log.values row 0) event ≡ bit_of (get_or event_filled.values row 0) event
    values zero event e = absurd (no_bit event e)
    values (suc zero) event e = refl
    values (suc (suc row)) event e = refl

valid : (valid_log cut_off ≡ true) × (valid_log row_added ≡ true) × (valid_log unread_log ≡ true) × (valid_log event_filled ≡ true)
unfolding valid_log
valid = (refl, refl, refl, refl)

finished : Unfinished SlotName.A (steps_under two_ewaits unread_log 5) → ⊥
unfolding run_for step_of advance_of valid_log valid_place by_family fetch_of all_marked decode_of opcode_at perform_of search_in has_reading
finished h = let z : ◌≡◌ {A = ℕ} 0 1 = cc in omega arith

pub pairs : Pairs
unfolding run_for step_of advance_of valid_log valid_place by_family fetch_of all_marked decode_of opcode_at perform_of search_in has_reading left_in
pairs = record {
  valid = valid;
  say_more = (inl (log_of (32 ∷ []) (1 ∷ []) (1 ∷ []), refl), inr filled);
  unfinished = refl;
  one_write = refl;
  two_writes = refl;
  goes_on = refl;
  first = (refl, refl);
  second = (refl, refl);
  finished = finished;
  -- as the claim says
  same_state = ((readings_filled SlotName.A (holding two_ewaits) unread_log event_filled valid.2 valid.3 filled 5).no_later finished).state;
}
