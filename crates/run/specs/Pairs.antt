-- Worked pairs of runs (02, ticket 12), by computation: a log, one that says more, and what both runs came to.
use Rattle.std.specs.Prelude.{ℕ, ◌-◌, ◌≡◌, true, List, [], ◌∷◌, ◌++◌, length, replicate}
use Rattle.event_log.specs.Log.{Log, log_of}
use Rattle.event_log.specs.Validity.{valid_log}
use Rattle.machine_state.specs.declared.slots.SlotName.{SlotName}
use Rattle.machine_state.specs.declared.state.State.{State}
use Rattle.run.specs.Run.{Run, Write, begun, run_for}
use Rattle.run.specs.SlotRun.{scene_for, slot_at_entry, state_with}
use Rattle.run.specs.MoreLog.{with_rows, SaysMore, gone_at, Unfinished}

-- family 2, these bytes from place 0 on and all uploaded, HWSQ_ENABLE 1, slot A running from there; the log is the steps' own
abbrev pub holding : List ℕ → State
holding bytes =
    let x = scene_for 2 (bytes ++ replicate (128 - length bytes) 0) (replicate 128 1) true (log_of [] [] []) in
    state_with x (slot_at_entry 0 0 0) (record { values = 0; enables = 0 })

-- so many steps of slot A under a log
abbrev pub steps_under : List ℕ → Log → ℕ → Run
steps_under bytes log n = run_for SlotName.A log n (begun (holding bytes))

-- a write of 1
abbrev pub write_of_one : ℕ → Write
write_of_one address = record { address = address; word = 1 }

-- ---- a row added

-- data 1, addr 00101600, ewait 0 1, addrlo 1604, exit
abbrev pub one_ewait : List ℕ
one_ewait = 0xe2 ∷ 0x01 ∷ 0x00 ∷ 0x00 ∷ 0x00 ∷ 0xe0 ∷ 0x00 ∷ 0x16 ∷ 0x10 ∷ 0x00 ∷ 0x5f ∷ 0x00 ∷ 0x01 ∷ 0x40 ∷ 0x04 ∷ 0x16 ∷ 0x7f ∷ []

-- 32 clocks without a reading, and then 32 in which event 0 is 1
abbrev pub cut_off : Log
cut_off = log_of (32 ∷ []) (0 ∷ []) (0 ∷ [])

abbrev pub row_added : Log
row_added = with_rows cut_off (log_of (32 ∷ []) (1 ∷ []) (1 ∷ []))

-- ---- a reading filled in

-- data 1, ewait 1 1, ewait 2 1, addr 00101600, exit
abbrev pub two_ewaits : List ℕ
two_ewaits = 0xe2 ∷ 0x01 ∷ 0x00 ∷ 0x00 ∷ 0x00 ∷ 0x5f ∷ 0x01 ∷ 0x01 ∷ 0x5f ∷ 0x02 ∷ 0x01 ∷ 0xe0 ∷ 0x00 ∷ 0x16 ∷ 0x10 ∷ 0x00 ∷ 0x7f ∷ []

-- 64 clocks without a reading, and then 32 in which events 1 and 2 are 1
abbrev pub unread_log : Log
unread_log = log_of (64 ∷ 32 ∷ []) (0 ∷ 6 ∷ []) (0 ∷ 6 ∷ [])

-- the same with event 1 known as 1 in the first row; the value bit of event 0, which has no reading, means nothing
abbrev pub event_filled : Log
event_filled = log_of (64 ∷ 32 ∷ []) (2 ∷ 6 ∷ []) (3 ∷ 6 ∷ [])

pub record Pairs : Type 0 where
  pub valid : (valid_log cut_off ≡ true) × (valid_log row_added ≡ true) × (valid_log unread_log ≡ true) × (valid_log event_filled ≡ true)
  pub say_more : (SaysMore cut_off row_added) × (SaysMore unread_log event_filled)
  -- the ewait is unfinished after one write; with the row it ends at that row's start, and the other write comes after
  pub unfinished : Unfinished SlotName.A (steps_under one_ewait cut_off 5)
  pub one_write : (steps_under one_ewait cut_off 5).writes ≡ write_of_one 0x101600 ∷ []
  pub two_writes : (steps_under one_ewait row_added 5).writes ≡ write_of_one 0x101600 ∷ write_of_one 0x101604 ∷ []
  pub goes_on : gone_at row_added.clocks (steps_under one_ewait row_added 5).place ≡ 32
  -- the first ewait ends after 64 clocks, and with the reading at once
  pub first : (gone_at unread_log.clocks (steps_under two_ewaits unread_log 2).place ≡ 64) × (gone_at event_filled.clocks (steps_under two_ewaits event_filled 2
      ).place ≡ 0)
  -- so the second takes none before and 64 now, and ends where it did
  pub second : (gone_at unread_log.clocks (steps_under two_ewaits unread_log 3).place ≡ 64)
      × (gone_at event_filled.clocks (steps_under two_ewaits event_filled 3
      ).place ≡ 64)
  -- neither run has an unfinished wait in the end, and both left the same state
  pub finished : Unfinished SlotName.A (steps_under two_ewaits unread_log 5) → ⊥
  pub same_state : (steps_under two_ewaits event_filled 5).state ≡ (steps_under two_ewaits unread_log 5).state
