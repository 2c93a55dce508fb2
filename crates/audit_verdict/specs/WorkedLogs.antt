-- The logs of worked scripts (docs/LIBRARY.md): a first row, and one for each ewait that the row before it does not release, in order.
use Rattle.std.specs.Prelude.{ℕ, zero, suc, ◌≡◌, List, [], ◌∷◌, length}
use Rattle.event_log.specs.declared.row.Row.{Row}
use Rattle.machine_actions.specs.declared.actions.Action.{Action}
use Rattle.audit_verdict.specs.Starred.{script_on, verdict_on, everything}
use Rattle.audit_verdict.specs.Witness.{first_row, rows_over, writes_over, way_to, max_shown}

-- what these bytes do before the verdict's place
abbrev pub way_on : ℕ → List ℕ → List Action
way_on family bytes = way_to (script_on family bytes 0) (verdict_on family bytes 0 everything)

abbrev pub worked_row : ℕ → ℕ → ℕ → Row
worked_row clocks known values = record { clocks = clocks; known = known; values = values }

-- the rows, the steps and the writes
abbrev pub shown_as : List Action → List Row → ℕ → ℕ → Type 0
shown_as way rows steps writes = (rows_over way first_row ≡ rows) × (length way ≡ steps) × (writes_over way ≡ writes)

-- ewait 1 1, data 1, addrlo 1600, exit: 4 at place 8
abbrev pub low_half_alone : List ℕ
low_half_alone = 0x5f ∷ 0x01 ∷ 0x01 ∷ 0xe2 ∷ 0x01 ∷ 0x00 ∷ 0x00 ∷ 0x00 ∷ 0x40 ∷ 0x00 ∷ 0x16 ∷ 0x7f ∷ []

-- set1 16, ewait 1 1, data 1, addr 00101600, wait of 128, ewait 1 0, ewait 2 1, wait of 256, set0 16, exit: a pass
abbrev pub reclock : List ℕ
reclock = 0xb0 ∷ 0x5f ∷ 0x01 ∷ 0x01 ∷ 0xe2 ∷ 0x01 ∷ 0x00 ∷ 0x00 ∷ 0x00 ∷ 0xe0 ∷ 0x00 ∷ 0x16 ∷ 0x10 ∷ 0x00 ∷ 0x05
    ∷ 0x5f ∷ 0x01 ∷ 0x00 ∷ 0x5f ∷ 0x02 ∷ 0x01 ∷ 0x06 ∷ 0xd0 ∷ 0x7f ∷ []

-- ewait 3 1 twice, wait of 128, exit with nothing paused: the second ewait is released by the row that the first began
abbrev pub twice : List ℕ
twice = 0x5f ∷ 0x03 ∷ 0x01 ∷ 0x5f ∷ 0x03 ∷ 0x01 ∷ 0x05 ∷ 0x7f ∷ []

-- ewait 1 1, and one of event 32, which nothing releases: no row is made for it
abbrev pub stuck_at : List ℕ
stuck_at = 0x5f ∷ 0x01 ∷ 0x01 ∷ 0x5f ∷ 0x20 ∷ 0x01 ∷ 0x7f ∷ []

-- ewait 1 1 and ewait 1 0, so many times one after the other
abbrev pub alternating : ℕ → List ℕ
alternating zero = 0x7f ∷ []
alternating (suc n) = 0x5f ∷ 0x01 ∷ 0x01 ∷ 0x5f ∷ 0x01 ∷ 0x00 ∷ alternating n

abbrev pub WorkedLogs : Type 0
WorkedLogs = shown_as (way_on 2 low_half_alone) (worked_row 1 0 0 ∷ worked_row 1 2 2 ∷ []) 2 0
    × shown_as (way_on 2 reclock) (worked_row 1 0 0 ∷ worked_row 129 2 2 ∷ worked_row 1 2 0 ∷ worked_row 257 4 4 ∷ []) 9 1
    × shown_as (way_on 2 twice) (worked_row 1 0 0 ∷ worked_row 129 8 8 ∷ []) 3 0
    × shown_as (way_on 2 stuck_at) (worked_row 1 0 0 ∷ worked_row 1 2 2 ∷ []) 1 0
    × shown_as (way_on 1 (0x05 ∷ 0x40 ∷ [])) (worked_row 129 0 0 ∷ []) 1 0
    -- no fewer rows than may be asked for: some log has them all
    × (length (rows_over (way_on 4 (alternating 85)) first_row) ≡ max_shown)
