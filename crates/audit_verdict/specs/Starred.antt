-- The starred scripts of 01, "Scripts on both sides of the line": one table of what auditor and replay say of them.
use Rattle.std.specs.Prelude.{ℕ, ◌-◌, ◌≡◌, true, List, [], ◌∷◌, ◌++◌, length, replicate, Ok, Err}
use Rattle.families.specs.Family.{code_size}
use Rattle.event_log.specs.Log.{log_of}
use Rattle.refusals.specs.Number.{fault_number}
use Rattle.script.specs.Script.{Script, script_of}
use Rattle.run.specs.Registers.{registers_of}
use Rattle.run.specs.Replay.{ReplayAnswer, max_entries, replay_of}
use Rattle.run.specs.declared.answers.Ending.{Ending}
use Rattle.audit_verdict.specs.Auditor.{audit_of}
use Rattle.audit_verdict.specs.declared.verdicts.Verdict.{Verdict}

-- these bytes at place 0, 00 after them, all uploaded
abbrev pub script_on : ℕ → List ℕ → ℕ → Script
script_on family bytes entry = script_of family (bytes ++ replicate (code_size family - length bytes) 0) (replicate (code_size family) 1) entry

abbrev pub verdict_on : ℕ → List ℕ → ℕ → List ℕ → Verdict
verdict_on family bytes entry ranges = audit_of (script_on family bytes entry) ranges

-- a pass with no writes: place, instructions and clocks
abbrev pub passes : Verdict → ℕ → ℕ → ℕ → Type 0
passes verdict place count clocks = verdict ≡ Verdict.Pass (record { 0 = place }) count 0 clocks

-- a fault: number and place
abbrev pub is_fault : Verdict → ℕ → ℕ → Type 0
is_fault (Verdict.Pass place count writes clocks) n at = ⊥
is_fault (Verdict.Fault fault place) n at = (fault_number fault ≡ n) × (place.0 ≡ at)

abbrev pub everything : List ℕ
everything = 0 ∷ 0xffffffff ∷ []

-- 127 bytes of 00, and this one
abbrev pub last_byte : ℕ → List ℕ
last_byte byte = replicate 127 0 ++ (byte ∷ [])

-- replay of `5f01007f` under one row with these masks
abbrev pub replay_on : ℕ → ℕ → ReplayAnswer
replay_on known values =
    replay_of (script_on 2 (0x5f ∷ 0x01 ∷ 0x00 ∷ 0x7f ∷ []) 0) (registers_of 0 0 0 0 true) (log_of (1 ∷ []) (known ∷ []) (values ∷ [])) max_entries

abbrev pub ends : ReplayAnswer → Ending → Type 0
ends (Ok told) ending = told.ending ≡ ending
ends (Err why) ending = ⊥

abbrev pub Starred : Type 0
Starred = passes (verdict_on 1 (0x7f ∷ []) 0 []) 0 1 0
    × passes (verdict_on 2 (0x00 ∷ 0x7f ∷ []) 0 []) 1 2 0
    × passes (verdict_on 2 (0x05 ∷ 0x7f ∷ []) 0 []) 1 2 128
    × passes (verdict_on 2 (0x3f ∷ 0x7f ∷ []) 0 []) 1 2 103079215104
    × is_fault (verdict_on 1 (0x40 ∷ 0x7f ∷ []) 0 []) 3 0
    × is_fault (verdict_on 2 (0x40 ∷ 0x00 ∷ 0x16 ∷ 0x7f ∷ []) 0 []) 4 0
    × is_fault (verdict_on 2 (0xe0 ∷ 0x00 ∷ 0x16 ∷ 0x10 ∷ 0x00 ∷ 0x7f ∷ []) 0 everything) 5 0
    × is_fault (verdict_on 2 (0x42 ∷ 0x34 ∷ 0x12 ∷ 0xe0 ∷ 0x00 ∷ 0x16 ∷ 0x10 ∷ 0x00 ∷ 0x7f ∷ []) 0 everything) 5 3
    × is_fault (verdict_on 2 (0x5f ∷ 0x20 ∷ 0x01 ∷ 0x7f ∷ []) 0 []) 7 0
    × is_fault (verdict_on 2 (0xb0 ∷ 0x7f ∷ []) 0 []) 8 1
    × passes (verdict_on 1 (0xb0 ∷ 0x7f ∷ []) 0 []) 1 2 0
    × passes (verdict_on 2 (0xb0 ∷ 0xd0 ∷ 0x7f ∷ []) 0 []) 2 3 0
    × is_fault (verdict_on 2 (last_byte 0x00) 127 []) 1 128
    × is_fault (verdict_on 2 (last_byte 0xe2) 127 []) 1 127
    × is_fault (verdict_on 2 [] 128 []) 1 128
    × ends (replay_on 0 0) Ending.Log
    × ends (replay_on 2 0) Ending.Exit
