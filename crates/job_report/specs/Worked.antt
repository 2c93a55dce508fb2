-- Worked jobs and their reports, from the bytes on, as closed theorems (01, "A job, and one report whole"). The same jobs stand in jobs/, as hex text.
use Rattle.std.specs.Prelude.{ℕ, ◌≡◌, true, false, List, [], ◌∷◌, ◌++◌, Ok}
use Rattle.machine_flags.specs.Flags.{paused_of}
use Rattle.machine_state.specs.declared.state.State.{State}
use Rattle.host_registers.specs.Access.{read_of}
use Rattle.job_records.specs.Reader.{job_read_of}
use Rattle.job_records.specs.declared.contents.Job.{Job}
use Rattle.job_report.specs.Words.{codes_of}
use Rattle.job_report.specs.JobScript.{step_run}
use Rattle.job_report.specs.Report.{report_of, step_lines}

-- 01's own job: family 3, slot A at entry point 0, one write, no rows
abbrev pub example_job : List ℕ
example_job =
    -- family 3
    (0x04 ∷ 0x03 ∷ [])
    -- allowed: 00101600 to 00101603
    ++ (0x03 ∷ 0x00 ∷ 0x16 ∷ 0x10 ∷ 0x00 ∷ 0x03 ∷ 0x16 ∷ 0x10 ∷ 0x00 ∷ [])
    -- 001098: HWSQ_ENABLE
    ++ (0x02 ∷ 0x98 ∷ 0x10 ∷ 0x00 ∷ 0x00 ∷ 0x08 ∷ 0x00 ∷ 0x00 ∷ 0x00 ∷ [])
    -- code, four bytes a write, from 001400 on:
    -- 0 data 12345678    5 addr 00101600    10 exit    (11 is never reached)
    ++ (0x02 ∷ 0x00 ∷ 0x14 ∷ 0x00 ∷ 0x00 ∷ 0xe2 ∷ 0x78 ∷ 0x56 ∷ 0x34 ∷ [])
    ++ (0x02 ∷ 0x04 ∷ 0x14 ∷ 0x00 ∷ 0x00 ∷ 0x12 ∷ 0xe0 ∷ 0x00 ∷ 0x16 ∷ [])
    ++ (0x02 ∷ 0x08 ∷ 0x14 ∷ 0x00 ∷ 0x00 ∷ 0x10 ∷ 0x00 ∷ 0x7f ∷ 0x7f ∷ [])
    -- 001304: entry point 0 is place 0
    ++ (0x02 ∷ 0x04 ∷ 0x13 ∷ 0x00 ∷ 0x00 ∷ 0x00 ∷ 0x00 ∷ 0x00 ∷ 0x00 ∷ [])
    -- 00130c: start slot A at entry point 0
    ++ (0x02 ∷ 0x0c ∷ 0x13 ∷ 0x00 ∷ 0x00 ∷ 0x03 ∷ 0x00 ∷ 0x00 ∷ 0x00 ∷ [])
    -- end
    ++ (0x00 ∷ [])

abbrev pub example_report : List ℕ
example_report =
    codes_of "family 3\n"
    ++ codes_of "verdict 0 place 10 count 3 writes 1 clocks 0\n"
    ++ codes_of "write 00101600 12345678\n"
    ++ codes_of "end exit row 0 used 0\n"
    ++ codes_of "status 0000000a\n"

-- slot B at entry point 1, with memory paused before: it ends at exit
abbrev pub slot_b_job : List ℕ
slot_b_job =
    -- family 2
    (0x04 ∷ 0x02 ∷ [])
    -- 001098: HWSQ_ENABLE
    ++ (0x02 ∷ 0x98 ∷ 0x10 ∷ 0x00 ∷ 0x00 ∷ 0x08 ∷ 0x00 ∷ 0x00 ∷ 0x00 ∷ [])
    -- 001310 and 001314: flag 2 enabled at value 0, flag 0 at value 1 and not enabled; flag 16 (FB_PAUSE) enabled at value 1
    ++ (0x02 ∷ 0x10 ∷ 0x13 ∷ 0x00 ∷ 0x00 ∷ 0x01 ∷ 0x00 ∷ 0x04 ∷ 0x00 ∷ [])
    ++ (0x02 ∷ 0x14 ∷ 0x13 ∷ 0x00 ∷ 0x00 ∷ 0x01 ∷ 0x00 ∷ 0x01 ∷ 0x00 ∷ [])
    -- code:
    -- 0 exit                             4 unset 16 (FB_PAUSE)          5 set0 0
    -- 6 ewait 1 0 (CRTC0_VBLANK off)     9 wait 128 clocks             10 exit      11 wait 128 clocks      12 exit
    ++ (0x02 ∷ 0x00 ∷ 0x14 ∷ 0x00 ∷ 0x00 ∷ 0x7f ∷ 0x7f ∷ 0x7f ∷ 0x7f ∷ [])
    ++ (0x02 ∷ 0x04 ∷ 0x14 ∷ 0x00 ∷ 0x00 ∷ 0x90 ∷ 0xc0 ∷ 0x5f ∷ 0x01 ∷ [])
    ++ (0x02 ∷ 0x08 ∷ 0x14 ∷ 0x00 ∷ 0x00 ∷ 0x00 ∷ 0x05 ∷ 0x7f ∷ 0x05 ∷ [])
    ++ (0x02 ∷ 0x0c ∷ 0x14 ∷ 0x00 ∷ 0x00 ∷ 0x7f ∷ 0x7f ∷ 0x7f ∷ 0x7f ∷ [])
    -- 001304: the entry points 0 to 3 are places 11, 4, 10 and 0
    ++ (0x02 ∷ 0x04 ∷ 0x13 ∷ 0x00 ∷ 0x00 ∷ 0x0b ∷ 0x04 ∷ 0x0a ∷ 0x00 ∷ [])
    -- 00130c: start slot B at entry point 1
    ++ (0x02 ∷ 0x0c ∷ 0x13 ∷ 0x00 ∷ 0x00 ∷ 0x05 ∷ 0x00 ∷ 0x00 ∷ 0x00 ∷ [])
    -- log: 90 clocks with events 0 and 2 recorded, and a value bit of event 1, which counts for nothing with no known bit;
    -- 200 clocks with events 1 (off), 2 and 4 recorded; 7 clocks with all recorded
    ++ (0x01 ∷ 0x5a ∷ 0x00 ∷ 0x00 ∷ 0x00 ∷ 0x00 ∷ 0x00 ∷ 0x00 ∷ 0x00 ∷ 0x05 ∷ 0x00 ∷ 0x00 ∷ 0x00 ∷ 0x02 ∷ 0x00 ∷ 0x00 ∷ 0x00 ∷ [])
    ++ (0x01 ∷ 0xc8 ∷ 0x00 ∷ 0x00 ∷ 0x00 ∷ 0x00 ∷ 0x00 ∷ 0x00 ∷ 0x00 ∷ 0x16 ∷ 0x00 ∷ 0x00 ∷ 0x00 ∷ 0x14 ∷ 0x00 ∷ 0x00 ∷ 0x00 ∷ [])
    ++ (0x01 ∷ 0x07 ∷ 0x00 ∷ 0x00 ∷ 0x00 ∷ 0x00 ∷ 0x00 ∷ 0x00 ∷ 0x00 ∷ 0xff ∷ 0xff ∷ 0xff ∷ 0xff ∷ 0x00 ∷ 0x00 ∷ 0x00 ∷ 0x00 ∷ [])
    -- end
    ++ (0x00 ∷ [])

abbrev pub slot_b_report : List ℕ
slot_b_report =
    codes_of "family 2\n"
    ++ codes_of "verdict 0 place 10 count 5 writes 0 clocks 128\n"
    ++ codes_of "row 0 known 2 first 1\n"
    ++ codes_of "row 1 known 3 first 0\n"
    ++ codes_of "row 2 known 32 first 32\n"
    ++ codes_of "end exit row 1 used 128\n"
    ++ codes_of "status 000a0000\n"

-- family 4 at entry point 2, in the upper half of its code RAM: it ends with the log
abbrev pub high_code_job : List ℕ
high_code_job =
    -- family 4
    (0x04 ∷ 0x04 ∷ [])
    -- allowed: 00101600 to 00101603, and 00101704 to 00101707
    ++ (0x03 ∷ 0x00 ∷ 0x16 ∷ 0x10 ∷ 0x00 ∷ 0x03 ∷ 0x16 ∷ 0x10 ∷ 0x00 ∷ [])
    ++ (0x03 ∷ 0x04 ∷ 0x17 ∷ 0x10 ∷ 0x00 ∷ 0x07 ∷ 0x17 ∷ 0x10 ∷ 0x00 ∷ [])
    -- 001098: HWSQ_ENABLE
    ++ (0x02 ∷ 0x98 ∷ 0x10 ∷ 0x00 ∷ 0x00 ∷ 0x08 ∷ 0x00 ∷ 0x00 ∷ 0x00 ∷ [])
    -- NEW_CODE, from place 256 on:
    -- 256 exit                260 data 12345678      265 addr 00101600      270 datalo abcd
    -- 273 addrlo 1704         276 wait 128 clocks    277 ewait 3 1          280 exit
    ++ (0x02 ∷ 0x00 ∷ 0x01 ∷ 0x08 ∷ 0x00 ∷ 0x7f ∷ 0x7f ∷ 0x7f ∷ 0x7f ∷ [])
    ++ (0x02 ∷ 0x04 ∷ 0x01 ∷ 0x08 ∷ 0x00 ∷ 0xe2 ∷ 0x78 ∷ 0x56 ∷ 0x34 ∷ [])
    ++ (0x02 ∷ 0x08 ∷ 0x01 ∷ 0x08 ∷ 0x00 ∷ 0x12 ∷ 0xe0 ∷ 0x00 ∷ 0x16 ∷ [])
    ++ (0x02 ∷ 0x0c ∷ 0x01 ∷ 0x08 ∷ 0x00 ∷ 0x10 ∷ 0x00 ∷ 0x42 ∷ 0xcd ∷ [])
    ++ (0x02 ∷ 0x10 ∷ 0x01 ∷ 0x08 ∷ 0x00 ∷ 0xab ∷ 0x40 ∷ 0x04 ∷ 0x17 ∷ [])
    ++ (0x02 ∷ 0x14 ∷ 0x01 ∷ 0x08 ∷ 0x00 ∷ 0x05 ∷ 0x5f ∷ 0x03 ∷ 0x01 ∷ [])
    ++ (0x02 ∷ 0x18 ∷ 0x01 ∷ 0x08 ∷ 0x00 ∷ 0x7f ∷ 0x7f ∷ 0x7f ∷ 0x7f ∷ [])
    -- 001304 and 001318: the entry points 0 to 3 are places 20, 0, 260 and 24
    ++ (0x02 ∷ 0x04 ∷ 0x13 ∷ 0x00 ∷ 0x00 ∷ 0x14 ∷ 0x00 ∷ 0x04 ∷ 0x18 ∷ [])
    ++ (0x02 ∷ 0x18 ∷ 0x13 ∷ 0x00 ∷ 0x00 ∷ 0x00 ∷ 0x00 ∷ 0x01 ∷ 0x00 ∷ [])
    -- 00130c: start at entry point 2; the slot's bit is clear, which family 4 ignores
    ++ (0x02 ∷ 0x0c ∷ 0x13 ∷ 0x00 ∷ 0x00 ∷ 0x09 ∷ 0x00 ∷ 0x00 ∷ 0x00 ∷ [])
    -- log: 100 clocks with event 0 recorded; 300 with events 0 to 2 and 4, and a value bit of event 3, which counts for nothing
    ++ (0x01 ∷ 0x64 ∷ 0x00 ∷ 0x00 ∷ 0x00 ∷ 0x00 ∷ 0x00 ∷ 0x00 ∷ 0x00 ∷ 0x01 ∷ 0x00 ∷ 0x00 ∷ 0x00 ∷ 0x00 ∷ 0x00 ∷ 0x00 ∷ 0x00 ∷ [])
    ++ (0x01 ∷ 0x2c ∷ 0x01 ∷ 0x00 ∷ 0x00 ∷ 0x00 ∷ 0x00 ∷ 0x00 ∷ 0x00 ∷ 0x17 ∷ 0x00 ∷ 0x00 ∷ 0x00 ∷ 0x08 ∷ 0x00 ∷ 0x00 ∷ 0x00 ∷ [])
    -- end
    ++ (0x00 ∷ [])

abbrev pub high_code_report : List ℕ
high_code_report =
    codes_of "family 4\n"
    ++ codes_of "verdict 0 place 280 count 7 writes 2 clocks 128\n"
    ++ codes_of "write 00101600 12345678\n"
    ++ codes_of "write 00101704 1234abcd\n"
    ++ codes_of "row 0 known 1 first 1\n"
    ++ codes_of "row 1 known 4 first 3\n"
    ++ codes_of "end log row 2 used 0\n"
    ++ codes_of "status 00000518\n"

-- an opcode that family 2 does not have
abbrev pub unknown_opcode_job : List ℕ
unknown_opcode_job =
    -- family 2
    (0x04 ∷ 0x02 ∷ [])
    -- 001098: HWSQ_ENABLE
    ++ (0x02 ∷ 0x98 ∷ 0x10 ∷ 0x00 ∷ 0x00 ∷ 0x08 ∷ 0x00 ∷ 0x00 ∷ 0x00 ∷ [])
    -- code:
    -- 0 wait 0 clocks      1 unknown      2 exit
    ++ (0x02 ∷ 0x00 ∷ 0x14 ∷ 0x00 ∷ 0x00 ∷ 0x00 ∷ 0x41 ∷ 0x7f ∷ 0x7f ∷ [])
    -- 001304: entry point 0 is place 0
    ++ (0x02 ∷ 0x04 ∷ 0x13 ∷ 0x00 ∷ 0x00 ∷ 0x00 ∷ 0x00 ∷ 0x00 ∷ 0x00 ∷ [])
    -- 00130c: start slot A at entry point 0
    ++ (0x02 ∷ 0x0c ∷ 0x13 ∷ 0x00 ∷ 0x00 ∷ 0x03 ∷ 0x00 ∷ 0x00 ∷ 0x00 ∷ [])
    -- end
    ++ (0x00 ∷ [])

abbrev pub unknown_opcode_report : List ℕ
unknown_opcode_report =
    codes_of "family 2\n"
    ++ codes_of "verdict 3 place 1\n"

-- its run is not printed; what the machine's steps give of it
abbrev pub unknown_opcode_steps : List ℕ
unknown_opcode_steps =
    codes_of "end hang row 0 used 0\n"
    ++ codes_of "status 00000302\n"

-- an upload past the 128 bytes of code RAM that family 2 has: the job is refused
abbrev pub past_code_ram_job : List ℕ
past_code_ram_job =
    -- family 2
    (0x04 ∷ 0x02 ∷ [])
    -- 001098: HWSQ_ENABLE
    ++ (0x02 ∷ 0x98 ∷ 0x10 ∷ 0x00 ∷ 0x00 ∷ 0x08 ∷ 0x00 ∷ 0x00 ∷ 0x00 ∷ [])
    -- code: exit at place 0, and a word at place 128, which is no register
    ++ (0x02 ∷ 0x00 ∷ 0x14 ∷ 0x00 ∷ 0x00 ∷ 0x7f ∷ 0x7f ∷ 0x7f ∷ 0x7f ∷ [])
    ++ (0x02 ∷ 0x80 ∷ 0x14 ∷ 0x00 ∷ 0x00 ∷ 0x7f ∷ 0x7f ∷ 0x7f ∷ 0x7f ∷ [])
    -- 001304: entry point 0 is place 0
    ++ (0x02 ∷ 0x04 ∷ 0x13 ∷ 0x00 ∷ 0x00 ∷ 0x00 ∷ 0x00 ∷ 0x00 ∷ 0x00 ∷ [])
    -- 00130c: start slot A at entry point 0
    ++ (0x02 ∷ 0x0c ∷ 0x13 ∷ 0x00 ∷ 0x00 ∷ 0x03 ∷ 0x00 ∷ 0x00 ∷ 0x00 ∷ [])
    -- end
    ++ (0x00 ∷ [])

abbrev pub past_code_ram_report : List ℕ
past_code_ram_report = codes_of "refused 27 at 20\n"

-- probe captures: a row whose probe floats between its levels releases nothing, a dead gate reads nothing, a row without captures keeps its own masks
abbrev pub captures_job : List ℕ
captures_job =
    -- family 2
    (0x04 ∷ 0x02 ∷ [])
    -- code: ewait 1 1, exit
    ++ (0x02 ∷ 0x00 ∷ 0x14 ∷ 0x00 ∷ 0x00 ∷ 0x5f ∷ 0x01 ∷ 0x01 ∷ 0x7f ∷ [])
    -- 00130c: start slot A at entry point 0, which is place 0
    ++ (0x02 ∷ 0x0c ∷ 0x13 ∷ 0x00 ∷ 0x00 ∷ 0x03 ∷ 0x00 ∷ 0x00 ∷ 0x00 ∷ [])
    -- gate of event 1: normal, low 0.8 volts, high 2.0, gain 2, offset 0
    ++ (0x06 ∷ 0x01 ∷ 0x00 ∷ 0xcd ∷ 0xcc ∷ 0x4c ∷ 0x3f ∷ 0x00 ∷ 0x00 ∷ 0x00 ∷ 0x40 ∷ 0x00 ∷ 0x00 ∷ 0x00 ∷ 0x40 ∷ 0x00 ∷ 0x00 ∷ 0x00 ∷ 0x00 ∷ [])
    -- gate of event 0: dead, levels NaN, gain 1, offset 0
    ++ (0x06 ∷ 0x00 ∷ 0x02 ∷ 0x00 ∷ 0x00 ∷ 0xc0 ∷ 0x7f ∷ 0x00 ∷ 0x00 ∷ 0xc0 ∷ 0x7f ∷ 0x00 ∷ 0x00 ∷ 0x80 ∷ 0x3f ∷ 0x00 ∷ 0x00 ∷ 0x00 ∷ 0x00 ∷ [])
    -- gate of event 3: inverted, low 0.8 volts, high 2.0, gain 1, offset 0; no capture comes
    ++ (0x06 ∷ 0x03 ∷ 0x01 ∷ 0xcd ∷ 0xcc ∷ 0x4c ∷ 0x3f ∷ 0x00 ∷ 0x00 ∷ 0x00 ∷ 0x40 ∷ 0x00 ∷ 0x00 ∷ 0x80 ∷ 0x3f ∷ 0x00 ∷ 0x00 ∷ 0x00 ∷ 0x00 ∷ [])
    -- event 1 captured at 0.75, so 1.5 volts, and event 0 at 3.0; a row of 1,000 clocks, whose own masks are lost
    ++ (0x05 ∷ 0x01 ∷ 0x00 ∷ 0x00 ∷ 0x40 ∷ 0x3f ∷ [])
    ++ (0x05 ∷ 0x00 ∷ 0x00 ∷ 0x00 ∷ 0x40 ∷ 0x40 ∷ [])
    ++ (0x01 ∷ 0xe8 ∷ 0x03 ∷ 0x00 ∷ 0x00 ∷ 0x00 ∷ 0x00 ∷ 0x00 ∷ 0x00 ∷ 0x03 ∷ 0x00 ∷ 0x00 ∷ 0x00 ∷ 0x03 ∷ 0x00 ∷ 0x00 ∷ 0x00 ∷ [])
    -- 640 clocks without captures: both events read 0
    ++ (0x01 ∷ 0x80 ∷ 0x02 ∷ 0x00 ∷ 0x00 ∷ 0x00 ∷ 0x00 ∷ 0x00 ∷ 0x00 ∷ 0x03 ∷ 0x00 ∷ 0x00 ∷ 0x00 ∷ 0x00 ∷ 0x00 ∷ 0x00 ∷ 0x00 ∷ [])
    -- event 1 captured at 1.5, so 3.0 volts; a row of 5,000 clocks
    ++ (0x05 ∷ 0x01 ∷ 0x00 ∷ 0x00 ∷ 0xc0 ∷ 0x3f ∷ [])
    ++ (0x01 ∷ 0x88 ∷ 0x13 ∷ 0x00 ∷ 0x00 ∷ 0x00 ∷ 0x00 ∷ 0x00 ∷ 0x00 ∷ 0x03 ∷ 0x00 ∷ 0x00 ∷ 0x00 ∷ 0x00 ∷ 0x00 ∷ 0x00 ∷ 0x00 ∷ [])
    -- end
    ++ (0x00 ∷ [])

abbrev pub captures_report : List ℕ
captures_report =
    codes_of "family 2\n"
    ++ codes_of "verdict 0 place 3 count 2 writes 0 clocks 0\n"
    ++ codes_of "row 0 known 0 first 0\n"
    ++ codes_of "row 1 known 2 first 2\n"
    ++ codes_of "row 2 known 1 first 0\n"
    ++ codes_of "event 0 least 40400000 greatest 40400000 between 0\n"
    ++ codes_of "event 1 least 3fc00000 greatest 40400000 between 1\n"
    ++ codes_of "event 3 least none greatest none between 0\n"
    ++ codes_of "end exit row 2 used 0\n"
    ++ codes_of "status 00000003\n"

-- refusals of gates and captures, right after the family: a gate above 31 whose gain is NaN, a dead gate with an infinite gain, and a capture that an end
-- follows, with a byte after the end and no slot executing
abbrev pub gate_above31 : List ℕ
gate_above31 =
    (0x04 ∷ 0x02 ∷ [])
    ++ (0x06 ∷ 0x20 ∷ 0x00 ∷ 0xcd ∷ 0xcc ∷ 0x4c ∷ 0x3f ∷ 0x00 ∷ 0x00 ∷ 0x00 ∷ 0x40 ∷ 0x00 ∷ 0x00 ∷ 0xc0 ∷ 0x7f ∷ 0x00 ∷ 0x00 ∷ 0x00 ∷ 0x00 ∷ [])

abbrev pub dead_without_gain : List ℕ
dead_without_gain =
    (0x04 ∷ 0x02 ∷ [])
    ++ (0x06 ∷ 0x03 ∷ 0x02 ∷ 0x00 ∷ 0x00 ∷ 0xc0 ∷ 0x7f ∷ 0x00 ∷ 0x00 ∷ 0xc0 ∷ 0x7f ∷ 0x00 ∷ 0x00 ∷ 0x80 ∷ 0x7f ∷ 0x00 ∷ 0x00 ∷ 0x00 ∷ 0x00 ∷ [])

abbrev pub capture_left_job : List ℕ
capture_left_job =
    (0x04 ∷ 0x02 ∷ [])
    ++ (0x06 ∷ 0x03 ∷ 0x00 ∷ 0xcd ∷ 0xcc ∷ 0x4c ∷ 0x3f ∷ 0x00 ∷ 0x00 ∷ 0x00 ∷ 0x40 ∷ 0x00 ∷ 0x00 ∷ 0x80 ∷ 0x3f ∷ 0x00 ∷ 0x00 ∷ 0x00 ∷ 0x00 ∷ [])
    ++ (0x05 ∷ 0x03 ∷ 0x00 ∷ 0x00 ∷ 0x00 ∷ 0x00 ∷ [])
    ++ (0x00 ∷ 0x00 ∷ [])

-- the job that was read, and the state that the machine's steps leave of it
abbrev pub job_in : List ℕ → Job
job_in bytes = (job_read_of bytes).job

abbrev pub state_left : List ℕ → State
state_left bytes = (step_run (job_in bytes)).state

pub record Worked : Type 0 where
  pub example : report_of example_job ≡ example_report
  pub slot_b : report_of slot_b_job ≡ slot_b_report
  pub high_code : report_of high_code_job ≡ high_code_report
  pub unknown_opcode : report_of unknown_opcode_job ≡ unknown_opcode_report
  pub past_code_ram : report_of past_code_ram_job ≡ past_code_ram_report
  pub captures : report_of captures_job ≡ captures_report
  -- 33 comes before 16, and before 24 and 32
  pub above_31 : report_of gate_above31 ≡ codes_of "refused 33 at 2\n"
  pub without_gain : report_of dead_without_gain ≡ codes_of "refused 16 at 2\n"
  pub capture_left : report_of capture_left_job ≡ codes_of "refused 33 at 27\n"
  -- no report tells the flags: memory is paused when slot B starts and not when it is done, and FLAGS then read so
  pub paused : (paused_of 2 (job_in slot_b_job).state.flags ≡ true) × (paused_of 2 (state_left slot_b_job).flags ≡ false)
  pub flags_0 : read_of (state_left slot_b_job) (record { 0 = 0x001310 }) ≡ Ok 0x00050000
  pub flags_1 : read_of (state_left slot_b_job) (record { 0 = 0x001314 }) ≡ Ok 0x00000001
  -- and no report tells a hang, since its script does not pass
  pub hangs : step_lines (job_in unknown_opcode_job) ≡ unknown_opcode_steps
