-- What the auditor says (01, "What the auditor says").
use Rattle.std.specs.Prelude.{ℕ, zero, suc, ◌+◌, ◌≡◌, Bool, true, false, cond, ◌&&◌, List, ltb, eqb, Ok, Err, Some, None, Option}
use Rattle.refusals.specs.Number.{fault_number}
use Rattle.families.specs.Family.{code_size, pauses_memory}
use Rattle.refusals.specs.declared.refusals.Unreadable.{Unreadable}
use Rattle.machine_actions.specs.Action.{action_of, merge_of}
use Rattle.machine_actions.specs.declared.actions.Action.{Action}
use Rattle.machine_flags.specs.Flags.{fb_pause}
use Rattle.machine_flags.specs.declared.flags.Change.{Change}
use Rattle.machine_actions.specs.declared.actions.Part.{Part}
use Rattle.script.specs.Script.{Script, fetch_at}
use Rattle.script.specs.Input.{listed_in, input_fits}
use Rattle.refusals.specs.declared.refusals.Fault.{Fault}
use Rattle.audit_verdict.specs.declared.verdicts.Judgement.{Judgement}
use Rattle.isa.specs.declared.addresses.MmioAddress.{MmioAddress}
use Rattle.audit_verdict.specs.declared.verdicts.Knowledge.{Knowledge}
use Rattle.audit_verdict.specs.declared.verdicts.Verdict.{Verdict}

-- a verdict's number: 0 for a pass
abbrev pub verdict_number : Verdict → ℕ
verdict_number (Verdict.Pass place count writes clocks) = 0
verdict_number (Verdict.Fault fault place) = fault_number fault

-- why there is no instruction, as a fault; the family has been tested before any fetch
abbrev pub fault_of : Unreadable → Fault
fault_of Unreadable.Family = Fault.Input
fault_of Unreadable.Empty = Fault.PastRam
fault_of Unreadable.Unknown = Fault.Unknown
fault_of Unreadable.Short = Fault.PastRam
fault_of Unreadable.NotUploaded = Fault.NotUploaded

-- where a poke goes, as far as this script has said: an addrlo with no addr before it goes nowhere known
abbrev pub target_of : Part → ℕ → Option MmioAddress → Option MmioAddress
target_of Part.Whole word known = Some (record { 0 = word })
target_of Part.Low word None = None
target_of Part.Low word (Some address) = Some (record { 0 = merge_of Part.Low address.0 word })

-- a poke: 4, 5, 6 in this order
abbrev pub judge_poke : List ℕ → Option MmioAddress → Bool → Judgement
judge_poke ranges None halves = Judgement.Bad Fault.NoAddress
judge_poke ranges (Some address) halves =
    cond halves (cond (listed_in ranges address.0) Judgement.Fine (Judgement.Bad Fault.Outside)) (Judgement.Bad Fault.HalfData)

-- events are 0 to 31, readings 0 or 1
unfoldable pub can_release : ℕ → ℕ → Bool
can_release event value = ltb event 32 && ltb value 2

-- an ewait that some reading releases, or any other action
abbrev pub Releasable : Action → Type 0
Releasable action = (event value : ℕ) → action ≡ Action.Ewait event value → can_release event value ≡ true

-- what is said of an instruction, given what is known where it stands
abbrev pub judge_of : ℕ → List ℕ → Action → Knowledge → Judgement
judge_of family ranges (Action.Wait n) k = Judgement.Fine
judge_of family ranges (Action.Ewait event value) k = cond (can_release event value) Judgement.Fine (Judgement.Bad Fault.Unreleased)
judge_of family ranges (Action.Flag change flag) k = Judgement.Fine
judge_of family ranges (Action.Load part word) k = Judgement.Fine
judge_of family ranges (Action.Poke part word) k = judge_poke ranges (target_of part word k.addr) k.«data»
judge_of family ranges Action.Exit k = cond (pauses_memory family && k.paused) (Judgement.Bad Fault.Paused) Judgement.Exit

-- ---- what is known after an instruction

abbrev pub known_addr : Action → Option MmioAddress → Option MmioAddress
known_addr (Action.Wait n) known = known
known_addr (Action.Ewait event value) known = known
known_addr (Action.Flag change flag) known = known
known_addr (Action.Load part word) known = known
known_addr (Action.Poke part word) known = target_of part word known
known_addr Action.Exit known = known

-- data sets both halves of DATA; datalo the low one, which is of no use without the high one
abbrev pub loads_both : Part → Bool → Bool
loads_both Part.Whole halves = true
loads_both Part.Low halves = halves

-- whether both halves of DATA are set
abbrev pub known_data : Action → Bool → Bool
known_data (Action.Wait n) halves = halves
known_data (Action.Ewait event value) halves = halves
known_data (Action.Flag change flag) halves = halves
known_data (Action.Load part word) halves = loads_both part halves
known_data (Action.Poke part word) halves = halves
known_data Action.Exit halves = halves

abbrev pub is_set1 : Change → Bool
is_set1 Change.Unset = false
is_set1 Change.Set1 = true
is_set1 Change.Set0 = false

-- whether the last touch of flag 16 was set1; it counts only where the family pauses memory
abbrev pub known_paused : Action → Bool → Bool
known_paused (Action.Wait n) paused = paused
known_paused (Action.Ewait event value) paused = paused
known_paused (Action.Flag change flag) paused = cond (eqb flag fb_pause) (is_set1 change) paused
known_paused (Action.Load part word) paused = paused
known_paused (Action.Poke part word) paused = paused
known_paused Action.Exit paused = paused

abbrev pub poke_count : Action → ℕ
poke_count (Action.Wait n) = 0
poke_count (Action.Ewait event value) = 0
poke_count (Action.Flag change flag) = 0
poke_count (Action.Load part word) = 0
poke_count (Action.Poke part word) = 1
poke_count Action.Exit = 0

abbrev pub wait_length : Action → ℕ
wait_length (Action.Wait n) = n
wait_length (Action.Ewait event value) = 0
wait_length (Action.Flag change flag) = 0
wait_length (Action.Load part word) = 0
wait_length (Action.Poke part word) = 0
wait_length Action.Exit = 0

abbrev pub know_next : Action → Knowledge → Knowledge
know_next action k = record {
  addr = known_addr action k.addr;
  «data» = known_data action k.«data»;
  paused = known_paused action k.paused;
  count = k.count + 1;
  writes = k.writes + poke_count action;
  clocks = k.clocks + wait_length action;
}

abbrev pub know_nothing : Knowledge
know_nothing = record { addr = None; «data» = false; paused = false; count = 0; writes = 0; clocks = 0 }

-- ---- the walk from the entry to the first exit

-- exit is counted
abbrev pub pass_at : ℕ → Knowledge → Verdict
pass_at at k = Verdict.Pass (record { 0 = at }) (k.count + 1) k.writes k.clocks

abbrev pub fault_at : Fault → ℕ → Verdict
fault_at fault at = Verdict.Fault fault (record { 0 = at })

-- the verdict from a place on, where at most so many instructions are left; with none left the place lies past the code RAM
unfoldable pub verdict_in : ℕ → Script → List ℕ → ℕ → Knowledge → Verdict
verdict_in zero script ranges at k = fault_at Fault.PastRam at
verdict_in (suc left) script ranges at k = elim (fetch_at script at) [
  | Ok (i, n) ↦ elim (judge_of script.family ranges (action_of i) k) [
    | Judgement.Fine ↦ verdict_in left script ranges (at + n) (know_next (action_of i) k)
    | Judgement.Exit ↦ pass_at at k
    | Judgement.Bad fault ↦ fault_at fault at
  ]
  | Err why ↦ fault_at (fault_of why) at
]

-- the whole walk, in which each instruction takes a byte of the code RAM at least
abbrev pub walk_of : Script → List ℕ → Verdict
walk_of script ranges = verdict_in (code_size script.family) script ranges script.entry know_nothing

-- 9 first, at place 0; then the walk
unfoldable pub audit_of : Script → List ℕ → Verdict
audit_of script ranges = cond (input_fits script ranges) (walk_of script ranges) (fault_at Fault.Input 0)
