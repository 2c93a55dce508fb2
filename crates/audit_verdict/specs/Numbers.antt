-- Which number the auditor's verdict must have (01, "What the auditor says"): its table as tests in their order at one place, over what the script did
-- before that place. Nothing here is what the auditor keeps of it.
use Rattle.std.specs.Prelude.{ℕ, zero, suc, ◌+◌, Bool, true, false, cond, not, ◌&&◌, ◌||◌, List, [], ◌∷◌, ◌++◌, ltb, eqb, Ok, Err}
use Rattle.families.specs.Family.{code_size, pauses_memory}
use Rattle.refusals.specs.Listing.{Test, test, first_of}
use Rattle.isa.specs.Answers.{Decoded}
use Rattle.isa_fetch.specs.Fetch.{fetch_tests}
use Rattle.machine_flags.specs.Flags.{fb_pause}
use Rattle.machine_actions.specs.Action.{action_of}
use Rattle.machine_actions.specs.declared.actions.Action.{Action}
use Rattle.machine_actions.specs.declared.actions.Part.{Part}
use Rattle.machine_slot.specs.SlotStep.{addr_after}
use Rattle.script.specs.Script.{Script, fetch_at}
use Rattle.script.specs.Input.{listed_in, input_fits}
use Rattle.audit_verdict.specs.Auditor.{is_set1}

-- ---- what a script did before a place, the last action first

abbrev pub is_low : Part → Bool
is_low Part.Whole = false
is_low Part.Low = true

-- addr: a poke with the whole of ADDR
abbrev pub is_addr : Action → Bool
is_addr (Action.Wait n) = false
is_addr (Action.Ewait event value) = false
is_addr (Action.Flag change flag) = false
is_addr (Action.Load part word) = false
is_addr (Action.Poke part word) = not (is_low part)
is_addr Action.Exit = false

-- data: both halves of DATA; datalo sets the low one alone
abbrev pub is_data : Action → Bool
is_data (Action.Wait n) = false
is_data (Action.Ewait event value) = false
is_data (Action.Flag change flag) = false
is_data (Action.Load part word) = not (is_low part)
is_data (Action.Poke part word) = false
is_data Action.Exit = false

abbrev pub is_exit : Action → Bool
is_exit (Action.Wait n) = false
is_exit (Action.Ewait event value) = false
is_exit (Action.Flag change flag) = false
is_exit (Action.Load part word) = false
is_exit (Action.Poke part word) = false
is_exit Action.Exit = true

-- some of them is such
abbrev pub some_is : (Action → Bool) → List Action → Bool
some_is such [] = false
some_is such (action ∷ before) = such action || some_is such before

-- ADDR after them; one that nothing has set is never asked for
abbrev pub addr_held : List Action → ℕ
addr_held [] = 0
addr_held (action ∷ before) = addr_after action (addr_held before)

-- the last touch of flag 16 was set1
abbrev pub left_paused : List Action → Bool
left_paused [] = false
left_paused (Action.Wait n ∷ before) = left_paused before
left_paused (Action.Ewait event value ∷ before) = left_paused before
left_paused (Action.Flag change flag ∷ before) = cond (eqb flag fb_pause) (is_set1 change) (left_paused before)
left_paused (Action.Load part word ∷ before) = left_paused before
left_paused (Action.Poke part word ∷ before) = left_paused before
left_paused (Action.Exit ∷ before) = left_paused before

-- ---- the tests at one place

-- of an action: 4, 5, 6 of a poke, 7 of an ewait, 8 of exit
abbrev pub action_tests : ℕ → List ℕ → List Action → Action → List Test
action_tests family ranges before (Action.Wait n) = []
action_tests family ranges before (Action.Ewait event value) = test (ltb 31 event || ltb 1 value) 7 ∷ []
action_tests family ranges before (Action.Flag change flag) = []
action_tests family ranges before (Action.Load part word) = []
action_tests family ranges before (Action.Poke part word) =
    test (is_low part && not (some_is is_addr before)) 4
    ∷ test (not (some_is is_data before)) 5
    ∷ test (not (listed_in ranges (addr_held (Action.Poke part word ∷ before)))) 6
    ∷ []
action_tests family ranges before Action.Exit = test (pauses_memory family && left_paused before) 8 ∷ []

-- of what was fetched
abbrev pub found_tests : ℕ → List ℕ → List Action → Decoded → List Test
found_tests family ranges before (Ok (i, n)) = action_tests family ranges before (action_of i)
found_tests family ranges before (Err why) = []

-- "At one place: first byte 1, 2, 3, then operands 1, 2, then 4, 5, 6"
abbrev pub tests_at : Script → List ℕ → List Action → ℕ → List Test
tests_at script ranges before at =
    fetch_tests script.family script.code script.marks at ++ found_tests script.family ranges before (fetch_at script at)

-- ---- from the entry to the first exit, the first fault

-- at most so many instructions are left; with none left the place lies past the code RAM
unfoldable pub number_in : ℕ → Script → List ℕ → List Action → ℕ → ℕ
number_in zero script ranges before at = 1
number_in (suc left) script ranges before at =
    let number = first_of (tests_at script ranges before at) in
    let later : ℕ = elim (fetch_at script at) [
      | Ok (i, n) ↦ cond (is_exit (action_of i)) 0 (number_in left script ranges (action_of i ∷ before) (at + n))
      -- a test of the fetch failed
      | Err why ↦ 0
    ] in
    cond (eqb number 0) later number

-- 9 is tested first
unfoldable pub audit_number : Script → List ℕ → ℕ
audit_number script ranges = cond (input_fits script ranges) (number_in (code_size script.family) script ranges [] script.entry) 9
