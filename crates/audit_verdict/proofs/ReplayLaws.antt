-- A start's slot runs as replay does, so replay answers what the start's steps give. Assumes nothing.
use Rattle.std.specs.Prelude.{Ok}
use Prim.Native.Nat.{ℕ, ◌^◌, ◌<◌}
use mathlib.Core.Path.{◌≡◌, ap, ap₂, sym, ◌∙◌}
use mathlib.Core.Bool.{Bool, true}
use native.Mathlib.Omega.{arith}
use borrow.Author.Tests.{le-leb}
use Rattle.machine_flags.specs.Flags.{flags_word0, flags_word1, flags_from_words}
use Rattle.machine_state.specs.Slot.{slot_of}
use Rattle.machine_flags.specs.declared.flags.Flags.{Flags}
use Rattle.script.specs.Input.{script_fits}
use Rattle.run.specs.SlotRun.{SlotRun, script_scene, slot_script, slot_run_of}
use Rattle.run.specs.Registers.{registers_in, slot_given, flags_given}
use Rattle.run.specs.Replay.{max_entries, told_of, progress_of, full_slot_run, run_answer_of}
use Rattle.run.proofs.InState.{run_back, full_follows}
use Rattle.audit_verdict.specs.Demand3.{ReplayTellsAll}
use Rattle.script.specs.Script.{Script}
use Rattle.script.proofs.Scripts.{fits_script}
use Rattle.audit_verdict.proofs.Going.{scene_under}
use Rattle.audit_verdict.proofs.Starts.{holds}

abbrev flags_of : ℕ → ℕ → Flags
flags_of values enables = record { values = values; enables = enables }

-- the two words hold the flags
words_back : (flags : Flags) → flags.values < 2 ^ 32 → flags_from_words (flags_word0 flags) (flags_word1 flags) ≡ flags
words_back flags h = ap₂ flags_of (omega arith) (omega arith)

-- "replay answers what the steps give"
pub replay_tells : (x : Script) → script_fits x ≡ true → ReplayTellsAll x
unfolding run_answer_of
replay_tells x fits name s start log valid lent enough =
    let given = registers_in name s in
    let takes : script_fits (slot_script (scene_under x log) (slot_given x given)) ≡ true = fits in
    let held = holds start (fits_script x fits) log in
    let shows = ap (slot_run_of name) (full_follows (scene_under x log) (slot_of s name) s.flags name s held valid) ∙ run_back s name _ in
    let slot : slot_given x given ≡ slot_of s name = rw (← start.executing, ← start.at_entry) in
    let same =
    ap (λ (enable : Bool). full_slot_run (script_scene x enable log) (slot_given x given) (flags_given given)) start.enabled
    ∙ ap₂ (full_slot_run (scene_under x log)) slot (words_back s.flags start.in_type.values)
    ∙ sym shows in (
      simp (takes, le-leb max_entries lent enough, valid) (ap (λ (r : SlotRun). Ok (told_of log.clocks (progress_of r))) same),
      ap (λ (r : SlotRun). r.writes) same,
    )
