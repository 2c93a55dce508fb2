-- A script that fits is held by a state: its arrays of 512 bytes, filled up with 0, are fetched as the script is. Assumes nothing.
use Prim.Native.Nat.{ℕ, ◌-◌, ◌≤◌, ◌<◌}
use mathlib.Core.Path.{◌≡◌, refl, ap, ◌∙◌}
use mathlib.Core.List.{List, ◌++◌}
use native.Mathlib.Omega.{arith}
use lib.Dec.{eqb}
use lib.ListN.{length, get_or, replicate, length-append, length-replicate, get_or-append}
use Rattle.families.specs.Family.{code_size}
use Rattle.isa_fetch.proofs.FetchLaws.{same_fetch}
use Rattle.isa_fetch.proofs.Places.{size_small}
use Rattle.machine_flags.specs.declared.flags.Flags.{Flags}
use Rattle.machine_state.specs.declared.slots.Slot.{Slot}
use Rattle.machine_state.specs.declared.slots.SlotName.{SlotName}
use Rattle.machine_state.proofs.SlotLaws.{has_a}
use Rattle.script.specs.Script.{Script}
use Rattle.script.proofs.Scripts.{Fits, fits_script}
use Rattle.run.specs.SlotRun.{Scene, scene_for, slot_script, state_with, Holds}
use Rattle.run.specs.Replay.{IsHeld}

abbrev pub filled : List ℕ → List ℕ
filled l = l ++ replicate (512 - length l) 0

pub filled_size : (l : List ℕ) → length l ≤ 512 → length (filled l) ≡ 512
filled_size l h = length-append l (replicate (512 - length l) 0) ∙ omega (arith, length-replicate {A = ℕ} (512 - length l) 0)

filled_at : (l : List ℕ) (i : ℕ) → i < length l → get_or (filled l) i 0 ≡ get_or l i 0
filled_at l i h = get_or-append l (replicate (512 - length l) 0) 0 i h

-- a scene with arrays as a state has them
abbrev pub filled_scene : Scene → Scene
filled_scene x = scene_for x.family (filled x.code) (filled x.marks) x.enable x.log

module _ (x : Script) (fit : Fits x) where
  -- the script lies at the front of the arrays
  pub filled_marks : (i : ℕ) → i < code_size x.family → eqb (get_or (filled x.marks) i 0) 1 ≡ eqb (get_or x.marks i 0) 1
  filled_marks i h = ap (λ (m : ℕ). eqb m 1) (filled_at x.marks i (omega (arith, fit.marks_sized)))

  pub filled_code : (i : ℕ) → i < code_size x.family → get_or (filled x.code) i 0 ≡ get_or x.code i 0
  filled_code i h = filled_at x.code i (omega (arith, fit.code_sized))

state_holds : (x : Scene) (slot : Slot) (flags : Flags) → Fits (slot_script x slot) → Holds x slot flags SlotName.A (state_with (filled_scene x) slot flags)
state_holds x slot flags fit =
    let script = slot_script x slot in
    let small = size_small x.family in
    record {
      names_family = fit.known;
      slot_there = has_a x.family fit.known;
      same_scene = record {
        family = refl;
        enable = refl;
        log = refl;
        fetches =
            same_fetch x.family x.code x.marks (filled x.code) (filled x.marks) (omega (arith, fit.code_sized))
            (omega (arith, fit.code_sized, filled_size x.code (omega (arith, fit.code_sized))))
            (filled_marks script fit) (λ i h _. filled_code script fit i h);
      };
      same_slot = refl;
      same_flags = refl;
    }

pub is_held : (x : Scene) (slot : Slot) (flags : Flags) → IsHeld x slot flags
is_held x slot flags fits =
    let fit = fits_script (slot_script x slot) fits in
    let small = size_small x.family in (
      state_with (filled_scene x) slot flags,
      filled_size x.code (omega (arith, fit.code_sized)),
      filled_size x.marks (omega (arith, fit.marks_sized)),
      state_holds x slot flags fit,
    )
