-- The machine's state as C holds it.
use Rattle.std.specs.Prelude.{ℕ, cond, eqb}
use Rattle.machine_state.specs.Slot.{mode_number}
use Rattle.machine_state.specs.declared.slots.Mode.{Mode}
use Rattle.machine_state.specs.declared.slots.Slot.{Slot}
use Rattle.machine_state.specs.declared.state.State.{State}
use Rattle.capi_state.specs.declared.images.SlotImage.{SlotImage}
use Rattle.capi_state.specs.declared.images.StateImage.{StateImage}

-- numbers that name no mode stand for a slot that nothing moves but an abort
abbrev pub mode_of : ℕ → Mode
mode_of number =
    cond (eqb number 0) Mode.Idle
    (cond (eqb number 1) Mode.Running
    (cond (eqb number 2) Mode.Waiting
    (cond (eqb number 3) Mode.Blocked
    Mode.Hung)))

unfoldable pub slot_from : SlotImage → Slot
slot_from image = record { mode = mode_of image.mode; ip = record { 0 = image.ip }; addr = record { 0 = image.addr }; «data» = image.«data» }

unfoldable pub slot_image : Slot → SlotImage
slot_image slot = record { mode = mode_number slot.mode; addr = slot.addr.0; «data» = slot.«data»; ip = slot.ip.0 }

unfoldable pub image_state : StateImage → State
image_state image = record {
  family = image.family;
  code = image.code;
  marks = image.marks;
  flags = record { values = image.values; enables = image.enables };
  enable = image.enable;
  override_mode = image.override_mode;
  entries = image.entries;
  entries_high = image.entries_high;
  a = slot_from image.a;
  b = slot_from image.b;
}

unfoldable pub state_image : State → StateImage
state_image state = record {
  family = state.family;
  enable = state.enable;
  override_mode = state.override_mode;
  values = state.flags.values;
  enables = state.flags.enables;
  entries = state.entries;
  entries_high = state.entries_high;
  a = slot_image state.a;
  b = slot_image state.b;
  code = state.code;
  marks = state.marks;
}
