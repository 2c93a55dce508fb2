-- The image of a state stands for that state. Assumes nothing.
use mathlib.Core.Path.{◌≡◌, refl}
use Rattle.machine_state.specs.declared.slots.Mode.{Mode}
use Rattle.machine_state.specs.declared.state.State.{State}
use Rattle.machine_state.specs.Slot.{mode_number}
use Rattle.capi_state.specs.Images.{mode_of, slot_from, slot_image, image_state, state_image}

mode_back : (m : Mode) → mode_of (mode_number m) ≡ m
mode_back Mode.Idle = refl
mode_back Mode.Running = refl
mode_back Mode.Waiting = refl
mode_back Mode.Blocked = refl
mode_back Mode.Hung = refl

pub image_back : (s : State) → image_state (state_image s) ≡ s
unfolding image_state state_image slot_from slot_image
image_back s = rw (mode_back s.a.mode, mode_back s.b.mode)
