-- What an action, or a reason, does that has no arm of its own: each arm `_` is told which variants are left to it. Assumes nothing.
use Prim.Native.Nat.{ℕ}
use mathlib.Core.Path.{◌≡◌, refl}
use mathlib.Core.Bool.{Bool}
use mathlib.Core.List.{[], ◌∷◌}
use denote.Enum.Declared.{tag_of}
use types.Run.{OneOf}
use Rattle.machine_actions.proofs.Variants.{no_such}
use Rattle.machine_actions.specs.declared.actions.Action.{Action}
use Rattle.machine_actions.specs.contracts.actions.Action.{the_type as action_type}
use Rattle.machine_flags.specs.declared.flags.Flags.{Flags}
use Rattle.event_log.specs.declared.place.Place.{Place}
use Rattle.refusals.specs.declared.refusals.Unreadable.{Unreadable}
use Rattle.refusals.specs.contracts.refusals.Unreadable.{the_type as reason_type}
use Rattle.machine_state.specs.declared.slots.Mode.{Mode}
use Rattle.machine_state.specs.declared.slots.Slot.{Slot}
use Rattle.machine_slot.specs.SlotStep.{mode_after, ip_after, addr_after, data_after, flags_after, effect_of, same_slot_step, unfetched_at}
use Rattle.machine_slot.specs.declared.slot_steps.Effect.{Effect}

pub runs_on : (a : Action) (enable finished : Bool) → OneOf (2 ∷ 3 ∷ []) (tag_of action_type a) → Mode.Running ≡ mode_after a enable finished
runs_on (Action.Wait n) enable finished h = no_such (2 ∷ 3 ∷ []) 0 tt h
runs_on (Action.Ewait event value) enable finished h = no_such (2 ∷ 3 ∷ []) 1 tt h
runs_on (Action.Flag change flag) enable finished h = refl
runs_on (Action.Load part operand) enable finished h = refl
runs_on (Action.Poke part operand) enable finished h = no_such (2 ∷ 3 ∷ []) 4 tt h
runs_on Action.Exit enable finished h = no_such (2 ∷ 3 ∷ []) 5 tt h

pub ip_moves : (a : Action) (at next : ℕ) → OneOf (0 ∷ 1 ∷ 2 ∷ 3 ∷ 4 ∷ []) (tag_of action_type a) → next ≡ ip_after a at next
ip_moves (Action.Wait n) at next h = refl
ip_moves (Action.Ewait event value) at next h = refl
ip_moves (Action.Flag change flag) at next h = refl
ip_moves (Action.Load part operand) at next h = refl
ip_moves (Action.Poke part operand) at next h = refl
ip_moves Action.Exit at next h = no_such (0 ∷ 1 ∷ 2 ∷ 3 ∷ 4 ∷ []) 5 tt h

pub addr_stays : (a : Action) (addr : ℕ) → OneOf (0 ∷ 1 ∷ 2 ∷ 3 ∷ 5 ∷ []) (tag_of action_type a) → addr ≡ addr_after a addr
addr_stays (Action.Wait n) addr h = refl
addr_stays (Action.Ewait event value) addr h = refl
addr_stays (Action.Flag change flag) addr h = refl
addr_stays (Action.Load part operand) addr h = refl
addr_stays (Action.Poke part operand) addr h = no_such (0 ∷ 1 ∷ 2 ∷ 3 ∷ 5 ∷ []) 4 tt h
addr_stays Action.Exit addr h = refl

pub writes_nothing : (a : Action) (enable : Bool) (addr word : ℕ) → OneOf (0 ∷ 1 ∷ 2 ∷ 3 ∷ 5 ∷ []) (tag_of action_type a)
    → Effect.Done ≡ effect_of a enable addr word
writes_nothing (Action.Wait n) enable addr word h = refl
writes_nothing (Action.Ewait event value) enable addr word h = refl
writes_nothing (Action.Flag change flag) enable addr word h = refl
writes_nothing (Action.Load part operand) enable addr word h = refl
writes_nothing (Action.Poke part operand) enable addr word h = no_such (0 ∷ 1 ∷ 2 ∷ 3 ∷ 5 ∷ []) 4 tt h
writes_nothing Action.Exit enable addr word h = refl

pub data_stays : (a : Action) (word : ℕ) → OneOf (0 ∷ 1 ∷ 2 ∷ 4 ∷ 5 ∷ []) (tag_of action_type a) → word ≡ data_after a word
data_stays (Action.Wait n) word h = refl
data_stays (Action.Ewait event value) word h = refl
data_stays (Action.Flag change flag) word h = refl
data_stays (Action.Load part operand) word h = no_such (0 ∷ 1 ∷ 2 ∷ 4 ∷ 5 ∷ []) 3 tt h
data_stays (Action.Poke part operand) word h = refl
data_stays Action.Exit word h = refl

pub flags_stay : (a : Action) (flags : Flags) → OneOf (0 ∷ 1 ∷ 3 ∷ 4 ∷ 5 ∷ []) (tag_of action_type a) → flags ≡ flags_after a flags
flags_stay (Action.Wait n) flags h = refl
flags_stay (Action.Ewait event value) flags h = refl
flags_stay (Action.Flag change flag) flags h = no_such (0 ∷ 1 ∷ 3 ∷ 4 ∷ 5 ∷ []) 2 tt h
flags_stay (Action.Load part operand) flags h = refl
flags_stay (Action.Poke part operand) flags h = refl
flags_stay Action.Exit flags h = refl

pub stops : (why : Unreadable) (family : ℕ) (slot : Slot) (flags : Flags) (p : Place) (next : ℕ) → OneOf (0 ∷ 1 ∷ 3 ∷ 4 ∷ []) (tag_of reason_type why)
    → same_slot_step slot flags p (Effect.Stopped why) ≡ unfetched_at family slot flags p next why
stops Unreadable.Family family slot flags p next h = refl
stops Unreadable.Empty family slot flags p next h = refl
stops Unreadable.Unknown family slot flags p next h = no_such (0 ∷ 1 ∷ 3 ∷ 4 ∷ []) 2 tt h
stops Unreadable.Short family slot flags p next h = refl
stops Unreadable.NotUploaded family slot flags p next h = refl
