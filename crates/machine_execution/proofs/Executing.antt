-- The slot that is taken for the executing one does execute, where one does. Assumes nothing.
use mathlib.Core.Path.{◌≡◌}
use mathlib.Core.Bool.{true}
use Rattle.families.proofs.Tests.{cond_elim}
use Rattle.machine_state.specs.declared.slots.SlotName.{SlotName}
use Rattle.machine_state.specs.declared.state.State.{State}
use Rattle.machine_execution.specs.Execution.{executes, some_slot_executes, executing_slot}

pub executing_executes : (s : State) → some_slot_executes s ≡ true → executes s (executing_slot s) ≡ true
executing_executes s some = cond_elim (λ (name : SlotName). executes s name ≡ true) (executes s SlotName.A) (λ e. e) (λ n. rw n at some)
