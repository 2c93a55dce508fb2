-- What a step promises beside its answer: the laws that runs stand on.
use Rattle.std.specs.Prelude.{ℕ, ◌+◌, ◌≡◌, true, cond, not, ◌&&◌}
use Rattle.families.specs.Family.{known_family}
use Rattle.log_waits.specs.Left.{left_of}
use Rattle.event_log.specs.Log.{Log}
use Rattle.event_log.specs.Validity.{valid_log, valid_place}
use Rattle.event_log.specs.declared.place.Place.{Place}
use Rattle.machine_state.specs.Slot.{other_of, slot_of}
use Rattle.refusals.specs.Number.{unsteppable_number}
use Rattle.machine_step.specs.Step.{step_of}
use Rattle.machine_state.specs.declared.slots.SlotName.{SlotName}
use Rattle.machine_state.specs.declared.state.State.{State}
use Rattle.machine_step.specs.declared.steps.Stepped.{Stepped}
use Rattle.machine_slot.specs.declared.slot_steps.Effect.{Effect}

-- a step of a slot leaves the family, code, marks, control, entry points and the other slot alone
pub record Keeps (name : SlotName) (s t : State) : Type 0 where
  pub family : t.family ≡ s.family
  pub code : t.code ≡ s.code
  pub marks : t.marks ≡ s.marks
  pub enable : t.enable ≡ s.enable
  pub override : t.override_mode ≡ s.override_mode
  pub entries : t.entries ≡ s.entries
  pub entries_high : t.entries_high ≡ s.entries_high
  pub other : slot_of t (other_of name) ≡ slot_of s (other_of name)

-- what holds of a step under a log
pub record Passes (log : Log) (p : Place) (answer : Stepped) : Type 0 where
  -- a place in a valid log stays one
  pub stays : valid_log log ≡ true → valid_place log.clocks p ≡ true → valid_place log.clocks answer.place ≡ true
  -- what was left is what the step waited, what it passed by, and what is left then
  pub clocked : valid_log log ≡ true → left_of log.clocks p ≡ answer.waited + answer.searched + left_of log.clocks answer.place

-- the number that a step's effect stands for, 0 where it was not refused
abbrev pub effect_number : Effect → ℕ
effect_number (Effect.Refused why) = unsteppable_number why
effect_number Effect.Nothing = 0
effect_number (Effect.Stopped why) = 0
effect_number Effect.Unknown = 0
effect_number Effect.Done = 0
effect_number (Effect.Wrote address word) = 0

-- which number it must be: 9 family, then 15 log or place
unfoldable pub step_refusal : ℕ → Log → Place → ℕ
step_refusal family log p =
    cond (not (known_family family)) 9 (cond (not (valid_log log && valid_place log.clocks p)) 15 0)

pub record StepsOnce (s : State) (name : SlotName) (log : Log) (p : Place) (answer : Stepped) : Type 0 where
  pub answered : answer ≡ step_of s name log p
  pub numbered : effect_number answer.effect ≡ step_refusal s.family log p
  pub keeps : Keeps name s answer.state
  pub passes : Passes log p answer
