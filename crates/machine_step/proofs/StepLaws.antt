-- What a step is, what it shows of its slot, what it keeps, and what it passes. Assumes nothing.
use Rattle.std.specs.Prelude.{Err}
use Prim.Native.Nat.{ℕ}
use mathlib.Core.Path.{◌≡◌, refl, sym, subst}
use mathlib.Core.Bool.{true, false, ◌&&◌}
use mathlib.Core.List.{List}
use native.Mathlib.Omega.{arith}
use borrow.Author.Tests.{lt-ltb}
use Rattle.families.specs.Family.{known_family}
use Rattle.isa.specs.Answers.{Decoded}
use Rattle.families.proofs.Tests.{both_right, cond_elim}
use Rattle.refusals.specs.declared.refusals.Unreadable.{Unreadable}
use Rattle.isa_fetch.specs.Fetch.{fetch_of, past_opcode}
use Rattle.isa_fetch.proofs.Places.{unknown_within}
use Rattle.event_log.specs.Log.{Log}
use Rattle.event_log.specs.Validity.{valid_log, valid_place}
use Rattle.event_log.specs.declared.place.Place.{Place}
use Rattle.machine_state.specs.Slot.{has_slot, is_running, slot_of}
use Rattle.machine_step.specs.Step.{unmoved, after_slot_step, advance_of, step_of}
use Rattle.machine_slot.specs.SlotStep.{unfetched_at, unfetched, slot_step_of}
use Rattle.machine_step.specs.Promises.{Keeps, Passes, StepsOnce, effect_number, step_refusal}
use Rattle.machine_flags.specs.declared.flags.Flags.{Flags}
use Rattle.machine_state.specs.declared.slots.SlotName.{SlotName}
use Rattle.machine_state.specs.declared.slots.Slot.{Slot}
use Rattle.machine_state.specs.declared.state.State.{State}
use Rattle.machine_step.specs.declared.steps.Stepped.{Stepped}
use Rattle.refusals.specs.declared.refusals.Unsteppable.{Unsteppable}
use Rattle.machine_slot.specs.declared.slot_steps.Effect.{Effect}
use Rattle.machine_slot.specs.declared.slot_steps.SlotStep.{SlotStep}
use Rattle.machine_slot.proofs.SlotStepLaws.{slot_step_clocks, slot_step_place}
use Rattle.machine_step.proofs.Taken.{slot_step_taken}

-- ---- what a step is

-- the fetch at a slot's IP
abbrev fetched_at : State → SlotName → Decoded
fetched_at s name = fetch_of s.family s.code s.marks (slot_of s name).ip.0

module _ (s : State) (name : SlotName) (log : Log) (p : Place) where
  -- the step that the slot takes if it runs
  abbrev slot_step_at : SlotStep
  slot_step_at = slot_step_of s.family s.enable (slot_of s name) s.flags log p (fetched_at s name)

  advance_elim : (P : Stepped → Type 0) → P (unmoved s p Effect.Nothing) → (is_running (slot_of s name).mode ≡ true → P (after_slot_step s name slot_step_at))
      → P (advance_of s name log p)
  unfolding advance_of
  advance_elim P still step =
      cond_elim P (has_slot s.family name && is_running (slot_of s name).mode)
      (λ h. step (both_right (has_slot s.family name) (is_running (slot_of s name).mode) h))
      (λ _. still)

  -- a step is refused, or nothing, or a step of a slot that runs
  step_elim : (P : Stepped → Type 0) → ((why : Unsteppable) → P (unmoved s p (Effect.Refused why))) → P (unmoved s p Effect.Nothing)
      → (is_running (slot_of s name).mode ≡ true → P (after_slot_step s name slot_step_at)) → P (step_of s name log p)
  unfolding step_of
  step_elim P refused still step =
      cond_elim P (known_family s.family)
      (λ _. cond_elim P (valid_log log && valid_place log.clocks p) (λ _. advance_elim P still step) (λ _. refused Unsteppable.Log))
      (λ _. refused Unsteppable.Family)

-- ---- what a step keeps and what it passes

keeps_all : (name : SlotName) (s : State) → Keeps name s s
keeps_all name s = record { family = refl; code = refl; marks = refl; enable = refl; override = refl; entries = refl; entries_high = refl; other = refl }

keeps_slot_step : (s : State) (name : SlotName) (t : SlotStep) → Keeps name s (after_slot_step s name t).state
keeps_slot_step s SlotName.A t = record {
  family = refl;
  code = refl;
  marks = refl;
  enable = refl;
  override = refl;
  entries = refl;
  entries_high = refl;
  other
      = refl;
}
keeps_slot_step s SlotName.B t = record {
  family = refl;
  code = refl;
  marks = refl;
  enable = refl;
  override = refl;
  entries = refl;
  entries_high = refl;
  other
      = refl;
}

module _ (s : State) (name : SlotName) (log : Log) (p : Place) where
  -- what a step may come to
  record Law (t : Stepped) : Type 0 where
    keeps : Keeps name s t.state
    passes : Passes log p t

  still_law : (effect : Effect) → Law (unmoved s p effect)
  still_law effect = record { keeps = keeps_all name s; passes = record { stays = λ valid v. v; clocked = λ valid. omega arith } }

  slot_step_law : Law (after_slot_step s name (slot_step_at s name log p))
  slot_step_law = record {
    keeps = keeps_slot_step s name (slot_step_at s name log p);
    passes = record {
      stays = λ valid v. slot_step_place log valid s.family s.enable (slot_of s name) s.flags p (fetched_at s name) v;
      clocked = λ valid. slot_step_clocks log valid s.family s.enable (slot_of s name) s.flags p (fetched_at s name);
    };
  }

  -- the two ways of `advance_of`, from what the code finds
  module _ (slot : Slot) (is : slot ≡ slot_of s name) where
    pub advance_still : (has_slot s.family name && is_running slot.mode) ≡ false → unmoved s p Effect.Nothing ≡ advance_of s name log p
    unfolding advance_of
    advance_still h = let g : (has_slot s.family name && is_running (slot_of s name).mode) ≡ false = rw is at h in simp g

    pub advance_slot_step : (has_slot s.family name && is_running slot.mode) ≡ true → (found : Decoded)
        → found ≡ fetch_of s.family s.code s.marks slot.ip.0
        → (t : SlotStep) → t ≡ slot_step_of s.family s.enable slot s.flags log p found → after_slot_step s name t ≡ advance_of s name log p
    unfolding advance_of
    advance_slot_step h found f t e =
        let g : (has_slot s.family name && is_running (slot_of s name).mode) ≡ true = rw is at h in
        simp g (rw (e, f, is))

  advance_number : effect_number (advance_of s name log p).effect ≡ 0
  advance_number =
      advance_elim s name log p (λ (t : Stepped). effect_number t.effect ≡ 0) refl
      (λ _. slot_step_taken s.family s.enable (slot_of s name) s.flags log p (fetched_at s name))

  step_law : Law (step_of s name log p)
  step_law = step_elim s name log p Law (λ why. still_law (Effect.Refused why)) (still_law Effect.Nothing) (λ _. slot_step_law)

  step_number : effect_number (step_of s name log p).effect ≡ step_refusal s.family log p
  unfolding step_of step_refusal
  step_number =
      cond_elim P (known_family s.family)
      (λ u. cond_elim P (valid_log log && valid_place log.clocks p) (λ v. simp (u, v) advance_number) (λ v. simp (u, v)))
      (λ u. simp u)
    where
      P : Stepped → Type 0
      P t = effect_number t.effect ≡ step_refusal s.family log p

  pub steps : {t : Stepped} → t ≡ step_of s name log p → StepsOnce s name log p t
  steps e =
      let law = subst Law (sym e) step_law in
      record {
        answered = e;
        numbered = subst (λ (t : Stepped). effect_number t.effect ≡ step_refusal s.family log p) (sym e) step_number;
        keeps = law.keeps;
        passes = law.passes;
      }

-- past an unknown opcode is the next place, since an opcode lies in the code RAM
pub unfetched_past : (family : ℕ) (code marks : List ℕ) (slot : Slot) (flags : Flags) (p : Place) (why : Unreadable)
    → fetch_of family code marks slot.ip.0 ≡ Err why
    → unfetched_at family slot flags p (past_opcode slot.ip.0) why ≡ unfetched family slot flags p why
unfetched_past family code marks slot flags p Unreadable.Family e = refl
unfetched_past family code marks slot flags p Unreadable.Empty e = refl
unfetched_past family code marks slot flags p Unreadable.Unknown e = rw (lt-ltb slot.ip.0 512 (unknown_within family code marks slot.ip.0 e))
unfetched_past family code marks slot flags p Unreadable.Short e = refl
unfetched_past family code marks slot flags p Unreadable.NotUploaded e = refl
