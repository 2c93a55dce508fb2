-- What every state holds that host writes alone made of a fresh one (01, "Host registers"). Assumes nothing.
use Prim.Native.Nat.{ℕ, zero, suc, ◌/◌, ◌%◌, ◌≤◌}
use mathlib.Core.Path.{◌≡◌, refl, sym, ◌∙◌}
use mathlib.Core.Bool.{Bool, true, false, not, ◌&&◌, ◌||◌, true≢false, false≢true, and-false, or-true}
use mathlib.Core.List.{List, [], ◌∷◌}
use mathlib.Core.Logic.{◌⊎◌, inl, inr, ⊎_elim}
use native.Mathlib.Omega.{arith}
use lib.Dec.{eqb}
use lib.ListN.{get_or, set, replicate, length-replicate}
use lib.Seq.{sets, length-sets}
use borrow.Author.Tests.{eqb-true}
use Rattle.families.specs.Family.{by_family, known_family, highest_entry}
use Rattle.families.proofs.Tests.{cond_elim, by_family_elim}
use Rattle.isa.specs.Writer.{le_bytes}
use Rattle.isa.specs.declared.addresses.MmioAddress.{MmioAddress}
use Rattle.machine_flags.specs.declared.flags.Flags.{Flags}
use Rattle.machine_state.specs.Slot.{has_slot, is_idle, other_of, slot_of, with_slot}
use Rattle.machine_state.specs.declared.slots.Mode.{Mode}
use Rattle.machine_state.specs.declared.slots.Slot.{Slot}
use Rattle.machine_state.specs.declared.slots.SlotName.{SlotName}
use Rattle.machine_state.specs.declared.state.State.{State}
use Rattle.machine_execution.specs.Execution.{executes, some_slot_executes}
use Rattle.host_registers.specs.Access.{blank_state, fresh_of, after_write, is_taken, write_of}
use Rattle.host_registers.specs.Code.{four_marks, after_upload}
use Rattle.host_registers.specs.Entry.{entry_point}
use Rattle.host_registers.specs.Register.{trigger_at, is_high, register_at, is_writable}
use Rattle.host_registers.specs.Trigger.{is_start, slot_named, started_at, aborted, after_trigger}
use Rattle.host_registers.proofs.BackLaws.{Roomy}
use Rattle.host_registers.specs.declared.access.Access.{Access}
use Rattle.host_registers.specs.declared.registers.Register.{Register}

-- running, and IP is an entry point that the family's registers can hold
abbrev pub RunsFromEntry : ℕ → Slot → Type 0
RunsFromEntry family slot = (slot.mode ≡ Mode.Running) × (slot.ip.0 ≤ highest_entry family)

abbrev IdleOrRuns : ℕ → Slot → Type 0
IdleOrRuns family slot = (slot.mode ≡ Mode.Idle) ⊎ RunsFromEntry family slot

-- each mark is 0 or 1
abbrev Plain : List ℕ → Type 0
Plain marks = (i : ℕ) → get_or marks i 0 ≤ 1

pub record HostMade (s : State) : Type 0 where
  pub roomy : Roomy s
  pub plain : Plain s.marks
  pub a : IdleOrRuns s.family s.a
  pub b : IdleOrRuns s.family s.b
  -- one slot at a time
  pub alone : executes s SlotName.A ≡ true → executes s SlotName.B ≡ true → ⊥

-- an idle slot does not execute
idle_still : {A : Type 0} (there : Bool) {mode : Mode} → mode ≡ Mode.Idle → (there && not (is_idle mode)) ≡ true → A
idle_still there idle e = absurd (true≢false (sym e ∙ rw idle (and-false there)))

-- ---- a fresh state

none_marked : (n : ℕ) → Plain (replicate n 0)
none_marked zero i = omega arith
none_marked (suc n) zero = omega arith
none_marked (suc n) (suc i) = none_marked n i

blank_made : (family : ℕ) → HostMade (blank_state family)
unfolding blank_state
blank_made family = record {
  roomy = record { code = length-replicate {A = ℕ} 512 0; marks = length-replicate {A = ℕ} 512 0 };
  plain = none_marked 512;
  a = inl refl;
  b = inl refl;
  alone = λ _. idle_still (has_slot family SlotName.B) refl;
}

pub fresh_made : (family : ℕ) → HostMade (fresh_of family).state
fresh_made family = cond_elim (λ (t : Access). HostMade t.state) (known_family family) (λ _. blank_made family) (λ _. blank_made family)

-- ---- an upload

mark_plain : (marks : List ℕ) (at : ℕ) → Plain marks → Plain (set marks at 1)
mark_plain [] at h i = h i
mark_plain (m ∷ marks) zero h zero = omega arith
mark_plain (m ∷ marks) zero h (suc i) = h (suc i)
mark_plain (m ∷ marks) (suc at) h zero = h zero
mark_plain (m ∷ marks) (suc at) h (suc i) = mark_plain marks at (λ k. h (suc k)) i

marks_plain_lem : (n : ℕ) (marks : List ℕ) (at : ℕ) → Plain marks → Plain (sets marks at (replicate n 1))
marks_plain_lem zero marks at h = h
marks_plain_lem (suc n) marks at h = marks_plain_lem n (set marks at 1) (suc at) (mark_plain marks at h)

upload_made : (s : State) (at word : ℕ) → HostMade s → HostMade (after_upload s at word)
unfolding after_upload
upload_made s at word made = record {
  roomy = record {
    code = length-sets s.code at (le_bytes 4 word) ∙ made.roomy.code;
    marks = length-sets s.marks at four_marks ∙ made.roomy.marks;
  };
  plain = marks_plain_lem 4 s.marks at made.plain;
  a = made.a;
  b = made.b;
  alone = made.alone;
}

-- ---- what reaches neither code nor slots

same_host : (s t : State) → t.family ≡ s.family → t.code ≡ s.code → t.marks ≡ s.marks → t.a ≡ s.a → t.b ≡ s.b → HostMade s → HostMade t
same_host s t f c m a b made = record {
  roomy = record { code = rw c made.roomy.code; marks = rw m made.roomy.marks };
  plain = rw m made.plain;
  a = rw (f, a) made.a;
  b = rw (f, b) made.b;
  alone = rw (f, a, b) made.alone;
}

-- ---- a trigger

-- while the other slot executes, this one may only become idle
slot_made : (s : State) (name : SlotName) (slot : Slot) (flags : Flags) → HostMade s → IdleOrRuns s.family slot
    → (executes s (other_of name) ≡ true → slot.mode ≡ Mode.Idle) → HostMade (with_slot s name slot flags)
slot_made s SlotName.A slot flags made fine idle = record {
  roomy = record { code = made.roomy.code; marks = made.roomy.marks };
  plain = made.plain;
  a = fine;
  b = made.b;
  alone = λ a b. idle_still (has_slot s.family SlotName.A) (idle b) a;
}
slot_made s SlotName.B slot flags made fine idle = record {
  roomy = record { code = made.roomy.code; marks = made.roomy.marks };
  plain = made.plain;
  a = made.a;
  b = fine;
  alone = λ a b. idle_still (has_slot s.family SlotName.B) (idle a) b;
}

-- an entry point is a byte, with a ninth bit on family 4
entry_low : (family low high n : ℕ) → known_family family ≡ true → entry_point family low high n ≤ highest_entry family
unfolding entry_point by_family
entry_low family low high n known =
    let byte : 255 ≤ highest_entry family =
    by_family_elim (λ (most : ℕ). 255 ≤ most) family 255 255 255 511 (omega arith) (omega arith) (omega arith) (omega arith)
    (λ unknown. absurd (true≢false (sym known ∙ unknown))) in
    cond_elim (λ (entry : ℕ). entry ≤ highest_entry family) (is_high family)
    (λ high. let e : family ≡ 4 = eqb-true family 4 high in rw e (omega arith))
    (λ _. omega arith)

some_executes_lem : (s : State) (name : SlotName) → executes s name ≡ true → some_slot_executes s ≡ true
some_executes_lem s SlotName.A e = rw e
some_executes_lem s SlotName.B e = rw e (or-true (executes s SlotName.A))

-- while a slot executes, only an abort is taken
none_starts : (trigger start executing : Bool) → (trigger && not start || not executing) ≡ true → start ≡ true → executing ≡ true → ⊥
none_starts true true true taken starts on = false≢true taken
none_starts false true true taken starts on = false≢true taken
none_starts trigger true false taken starts on = false≢true on
none_starts trigger false executing taken starts on = false≢true starts

module _ (s : State) (address : MmioAddress) (word : ℕ) (made : HostMade s) (known : known_family s.family ≡ true)
    (taken : is_taken s address word ≡ true) where
  -- so a start finds none executing
  start_alone : is_start word ≡ true → (name : SlotName) → executes s name ≡ true → ⊥
  start_alone starts name e = none_starts (eqb address.0 trigger_at) (is_start word) (some_slot_executes s) taken starts (some_executes_lem s name e)

  trigger_made : HostMade (after_trigger s word)
  unfolding after_trigger
  trigger_made =
      let name = slot_named s.family word in
      let entry = entry_point s.family s.entries s.entries_high (word / 4 % 4) in
      let low = entry_low s.family s.entries s.entries_high (word / 4 % 4) known in
      cond_elim HostMade (is_start word)
      (λ starts. slot_made s name (started_at (slot_of s name) entry) s.flags made (inr (refl, low)) (λ e. absurd (start_alone starts (other_of name) e)))
      (λ _. slot_made s name (aborted (slot_of s name)) s.flags made (inl refl) (λ _. refl))

  after_made : (register : Register) → HostMade (after_write s register word)
  after_made Register.Control = same_host s _ refl refl refl refl refl made
  after_made Register.EntryPoint = same_host s _ refl refl refl refl refl made
  after_made Register.Status = made
  after_made Register.Trigger = trigger_made
  after_made Register.Flags0 = same_host s _ refl refl refl refl refl made
  after_made Register.Flags1 = same_host s _ refl refl refl refl refl made
  after_made Register.EntryPointHigh = same_host s _ refl refl refl refl refl made
  after_made (Register.Code at) = upload_made s at.0 word made
  after_made Register.Events = made
  after_made Register.Unlisted = made

pub write_made : (s : State) (address : MmioAddress) (word : ℕ) → HostMade s → HostMade (write_of s address word).state
unfolding write_of
write_made s address word made =
    let register = register_at s.family address in
    cond_elim Made (known_family s.family)
    (λ known. cond_elim Made (is_writable register)
    (λ _. cond_elim Made (is_taken s address word) (λ taken. after_made s address word made known taken register) (λ _. made))
    (λ _. made))
    (λ _. made)
  where
    Made : Access → Type 0
    Made t = HostMade t.state

-- ---- the slot that executes

idle_of : (mode : Mode) → (not (is_idle mode) ≡ true → ⊥) → mode ≡ Mode.Idle
idle_of Mode.Idle h = refl
idle_of Mode.Running h = absurd (h refl)
idle_of Mode.Waiting h = absurd (h refl)
idle_of Mode.Blocked h = absurd (h refl)
idle_of Mode.Hung h = absurd (h refl)

module _ (s : State) (made : HostMade s) where
  pub executing_runs : (name : SlotName) → executes s name ≡ true → RunsFromEntry s.family (slot_of s name)
  executing_runs SlotName.A e = ⊎_elim (λ idle. idle_still (has_slot s.family SlotName.A) idle e) (λ r. r) made.a
  executing_runs SlotName.B e = ⊎_elim (λ idle. idle_still (has_slot s.family SlotName.B) idle e) (λ r. r) made.b

  pub other_idle : (name : SlotName) → executes s name ≡ true → has_slot s.family (other_of name) ≡ true
      → (slot_of s (other_of name)).mode ≡ Mode.Idle
  other_idle SlotName.A e there = idle_of s.b.mode (λ n. made.alone e (rw (there, n)))
  other_idle SlotName.B e there = idle_of s.a.mode (λ n. made.alone (rw (there, n)) e)
