-- What an access keeps, which number it has, and what an abort comes to. Assumes nothing.
use Prim.Native.Nat.{ℕ, ◌^◌, ◌<◌}
use native.Mathlib.Omega.{arith}
use mathlib.Core.Path.{◌≡◌, refl, sym, ap, subst, ◌∙◌}
use mathlib.Core.Bool.{Bool, true, false, cond, not, ◌&&◌, ◌||◌}
use Rattle.std.specs.Prelude.{Result, Ok, Err}
use Rattle.families.specs.Family.{known_family}
use Rattle.families.proofs.Tests.{cond_elim}
use Rattle.isa.specs.declared.addresses.CodeAddress.{CodeAddress}
use Rattle.isa.specs.declared.addresses.MmioAddress.{MmioAddress}
use Rattle.machine_state.specs.Slot.{slot_of, with_slot}
use Rattle.machine_state.specs.declared.slots.Mode.{Mode}
use Rattle.machine_state.specs.declared.slots.SlotName.{SlotName}
use Rattle.machine_state.specs.declared.state.State.{State}
use Rattle.host_registers.specs.Access.{fresh_of, after_write, is_abort, is_taken, write_of, reading_of, read_of}
use Rattle.host_registers.specs.Code.{after_upload}
use Rattle.machine_execution.specs.Execution.{some_slot_executes}
use Rattle.host_registers.specs.Promises.{outcome_number, reading_number, fresh_refusal, write_refusal, is_readable, read_refusal, kept_bits}
use Rattle.host_registers.specs.Promises.{Unmoved, TakenTrigger, Spares, Stops, Begins, WritesInPlace, HostWrites, HostReads}
use Rattle.host_registers.specs.Register.{status_at, trigger_at, register_at, is_writable}
use Rattle.host_registers.specs.Status.{status_word}
use Rattle.host_registers.specs.Trigger.{is_start, slot_named, aborted, after_trigger, Triggers}
use Rattle.host_registers.proofs.BackLaws.{Roomy, word_back}
use Rattle.host_registers.proofs.RegisterLaws.{register_in_room}
use Rattle.host_registers.proofs.StatusBits.{status_shown}
use Rattle.host_registers.proofs.TriggerBits.{triggers}
use Rattle.host_registers.specs.declared.access.Access.{Access}
use Rattle.refusals.specs.declared.refusals.Inaccessible.{Inaccessible}
use Rattle.host_registers.specs.declared.registers.Register.{Register}

pub begins : (family : ℕ) {t : Access} → t ≡ fresh_of family → Begins family t
begins family e = record { answered = e; numbered = subst P (sym e) number }
  where
    P : Access → Type 0
    P t = outcome_number t.outcome ≡ fresh_refusal family

    number : P (fresh_of family)
    number = cond_elim P (known_family family) (λ u. simp u) (λ u. simp u)

by_test : {A : Type 0} (b : Bool) → (b ≡ true → A) → (b ≡ false → A) → A
by_test true f g = f refl
by_test false f g = g refl

-- a refused access is not done
undone : {A : Type 0} {why : Inaccessible} → ◌≡◌ {A = Result Unit Inaccessible} (Err why) (Ok tt) → A
undone e = let z : ◌≡◌ {A = ℕ} 0 1 = cc in absurd (omega arith)

-- taken where no slot executes or the write is an abort, and otherwise 28
taken_free : (abort executing : Bool) → (abort || not executing) ≡ true → (executing && not abort) ≡ false
taken_free true true h = refl
taken_free true false h = refl
taken_free false true h = sym h
taken_free false false h = refl

held_refused : (abort executing : Bool) → (abort || not executing) ≡ false → (executing && not abort) ≡ true
held_refused true true h = sym h
held_refused true false h = sym h
held_refused false true h = refl
held_refused false false h = sym h

spares_all : (s : State) → Spares s s
spares_all s = record { family = refl; addr = λ name. refl; «data» = λ name. refl }

-- a trigger writes one slot, whose ADDR and DATA it copies
module _ (s : State) (mode : Mode) (ip : CodeAddress) where
  abbrev moved : SlotName → State
  moved name = with_slot s name (record { mode = mode; ip = ip; addr = (slot_of s name).addr; «data» = (slot_of s name).«data» }) s.flags

  moved_addr : (name other : SlotName) → (slot_of (moved name) other).addr ≡ (slot_of s other).addr
  moved_addr SlotName.A SlotName.A = refl
  moved_addr SlotName.A SlotName.B = refl
  moved_addr SlotName.B SlotName.A = refl
  moved_addr SlotName.B SlotName.B = refl

  moved_data : (name other : SlotName) → (slot_of (moved name) other).«data» ≡ (slot_of s other).«data»
  moved_data SlotName.A SlotName.A = refl
  moved_data SlotName.A SlotName.B = refl
  moved_data SlotName.B SlotName.A = refl
  moved_data SlotName.B SlotName.B = refl

  moved_family : (name : SlotName) → (moved name).family ≡ s.family
  moved_family SlotName.A = refl
  moved_family SlotName.B = refl

  spares_moved : (name : SlotName) → Spares s (moved name)
  spares_moved name = record { family = moved_family name; addr = moved_addr name; «data» = moved_data name }

spares_trigger : (s : State) (word : ℕ) → Spares s (after_trigger s word)
unfolding after_trigger
spares_trigger s word =
    cond_elim (Spares s) (is_start word)
    (λ _. spares_moved s _ _ (slot_named s.family word))
    (λ _. spares_moved s _ (slot_of s (slot_named s.family word)).ip (slot_named s.family word))

both : (s t : State) → t.family ≡ s.family → t.a ≡ s.a → t.b ≡ s.b → Spares s t
both s t f a b = record { family = f; addr = addr_of; «data» = data_of }
  where
    addr_of : (name : SlotName) → (slot_of t name).addr ≡ (slot_of s name).addr
    addr_of SlotName.A = rw a
    addr_of SlotName.B = rw b

    data_of : (name : SlotName) → (slot_of t name).«data» ≡ (slot_of s name).«data»
    data_of SlotName.A = rw a
    data_of SlotName.B = rw b

spares_write : (s : State) (register : Register) (word : ℕ) → Spares s (after_write s register word)
unfolding after_upload
spares_write s Register.Control word = both s _ refl refl refl
spares_write s Register.EntryPoint word = both s _ refl refl refl
spares_write s Register.Status word = spares_all s
spares_write s Register.Trigger word = spares_trigger s word
spares_write s Register.Flags0 word = both s _ refl refl refl
spares_write s Register.Flags1 word = both s _ refl refl refl
spares_write s Register.EntryPointHigh word = both s _ refl refl refl
spares_write s (Register.Code at) word = both s _ refl refl refl
spares_write s Register.Events word = spares_all s
spares_write s Register.Unlisted word = spares_all s

stopped_mode : (s : State) (name : SlotName) → (slot_of (with_slot s name (aborted (slot_of s name)) s.flags) name).mode ≡ Mode.Idle
stopped_mode s SlotName.A = refl
stopped_mode s SlotName.B = refl

stopped_ip : (s : State) (name : SlotName) → (slot_of (with_slot s name (aborted (slot_of s name)) s.flags) name).ip ≡ (slot_of s name).ip
stopped_ip s SlotName.A = refl
stopped_ip s SlotName.B = refl

stopped_still : (s : State) (name : SlotName) → (slot_of s name).mode ≡ Mode.Idle → with_slot s name (aborted (slot_of s name)) s.flags ≡ s
stopped_still s SlotName.A h = rw (← h)
stopped_still s SlotName.B h = rw (← h)

module _ (s : State) (address : MmioAddress) (word : ℕ) where
  abbrev register : Register
  register = register_at s.family address

  record Law (t : Access) : Type 0 where
    numbered : outcome_number t.outcome ≡ write_refusal s address word
    unmoved : Unmoved s t.state t.outcome
    spares : Spares s t.state

  write_law : Law (write_of s address word)
  unfolding write_of write_refusal
  write_law =
      by_test (known_family s.family)
      (λ u. by_test (is_writable register)
      (λ v. by_test (is_taken s address word)
      (λ w. simp (u, v, w) (record {
        numbered = simp (
          u,
          v,
          taken_free (is_abort address word) (some_slot_executes s) w,
        );
        unmoved = tt;
        spares = spares_write s register word;
      }))
      (λ w. simp (u, v, w) (record {
        numbered = simp (
          u,
          v,
          held_refused (is_abort address word) (some_slot_executes s) w,
        );
        unmoved = refl;
        spares = spares_all s;
      })))
      (λ v. by_test (is_taken s address word)
      (λ w. simp (u, v, w) (record { numbered = simp (u, v); unmoved = refl; spares = spares_all s }))
      (λ w. simp (u, v, w) (record { numbered = simp (u, v); unmoved = refl; spares = spares_all s }))))
      (λ u. simp u (record { numbered = simp u; unmoved = refl; spares = spares_all s }))

  trigger_here : address.0 ≡ trigger_at → register ≡ Register.Trigger
  unfolding register_at
  trigger_here h = simp h

  status_here : address.0 ≡ status_at → register ≡ Register.Status
  unfolding register_at
  status_here h = simp h

  events_here : address.0 ≡ 0x001578 → register ≡ Register.Events
  unfolding register_at
  events_here h = simp h

  write_stops : known_family s.family ≡ true → address.0 ≡ trigger_at → is_start word ≡ false → Stops s (slot_named s.family word) (write_of s address word)
  unfolding write_of after_trigger
  write_stops u h z =
      let name = slot_named s.family word in
      simp (u, trigger_here h, h, z) (record { taken = refl; idle = stopped_mode s name; ip = stopped_ip s name; still = stopped_still s name })

  write_triggers : TakenTrigger s address word (write_of s address word)
  unfolding write_of
  write_triggers h =
      cond_elim Taken (known_family s.family)
      (λ u. cond_elim Taken (is_writable register)
      (λ v. cond_elim Taken (is_taken s address word) (λ w d. rw (trigger_here h) (triggers s word)) (λ w d. undone d))
      (λ v d. undone d))
      (λ u d. undone d)
    where
      Taken : Access → Type 0
      Taken t = t.outcome ≡ Ok tt → Triggers s word t.state

  write_back : Roomy s → word < 2 ^ 32 → (write_of s address word).outcome ≡ Ok tt → is_readable register ≡ true
      → read_of (write_of s address word).state address ≡ Ok (kept_bits register word)
  unfolding write_of read_of
  write_back roomy small =
      cond_elim Back (known_family s.family)
      (λ u. cond_elim Back (is_writable register)
      (λ v. cond_elim Back (is_taken s address word)
      (λ w d r. let f = (spares_write s register word).family in simp (f, u) (word_back s roomy register word small (register_in_room s.family address) v r))
      (λ w d r. undone d))
      (λ v d r. undone d))
      (λ u d r. undone d)
    where
      Back : Access → Type 0
      Back t = t.outcome ≡ Ok tt → is_readable register ≡ true → read_of t.state address ≡ Ok (kept_bits register word)

  write_events : known_family s.family ≡ true → address.0 ≡ 0x001578 → outcome_number (write_of s address word).outcome ≡ 27
  unfolding write_of
  write_events u h = simp (u, events_here h)

  pub in_place : {t : Access} → t ≡ write_of s address word → WritesInPlace s address word t
  in_place e =
      let law = subst Law (sym e) write_law in
      record { answered = e; numbered = law.numbered; unmoved = law.unmoved; triggers = subst (TakenTrigger s address word) (sym e) write_triggers }

  pub host_writes : Roomy s → word < 2 ^ 32 → {t : Access} → t ≡ write_of s address word → HostWrites s address word t
  host_writes roomy small e =
      let law = subst Law (sym e) write_law in
      record {
        answered = e;
        numbered = law.numbered;
        unmoved = law.unmoved;
        triggers = subst (TakenTrigger s address word) (sym e) write_triggers;
        spares = law.spares;
        stops = λ u h z. subst (Stops s (slot_named s.family word)) (sym e) (write_stops u h z);
        reads_back = rw e (write_back roomy small);
        events = λ u h. subst (λ (t : Access). outcome_number t.outcome ≡ 27) (sym e) (write_events u h);
      }

reading_number_lem : (s : State) (register : Register) → reading_number (reading_of s register) ≡ cond (not (is_readable register)) 27 0
reading_number_lem s Register.Control = refl
reading_number_lem s Register.EntryPoint = refl
reading_number_lem s Register.Status = refl
reading_number_lem s Register.Trigger = refl
reading_number_lem s Register.Flags0 = refl
reading_number_lem s Register.Flags1 = refl
reading_number_lem s Register.EntryPointHigh = refl
reading_number_lem s (Register.Code at) = refl
reading_number_lem s Register.Events = refl
reading_number_lem s Register.Unlisted = refl

module _ (s : State) (address : MmioAddress) where
  abbrev Numbered : Result ℕ Inaccessible → Type 0
  Numbered t = reading_number t ≡ read_refusal s address

  read_number : Numbered (read_of s address)
  unfolding read_of read_refusal
  read_number = cond_elim Numbered (known_family s.family) (λ u. simp (u, reading_number_lem s (register_at s.family address))) (λ u. simp u)

  read_as : known_family s.family ≡ true → read_of s address ≡ reading_of s (register_at s.family address)
  unfolding read_of
  read_as u = simp u

  pub host_reads : {t : Result ℕ Inaccessible} → t ≡ read_of s address → HostReads s address t
  host_reads e = record {
    answered = e;
    numbered = subst Numbered (sym e) read_number;
    status = λ u h. (status_word s, e ∙ read_as u ∙ ap (reading_of s) (status_here s address 0 h), status_shown s);
    trigger = λ u h. subst (λ (t : Result ℕ Inaccessible). reading_number t ≡ 27) (sym e) (rw (read_as u, trigger_here s address 0 h));
    events = λ u h. subst (λ (t : Result ℕ Inaccessible). reading_number t ≡ 27) (sym e) (rw (read_as u, events_here s address 0 h));
  }
