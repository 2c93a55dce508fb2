-- A run writes at most 170 times: each write takes three bytes of a code RAM that has 512 at most. Assumes nothing.
use Rattle.std.specs.Prelude.{Ok, Err}
use Prim.Native.Nat.{ℕ, ◌+◌, ◌*◌, ◌≤◌}
use mathlib.Core.Bool.{Bool, true, false, cond}
use native.Mathlib.Omega.{arith}
use lib.ListN.{length, length-append}
use Rattle.families.specs.Family.{code_size}
use Rattle.isa.specs.declared.addresses.MmioAddress.{MmioAddress}
use Rattle.isa.specs.declared.instructions.Instruction.{Instruction}
use Rattle.isa.specs.Answers.{Decoded}
use Rattle.refusals.specs.declared.refusals.Unreadable.{Unreadable}
use Rattle.isa_fetch.proofs.Places.{size_small, Lies, fetch_lies}
use Rattle.event_log.specs.Log.{Log}
use Rattle.event_log.specs.declared.place.Place.{Place}
use Rattle.machine_actions.specs.Action.{merge_of}
use Rattle.machine_slot.specs.SlotStep.{perform_of, slot_step_of}
use Rattle.machine_actions.specs.declared.actions.Part.{Part}
use Rattle.machine_flags.specs.declared.flags.Flags.{Flags}
use Rattle.machine_state.specs.declared.slots.Slot.{Slot}
use Rattle.machine_slot.specs.declared.slot_steps.Effect.{Effect}
use Rattle.machine_slot.specs.declared.slot_steps.SlotStep.{SlotStep}
use Rattle.run.specs.Run.{wrote_by}
use Rattle.run.specs.SlotRun.{Scene, fetch_in, SlotRun, slot_begun, took_slot_step, next_slot_step, slot_run_for}
use Rattle.run.specs.Replay.{most_writes}
use Rattle.run.proofs.SlotRuns.{slot_elim, slot_step_elim}

-- ---- a write moves IP on by three bytes at least, and IP stays within 512 bytes

abbrev Roomy : ℕ → ℕ → Effect → Type 0
Roomy ip next effect = (3 * length (wrote_by effect) + ip ≤ next) × (ip ≤ 512 → next ≤ 512)

-- a poke writes once, or is blocked
poke_once : (enable : Bool) (address : MmioAddress) (word : ℕ) → length (wrote_by (cond enable (Effect.Wrote address word) Effect.Done)) ≤ 1
poke_once true address word = omega arith
poke_once false address word = omega arith

module _ (family : ℕ) (small : code_size family ≤ 512) (enable : Bool) (slot : Slot) (flags : Flags) (log : Log) (p : Place) where
  slot_step_room : (d : Decoded) → Lies family slot.ip.0 d
      → (let t = slot_step_of family enable slot flags log p d in Roomy slot.ip.0 t.slot.ip.0 t.effect)
  unfolding perform_of
  slot_step_room (Ok (Instruction.Wait length shift, n)) h = omega arith
  slot_step_room (Ok (Instruction.AddrLo low, n)) h =
      omega (arith, poke_once enable (record { 0 = merge_of Part.Low slot.addr.0 low }) slot.«data»)
  slot_step_room (Ok (Instruction.DataLo low, n)) h = omega arith
  slot_step_room (Ok (Instruction.Ewait event value, n)) h = omega arith
  slot_step_room (Ok (Instruction.Exit, n)) h = omega arith
  slot_step_room (Ok (Instruction.Unset flag, n)) h = omega arith
  slot_step_room (Ok (Instruction.Set1 flag, n)) h = omega arith
  slot_step_room (Ok (Instruction.Set0 flag, n)) h = omega arith
  slot_step_room (Ok (Instruction.Addr address, n)) h = omega (arith, poke_once enable address slot.«data»)
  slot_step_room (Ok (Instruction.Data word, n)) h = omega arith
  slot_step_room (Err Unreadable.Family) h = omega arith
  slot_step_room (Err Unreadable.Empty) h = omega arith
  slot_step_room (Err Unreadable.Unknown) h = omega arith
  slot_step_room (Err Unreadable.Short) h = omega arith
  slot_step_room (Err Unreadable.NotUploaded) h = omega arith

-- ---- runs

-- a run's writes leave room in the code RAM: IP is past the bytes of each
pub record Room (entry : ℕ) (r : SlotRun) : Type 0 where
  pub taken : 3 * length r.writes + entry ≤ r.slot.ip.0
  pub within : r.slot.ip.0 ≤ 512

module _ (x : Scene) where
  room_next : (entry : ℕ) (r : SlotRun) → Room entry r → Room entry (took_slot_step r (next_slot_step x r))
  room_next entry r h =
      let t = next_slot_step x r in
      let k = slot_step_elim x (λ (t : SlotStep). Roomy r.slot.ip.0 t.slot.ip.0 t.effect) r
      (λ _.
      slot_step_room x.family (size_small x.family) _ r.slot r.flags x.log r.place (fetch_in x r.slot.ip.0)
      (fetch_lies x.family x.code x.marks r.slot.ip.0))
      (omega arith, λ h. h) in
      record { taken = omega (arith, length-append r.writes (wrote_by t.effect), k.0); within = k.1 h.within }

  -- a slot writes at most 170 times, however many steps it takes
  pub slot_room : (slot : Slot) (flags : Flags) → slot.ip.0 ≤ 512 → (n : ℕ)
      → length (slot_run_for x n (slot_begun slot flags)).writes ≤ most_writes
  slot_room slot flags h n =
      omega (arith, slot_elim x (Room slot.ip.0) (room_next slot.ip.0) n (slot_begun slot flags) (record { taken = omega arith; within = h }))
