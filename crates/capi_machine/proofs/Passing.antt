-- From what a step promises of its answer to what the call with a C name promises of its reply. Assumes nothing.
use Prim.Native.Nat.{ℕ}
use mathlib.Core.Path.{◌≡◌, ap, subst, ◌∙◌}
use Rattle.event_log.specs.Log.{Log}
use Rattle.event_log.specs.declared.place.Place.{Place}
use Rattle.machine_state.specs.declared.slots.SlotName.{SlotName}
use Rattle.machine_state.specs.declared.state.State.{State}
use Rattle.machine_step.specs.Promises.{StepsOnce}
use Rattle.machine_step.specs.declared.steps.Stepped.{Stepped}
use Rattle.capi_state.specs.Images.{image_state}
use Rattle.capi_state.specs.declared.images.StateImage.{StateImage}
use Rattle.capi_state.proofs.Back.{image_back}
use Rattle.capi_machine.specs.Stepping.{slot_numbered, step_reply, HwsqStep}
use Rattle.capi_machine.specs.declared.stepping.StepReply.{StepReply}

step_back : (answer : Stepped) {reply : StepReply} → reply ≡ step_reply answer → image_state reply.state ≡ answer.state
unfolding step_reply
step_back answer told = ap (λ (r : StepReply). image_state r.state) told ∙ image_back answer.state

-- the call is of the state that the image stands for
module _ {image : StateImage} {s : State} (e : s ≡ image_state image) where
  pub step_passed : {slot : ℕ} {name : SlotName} {log : Log} {row used : ℕ} {answer : Stepped} {reply : StepReply} → name ≡ slot_numbered slot
      → StepsOnce s name log (record { row = row; used = used }) answer → reply ≡ step_reply answer → HwsqStep image slot log row used reply
  step_passed {slot} {name} {log} {row} {used} {answer} n p told =
      let place : Place = record { row = row; used = used } in
      let q : StepsOnce (image_state image) (slot_numbered slot) log place answer = rw (e, n) at p in
      record {
        answered = told ∙ ap step_reply q.answered;
        steps = subst (StepsOnce (image_state image) (slot_numbered slot) log place) q.answered q;
        handed_on = step_back answer told ∙ ap (λ (a : Stepped). a.state) q.answered;
      }
