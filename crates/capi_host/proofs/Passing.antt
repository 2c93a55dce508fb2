-- From what the host's calls promise of their answers to what the calls with C names promise of their replies. Assumes nothing.
use Prim.Native.Nat.{ℕ}
use mathlib.Core.Path.{◌≡◌, ap, subst, ◌∙◌}
use Rattle.std.specs.Prelude.{Result}
use Rattle.refusals.specs.declared.refusals.Inaccessible.{Inaccessible}
use Rattle.isa.specs.declared.addresses.MmioAddress.{MmioAddress}
use Rattle.machine_state.specs.declared.state.State.{State}
use Rattle.host_registers.specs.Promises.{Begins, HostWrites, HostReads}
use Rattle.host_registers.specs.declared.access.Access.{Access}
use Rattle.capi_state.specs.Images.{image_state}
use Rattle.capi_state.specs.declared.images.StateImage.{StateImage}
use Rattle.capi_state.proofs.Back.{image_back}
use Rattle.capi_host.specs.Accesses.{access_reply, read_reply, HwsqFresh, HwsqWrite, HwsqRead}
use Rattle.capi_host.specs.declared.accesses.AccessReply.{AccessReply}
use Rattle.capi_host.specs.declared.accesses.ReadReply.{ReadReply}

state_back : (answer : Access) {reply : AccessReply} → reply ≡ access_reply answer → image_state reply.state ≡ answer.state
state_back answer told = ap (λ (r : AccessReply). image_state r.state) told ∙ image_back answer.state

pub fresh_passed : {family : ℕ} {answer : Access} {reply : AccessReply} → Begins family answer → reply ≡ access_reply answer → HwsqFresh family reply
fresh_passed {family} {answer} p told = record {
  answered = told ∙ ap access_reply p.answered;
  begins = subst (Begins family) p.answered p;
  handed_on = state_back answer told ∙ ap (λ (a : Access). a.state) p.answered;
}

-- the call is of the state that the image stands for
module _ {image : StateImage} {s : State} (e : s ≡ image_state image) where
  pub write_passed : {address word : ℕ} {answer : Access} {reply : AccessReply}
      → HostWrites s (record { 0 = address }) word answer → reply ≡ access_reply answer → HwsqWrite image address word reply
  write_passed {address} {word} {answer} p told =
      let at : MmioAddress = record { 0 = address } in
      let q : HostWrites (image_state image) at word answer = rw e at p in
      record {
        answered = told ∙ ap access_reply q.answered;
        writes = subst (HostWrites (image_state image) at word) q.answered q;
        handed_on = state_back answer told ∙ ap (λ (a : Access). a.state) q.answered;
      }

  pub read_passed : {address : ℕ} {answer : Result ℕ Inaccessible} {reply : ReadReply}
      → HostReads s (record { 0 = address }) answer → reply ≡ read_reply answer → HwsqRead image address reply
  read_passed {address} {answer} p told =
      let at : MmioAddress = record { 0 = address } in
      let q : HostReads (image_state image) at answer = rw e at p in
      record { answered = told ∙ ap read_reply q.answered; reads = subst (HostReads (image_state image) at) q.answered q }
